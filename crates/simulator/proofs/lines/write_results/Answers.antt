-- `write_results` meets its contract: the line of names, and the lines of the controllers behind it.
use native.Mathlib.Omega.{arith}
use mathlib.Core.List.{List, ◌++◌}
use mathlib.Core.Path.{subst}
use Prim.Native.Nat.{ℕ, ◌*◌}
use Rattle.simulator.specs.Output.{names_line}
use Rattle.simulator.specs.Steps.{Wrote}
use Rattle.simulator.proofs.Writing.{added, after, chain, lines}
use Rattle.simulator.proofs.lines.write_results.Goals as goal

pub append_results-requires : goal.append_results-requires
append_results-requires c =
    let names = added c.requires.2 names_line (omega arith) (c.append.ensures.written, c.append.ensures.end) in
    (c.requires.0, c.requires.1, after names (c.args.file.now.settings.n * 395) (omega (arith, c.requires.0)))

pub returns : goal.returns
returns c =
    let a = c.args in
    let names = added c.requires.2 names_line (omega arith) (c.append.ensures.written, c.append.ensures.end) in
    subst
    (λ (o : List ℕ).
    Wrote a.out.now 0 (names_line ++ lines a.file.now.faulty a.controllers.now a.b a.file.now.settings.n) o c.append_results.new.w.end)
    (grind arith) (chain names c.append_results.ensures.wrote)
