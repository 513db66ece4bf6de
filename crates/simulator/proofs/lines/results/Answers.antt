-- `results` meets its contract.
use native.Mathlib.Omega.{arith}
use Rattle.wire.proofs.Laws.{block_size_is}
use Rattle.simulator.proofs.Running.{block_le}
use mathlib.Core.List.{◌++◌}
use mathlib.Core.Path.{subst, ◌∙◌}
use Prim.Native.Nat.{ℕ}
use lib.ListN.{replicate}
use Rattle.simulator.specs.Output.{names_line}
use Rattle.simulator.specs.Steps.{Wrote}
use Rattle.simulator.proofs.Writing.{lines, zeros-room, zeros_wrote}
use Rattle.simulator.proofs.lines.results.Goals as goal

pub write_results-length-requires : goal.write_results-length-requires
write_results-length-requires c =
    let h = c.requires in
    (h.coded.quorum.n_most, omega (arith, c.block_length-b.ensures, block_size_is h.coded, block_le h), zeros-room 6400 6400 (omega arith))

pub returns : goal.returns
returns c =
    let f = c.args.file.now in
    let b = c.block_length-b.ensures ∙ block_size_is c.requires.coded in
    zeros_wrote 6400
    (subst
    (λ (x : ℕ).
    Wrote (replicate 6400 0) 0 (names_line ++ lines f.faulty c.args.controllers.now x f.settings.n) c.write_results-length.new.out c.write_results-length.result)
    b c.write_results-length.ensures)
