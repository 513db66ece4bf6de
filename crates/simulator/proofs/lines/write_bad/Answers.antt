-- `write_bad` meets its contract: three texts, one behind the other.
use native.Mathlib.Omega.{arith}
use mathlib.Core.List.{List, [], ◌∷◌}
use Rattle.text.specs.Read.{newline, comma}
use Rattle.text.specs.Write.{decimal}
use Rattle.text.proofs.Laws.{decimal_le}
use Rattle.simulator.specs.Output.{bad_line}
use mathlib.Core.Path.{subst}
use Prim.Native.Nat.{ℕ}
use Rattle.simulator.specs.Steps.{Wrote}
use Rattle.simulator.proofs.Writing.{added, after, chain}
use Rattle.simulator.proofs.lines.write_bad.Goals as goal

pub returns : goal.returns
unfolding bad_line
returns c =
    let n = decimal_le c.args.line in
    let u = c.append.ensures in
    let d = c.append_decimal.ensures in
    let e = c.append-2.ensures in
    let a1 = added c.requires (0x62 ∷ 0x61 ∷ 0x64 ∷ comma ∷ []) (omega arith) (u.written, u.end) in
    let a2 = added (after a1 21 (omega arith)) (decimal c.args.line) (omega (arith, n)) (d.written, d.end) in
    let a3 = added (after a2 1 (omega (arith, n))) (newline ∷ []) (omega arith) (e.written, e.end) in
    subst (λ (o : List ℕ). Wrote c.args.out.now 0 (bad_line c.args.line) o c.append-2.new.self.end) (grind arith) (chain a1 (chain a2 a3.wrote))
