-- `append_result` meets its contract: six texts, one behind the other.
use mathlib.Core.Path.{ap, subst}
use Prim.Native.Nat.{ℕ}
use lib.ListN.{length}
use native.Mathlib.Omega.{arith}
use mathlib.Core.List.{List, [], ◌∷◌, ◌++◌}
use Rattle.text.specs.Read.{newline, comma}
use Rattle.text.specs.Write.{decimal, hexadecimal}
use Rattle.text.proofs.Laws.{length-hexadecimal}
use Rattle.simulator.specs.Steps.{Wrote}
use Rattle.simulator.specs.Output.{result_line}
use Rattle.simulator.proofs.Writing.{added, after, chain, word_le, number_le}
use Rattle.simulator.proofs.lines.append_result.Goals as goal

pub returns-clause-wrote : goal.returns-clause-wrote
unfolding result_line
returns-clause-wrote c =
    let a = c.args in
    let b = a.block.now in
    let v = word_le a.outcome in
    let u = ap length c.word.ensures in
    let x = length-hexadecimal b in
    let l = c.requires.1 in
    let n = number_le a.i c.requires.0 in
    let d = c.append_decimal.ensures in
    let f = c.append.ensures in
    let g = c.append-2.ensures in
    let s = c.append-3.ensures in
    let h = c.append_hex.ensures in
    let e = c.append-4.ensures in
    let a1 = added c.requires.2 (decimal a.i) (omega (arith, n)) (d.written, d.end) in
    let a2 = added (after a1 393 (omega (arith, n))) (comma ∷ []) (omega arith) (f.written, f.end) in
    let a3 = added (after a2 392 (omega arith)) c.word.result.now (omega (arith, v, u)) (g.written, g.end) in
    let a4 = added (after a3 386 (omega (arith, v, u))) (comma ∷ []) (omega arith) (s.written, s.end) in
    let a5 = added (after a4 385 (omega arith)) (hexadecimal b) (omega (arith, x, l)) (h.written, h.end) in
    let a6 = added (after a5 1 (omega (arith, x, l))) (newline ∷ []) (omega arith) (e.written, e.end) in
    subst (λ (t : List ℕ). Wrote a.w.now.out.now a.w.now.end (decimal a.i ++ (comma ∷ (t ++ (comma ∷ (hexadecimal b ++ (newline ∷ [])))))) c.append-4.new.self.out.now c.append-4.new.self.end) c.word.ensures
    (chain a1 (chain a2 (chain a3 (chain a4 (chain a5 a6.wrote)))))
