-- `Pair::divide` meets its contract.
use Rattle.interpolation.proofs.Loops.{write_next, write_end}
use Rattle.interpolation.proofs.Laws.{series_none, series-suc, reduced-filled}
use Rattle.interpolation.specs.Interpolation.{Ratio, series}
use Rattle.lists.proofs.Fills.{length-tabulate}
use Rattle.gf256.specs.Field.{gmul, ginv}
use lib.ListN.{length, get_or}
use native.Mathlib.Omega.{arith}
use Prim.Native.Nat.{suc, ◌+◌, ◌-◌}
use mathlib.Core.List.{◌∷◌}
use mathlib.Core.Path.{◌≡◌, sym, ap, ◌∙◌}
use Rattle.interpolation.proofs.Pair.divide.Goals as goal

pub loop-x-preserved : goal.loop-x-preserved
loop-x-preserved c =
    let l = c.loop-x in
    let inv = l.invariant in
    let q = l.self.q.now in
    let e = l.self.e.now in
    let v = c.mul-c.result in
    let n = length c.args.m.now - (l.x-index + 1) in
    let more : length c.args.m.now - l.x-index ≡ suc n = omega arith in
    let r = c.reduce.ensures in
    let is : v ≡ gmul (get_or q 0 0) (ginv (get_or e 0 0)) = c.mul-c.ensures
    ∙ ap (gmul (get_or q 0 0)) (c.inv-inverse.ensures ∙ ap (λ l. ginv (get_or l 0 0)) (sym inv.0)) in (
      ap (λ (P : Ratio). P.E) r ∙ inv.0,
      ap (λ (P : Ratio). length P.Q) r ∙ ap length (reduced-filled v q e) ∙ length-tabulate _ (length q) ∙ inv.1,
      write_next l.m _ (series (length c.args.m.now - l.x-index) q e) _ l.x-index v (omega arith)
          (ap (λ k. series k q e) more ∙ series-suc n v q e is ∙ ap (λ (P : Ratio). v ∷ series n P.Q P.E) (sym r)) inv.2,
    )

pub returns : goal.returns
returns c =
    let l = c.loop-x in
    let n = length c.args.m.now in
    let none : n - l.x-index ≡ 0 = omega arith in
    write_end l.m _ (series (n - l.x-index) l.self.q.now l.self.e.now) l.x-index (omega arith)
    (ap (λ k. series k l.self.q.now l.self.e.now) none ∙ series_none l.self.q.now l.self.e.now) l.invariant.2
