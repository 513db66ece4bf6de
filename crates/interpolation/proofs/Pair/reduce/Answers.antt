-- `Pair::reduce` meets its contract.
use Rattle.interpolation.specs.Interpolation.{ratio}
use Rattle.interpolation.proofs.Loops.{unread}
use Rattle.interpolation.proofs.Laws.{reduced-filled}
use Rattle.polynomial.proofs.Laws.{past_end}
use Rattle.lists.proofs.Fills.{filled_none, fill_more, fill_end}
use Rattle.gf256.proofs.Laws.{gadd_self, gmul-zero_r}
use Rattle.gf256.specs.Field.{gadd, gmul}
use lib.ListN.{get_or, length, set}
use native.Mathlib.Omega.{arith}
use native.Mathlib.Numerals.{add-one}
use Prim.Native.Nat.{ℕ, suc, ◌+◌, ◌-◌}
use mathlib.Core.List.{List}
use mathlib.Core.Path.{◌≡◌, refl, sym, ap, ap₂, ◌∙◌}
use Rattle.interpolation.proofs.Pair.reduce.Goals as goal

pub loop-i-init : goal.loop-i-init
loop-i-init c = (refl, sym (filled_none _ _))

pub loop-i-preserved : goal.loop-i-preserved
loop-i-preserved c =
    let q₀ = c.args.self.now.q.now in
    let e = c.args.self.now.e.now in
    let k = c.args.c in
    let i = c.loop-i.i in
    let q = c.loop-i.self.q.now in
    let inv = c.loop-i.invariant in
    let f : ℕ → ℕ = λ j. gadd (get_or q₀ (suc j) 0) (gmul k (get_or e (suc j) 0)) in (
      inv.0,
      fill_more f i q₀ q c.add.result (omega arith) inv.1
          (c.add.ensures
          ∙ ap₂ gadd (unread f i q₀ q inv.1 (i + 1) (omega arith) ∙ ap (λ j. get_or q₀ j 0) (add-one i))
          (c.mul.ensures ∙ ap (gmul k) (ap (λ (l : List ℕ). get_or l (i + 1) 0) inv.0 ∙ ap (λ j. get_or e j 0) (add-one i)))),
    )

pub returns : goal.returns
returns c =
    let q₀ = c.args.self.now.q.now in
    let e = c.args.self.now.e.now in
    let k = c.args.c in
    let i = c.loop-i.i in
    let q = c.loop-i.self.q.now in
    let inv = c.loop-i.invariant in
    let f : ℕ → ℕ = λ j. gadd (get_or q₀ (suc j) 0) (gmul k (get_or e (suc j) 0)) in
    let last : f i ≡ 0 = ap₂ gadd (past_end q₀ (suc i) (omega arith))
    (ap (gmul k) (past_end e (suc i) (omega (arith, c.requires.0))) ∙ gmul-zero_r k) ∙ gadd_self 0 in
    let end : length q₀ - 1 ≡ i = omega arith in
    ap₂ ratio
    (ap (λ n. set q n 0) end ∙ fill_end f (i + 1) q₀ _ (fill_more f i q₀ q 0 (omega arith) inv.1 (sym last)) (omega arith) ∙ sym (reduced-filled k q₀ e)) inv.0
