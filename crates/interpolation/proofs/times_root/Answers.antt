-- `times_root` meets its contract.
use Rattle.interpolation.proofs.Loops.{unread}
use Rattle.polynomial.proofs.Laws.{root_filled}
use Rattle.lists.proofs.Fills.{filled_none, fill_more, fill_end}
use Rattle.gf256.specs.Field.{gadd, gmul}
use lib.ListN.{get_or}
use native.Mathlib.Omega.{arith}
use native.Mathlib.Numerals.{add-one}
use Prim.Native.Nat.{ℕ}
use mathlib.Core.List.{◌∷◌}
use mathlib.Core.Path.{◌≡◌, refl, sym, ap, ap₂, ◌∙◌}
use Rattle.interpolation.proofs.times_root.Goals as goal

pub loop-c-init : goal.loop-c-init
loop-c-init c = (refl, sym (filled_none _ _))

pub loop-c-preserved : goal.loop-c-preserved
loop-c-preserved c =
    let a = c.args in
    let p₀ = a.p.now in
    let l = c.loop-c in
    let f : ℕ → ℕ = λ j. gadd (get_or (0 ∷ p₀) j 0) (gmul a.x (get_or p₀ j 0)) in
    let same : get_or l.p l.c-index 0 ≡ get_or p₀ l.c-index 0 = unread f l.c-index p₀ l.p l.invariant.1 l.c-index (omega arith) in (
      same ∙ sym (ap (λ j. get_or (0 ∷ p₀) j 0) (add-one l.c-index)),
      fill_more f l.c-index p₀ l.p c.add.result (omega arith) l.invariant.1
          (c.add.ensures ∙ ap₂ gadd l.invariant.0 (c.mul.ensures ∙ ap (gmul a.x) same)),
    )

pub returns : goal.returns
returns c =
    let a = c.args in
    let p₀ = a.p.now in
    let l = c.loop-c in
    fill_end (λ j. gadd (get_or (0 ∷ p₀) j 0) (gmul a.x (get_or p₀ j 0))) l.c-index p₀ l.p l.invariant.1 (omega arith)
    ∙ sym (root_filled a.x p₀)
