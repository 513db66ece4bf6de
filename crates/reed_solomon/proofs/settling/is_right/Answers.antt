-- `is_right` meets its contract: as many are marked as differ.
use mathlib.Core.Path.{◌≡◌, ap, ◌∙◌}
use mathlib.Core.List.{List}
use Prim.Native.Nat.{ℕ, ◌+◌, ◌*◌, ◌≤◌}
use native.Mathlib.Omega.{arith}
use lib.Dec.{leb}
use lib.ListN.{length}
use Rattle.bitset.specs.Set.{size_of}
use Rattle.reed_solomon.specs.Steps.{different, differences}
use Rattle.reed_solomon.proofs.Right.{size_different}
use Rattle.reed_solomon.proofs.Stripes.{differences_le}
use Rattle.reed_solomon.proofs.settling.is_right.Goals as goal

module _ (xs ys m : List ℕ) (marks size : ℕ) (e : size ≡ size_of marks) (h : marks ≡ different xs ys m) (few : length xs ≤ 16) where
  counted : size ≡ differences xs ys m
  counted = e ∙ ap size_of h ∙ size_different xs ys m few

  small : size ≤ 16
  small = omega (arith, counted, differences_le xs ys m)

pub overflow_mul-result : goal.overflow_mul-result
overflow_mul-result c =
    let a = c.args in omega (arith, small a.xs.now a.ys.now a.m.now _ _ c.size.ensures c.mark_different.ensures c.requires.1)

pub overflow_add-result : goal.overflow_add-result
overflow_add-result c =
    let a = c.args in omega (arith, small a.xs.now a.ys.now a.m.now _ _ c.size.ensures c.mark_different.ensures c.requires.1, c.requires.2)

pub overflow_add-result-2 : goal.overflow_add-result-2
overflow_add-result-2 c =
    let a = c.args in omega (arith, small a.xs.now a.ys.now a.m.now _ _ c.size.ensures c.mark_different.ensures c.requires.1, c.requires.2)

pub returns : goal.returns
returns c =
    let a = c.args in
    ap (λ d. leb (2 * d + a.t + 1) (length a.xs.now)) (counted a.xs.now a.ys.now a.m.now _ _ c.size.ensures c.mark_different.ensures c.requires.1)
