-- The order of the 120 pairs: places and pairs correspond one to one (`place_pair`, `pair_place`) and the order is that of the smaller
-- index and then the larger (`order_rises`), by tests that are computed over the whole order and carried to each place. Then how the place
-- goes on from pair to pair, as the code's loops do, and the code's formula for it.
use mathlib.Core.Path.{◌≡◌, refl, subst, ◌∙◌}
use mathlib.Core.Logic.{inl, inr, ⊎_elim}
use mathlib.Core.Bool.{Bool, true, false, ◌||◌}
use Prim.Native.Nat.{ℕ, zero, suc, ◌+◌, ◌-◌, ◌*◌, ◌/◌, ◌<◌}
use native.Mathlib.Omega.{arith}
use borrow.Author.Tests.{ltb-true}
use lib.Dec.{T, eqb, ltb, eqb→eq, ltb→lt}
use Rattle.lists.specs.Sum.{sum}
use Rattle.lists.proofs.Sums.{sum_more}
use Rattle.lists.proofs.Table.{both, both_left, both_right, below, below_at}
use Rattle.graph.specs.Pairs.{Pair, Before, with_larger, pairs_from, order, pair_at, place}

-- the test of a place: its pair is a pair of indices, the smaller first, and has that place
abbrev placed : ℕ → Bool
placed p = both (ltb (pair_at p).0 (pair_at p).1) (both (ltb (pair_at p).1 16) (eqb (place (pair_at p).0 (pair_at p).1) p))

all_placed_lem : T (below 120 placed)
unfolding with_larger pairs_from order pair_at place sum
all_placed_lem = tt

pub place_pair : (p : ℕ) → p < 120 → ((pair_at p).0 < (pair_at p).1) × ((pair_at p).1 < 16) × (place (pair_at p).0 (pair_at p).1 ≡ p)
place_pair p l =
    let t = below_at 120 placed all_placed_lem p l in
    let u = both_right (ltb (pair_at p).0 (pair_at p).1) _ t in (
      ltb→lt (pair_at p).0 (pair_at p).1 (both_left (ltb (pair_at p).0 (pair_at p).1) _ t),
      ltb→lt (pair_at p).1 16 (both_left (ltb (pair_at p).1 16) _ u),
      eqb→eq (place (pair_at p).0 (pair_at p).1) p (both_right (ltb (pair_at p).1 16) _ u),
    )

-- the test of a pair: its place is below 120 and has that pair
abbrev held : ℕ → ℕ → Bool
held i j = both (ltb (place i j) 120) (both (eqb (pair_at (place i j)).0 i) (eqb (pair_at (place i j)).1 j))

-- for the larger index j, of all smaller ones
all_held : T (below 16 (λ j. below j (λ i. held i j)))
unfolding with_larger pairs_from order pair_at place sum
all_held = tt

pub pair_place : (i j : ℕ) → i < j → j < 16 → (place i j < 120) × ((pair_at (place i j)).0 ≡ i) × ((pair_at (place i j)).1 ≡ j)
pair_place i j l m =
    let t = below_at j (λ i. held i j) (below_at 16 (λ j. below j (λ i. held i j)) all_held j m) i l in
    let u = both_right (ltb (place i j) 120) _ t in (
      ltb→lt (place i j) 120 (both_left (ltb (place i j) 120) _ t),
      eqb→eq (pair_at (place i j)).0 i (both_left (eqb (pair_at (place i j)).0 i) _ u),
      eqb→eq (pair_at (place i j)).1 j (both_right (eqb (pair_at (place i j)).0 i) _ u),
    )

-- the test of two pairs in a row
abbrev rises : ℕ → Bool
rises p =
    ltb (pair_at p).0 (pair_at (p + 1)).0
    || both (eqb (pair_at p).0 (pair_at (p + 1)).0) (ltb (pair_at p).1 (pair_at (p + 1)).1)

all_rise : T (below 119 rises)
unfolding with_larger pairs_from order pair_at
all_rise = tt

rise_next : (p : ℕ) → p < 119 → Before (pair_at p) (pair_at (p + 1))
rise_next p l = go (ltb (pair_at p).0 (pair_at (p + 1)).0) refl (below_at 119 rises all_rise p l)
  where
    rest : Bool
    rest = both (eqb (pair_at p).0 (pair_at (p + 1)).0) (ltb (pair_at p).1 (pair_at (p + 1)).1)

    go : (b : Bool) → ltb (pair_at p).0 (pair_at (p + 1)).0 ≡ b → T (b || rest) → Before (pair_at p) (pair_at (p + 1))
    go true e t = inl (ltb-true (pair_at p).0 (pair_at (p + 1)).0 e)
    go false e t =
        inr (
          eqb→eq (pair_at p).0 (pair_at (p + 1)).0 (both_left (eqb (pair_at p).0 (pair_at (p + 1)).0) _ t),
          ltb→lt (pair_at p).1 (pair_at (p + 1)).1 (both_right (eqb (pair_at p).0 (pair_at (p + 1)).0) _ t),
        )

before_trans : (a b c : Pair) → Before a b → Before b c → Before a c
before_trans a b c l m =
    ⊎_elim
    (λ (x : a.0 < b.0). ⊎_elim (λ (y : b.0 < c.0). inl (omega arith)) (λ y. inl (omega (arith, y.0))) m)
    (λ x. ⊎_elim (λ (y : b.0 < c.0). inl (omega (arith, x.0))) (λ y. inr (x.0 ∙ y.0, omega (arith, x.1, y.1))) m)
    l

pub order_rises : (p d : ℕ) → p + suc d < 120 → Before (pair_at p) (pair_at (p + suc d))
order_rises p zero l = rise_next p (omega arith)
order_rises p (suc d) l =
    let e : p + suc d + 1 ≡ p + suc (suc d) = omega arith in
    before_trans (pair_at p) (pair_at (p + suc d)) (pair_at (p + suc (suc d))) (order_rises p d (omega arith))
    (subst (λ (x : ℕ). Before (pair_at (p + suc d)) (pair_at x)) e (rise_next (p + suc d) (omega arith)))

-- ---- from pair to pair
pub place_first : place 0 1 ≡ 0
unfolding place sum
place_first = refl

-- the next larger index
pub place_next : (i j : ℕ) → i < j → place i (j + 1) ≡ place i j + 1
unfolding place
place_next i j l = omega arith

-- the next smaller index
pub place_turn : (i : ℕ) → i < 16 → place i 16 ≡ place (i + 1) (i + 1 + 1)
unfolding place
place_turn i l = omega (arith, sum_more i (λ x. 15 - x))

pub place_end : place 16 17 ≡ 120
unfolding place sum
place_end = refl

-- ---- the code's formula for where the pairs of a smaller index start
abbrev formed : ℕ → Bool
formed i = both (eqb (i * (31 - i) / 2) (sum i (λ x. 15 - x))) (ltb (i * (31 - i)) 256)

all_formed : T (below 16 formed)
unfolding sum
all_formed = tt

pub first_formula : (i : ℕ) → i < 16 → (i * (31 - i) / 2 ≡ sum i (λ x. 15 - x)) × (i * (31 - i) < 256)
first_formula i l =
    let t = below_at 16 formed all_formed i l in
    let a = eqb (i * (31 - i) / 2) (sum i (λ x. 15 - x)) in
    (eqb→eq (i * (31 - i) / 2) (sum i (λ x. 15 - x)) (both_left a _ t), ltb→lt (i * (31 - i)) 256 (both_right a _ t))
