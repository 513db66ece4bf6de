-- Laws of neighbours: everyone is its own neighbour, neighbours are so both ways, and only the marks of the two count; and who makes a
-- missing pair with whom, in any graph.
use mathlib.Core.Path.{◌≡◌, refl, sym, ap₂, ◌∙◌}
use mathlib.Core.List.{List}
use mathlib.Core.Bool.{Bool, true, false, not, ◌&&◌, ◌||◌}
use Prim.Native.Nat.{ℕ, ◌≤◌, ◌<◌}
use borrow.Author.Tests.{eq-eqb, ne_eqb, lt-ltb, le-ltb, ltb-true, not-true}
use lib.Dec.{eqb, ltb}
use lib.ListN.{get_or}
use Rattle.lists.proofs.Tests.{eqb_comm, and_comm, and_left, and_right, and_no_left, and_tail, or_left, or_tail}
use Rattle.bitset.specs.Set.{member, set_of}
use Rattle.bitset.proofs.Laws.{member-set, member-set_past, set_ext, set_empty}
use Rattle.graph.specs.Neighbour.{neighbour, missing}

module _ (rows : List ℕ) where
  pub neighbour_self : (i : ℕ) → neighbour rows i i ≡ true
  unfolding neighbour
  neighbour_self i = or_left (eqb i i) (member (get_or rows i 0) i && member (get_or rows i 0) i) (eq-eqb i i refl)

  pub neighbour_sym : (i j : ℕ) → neighbour rows i j ≡ neighbour rows j i
  unfolding neighbour
  neighbour_sym i j = ap₂ (λ (x y : Bool). x || y) (eqb_comm i j) (and_comm (member (get_or rows i 0) j) (member (get_or rows j 0) i))

  -- who is another is a neighbour if both mark each other
  pub neighbour_other : (i j : ℕ) → (i ≡ j → ⊥) → neighbour rows i j ≡ (member (get_or rows i 0) j && member (get_or rows j 0) i)
  unfolding neighbour
  neighbour_other i j n = or_tail (eqb i j) (member (get_or rows i 0) j && member (get_or rows j 0) i) (ne_eqb i j n)

-- only the marks of the two count
pub neighbour_same : (rows nrows : List ℕ) (i j : ℕ) → member (get_or rows i 0) j ≡ member (get_or nrows i 0) j
    → member (get_or rows j 0) i ≡ member (get_or nrows j 0) i
    → neighbour rows i j ≡ neighbour nrows i j
unfolding neighbour
neighbour_same rows nrows i j a b = ap₂ (λ (x y : Bool). eqb i j || (x && y)) a b

-- ---- missing pairs
module _ (n : ℕ) (adj : ℕ → ℕ → Bool) where
  pub missing-member : (i j : ℕ) → i < n → j < n → member (missing n adj i) j ≡ not (adj i j)
  unfolding missing
  missing-member i j li lj = member-set n (λ x. ltb i n && not (adj i x)) j lj ∙ and_tail (ltb i n) (not (adj i j)) (lt-ltb i n li)

  pub missing_past : (i j : ℕ) → n ≤ j → member (missing n adj i) j ≡ false
  unfolding missing
  missing_past i j l = member-set_past n (λ x. ltb i n && not (adj i x)) j l

  -- a member makes a pair below n
  pub missing_out : (i j : ℕ) → j < n → member (missing n adj i) j ≡ true → (i < n) × (adj i j ≡ false)
  unfolding missing
  missing_out i j l m =
      let both = sym (member-set n (λ x. ltb i n && not (adj i x)) j l) ∙ m in
      (ltb-true i n (and_left (ltb i n) (not (adj i j)) both), not-true (adj i j) (and_right (ltb i n) (not (adj i j)) both))

  -- the set as the code makes it
  pub missing_is : (i : ℕ) → i < n → set_of n (λ j. not (adj i j)) ≡ missing n adj i
  unfolding missing
  missing_is i l = set_ext n (λ j. not (adj i j)) (λ j. ltb i n && not (adj i j)) (λ j _. sym (and_tail (ltb i n) (not (adj i j)) (lt-ltb i n l)))

  pub missing_none : (i : ℕ) → n ≤ i → missing n adj i ≡ 0
  unfolding missing
  missing_none i l = set_empty n (λ j. ltb i n && not (adj i j)) (λ j. and_no_left (ltb i n) (not (adj i j)) (le-ltb i n l))
