-- Members of sets made by operations on sets: `in-` says what a member of the result is, `-in` who is one.
use mathlib.Core.Path.{◌≡◌, refl, sym, ap, ◌∙◌}
use mathlib.Core.Logic.{◌⊎◌, ⊎_elim}
use mathlib.Core.Bool.{Bool, true, false, not, ◌&&◌}
use Prim.Native.Nat.{ℕ, ◌^◌, ◌≤◌, ◌<◌}
use native.Mathlib.Omega.{arith}
use borrow.Author.Tests.{eqb-true, eq-eqb, ne_eqb, not-true}
use lib.Dec.{eqb}
use Rattle.lists.proofs.Tests.{true≢false, fails, and_left, and_right, and_both, or_cases, or_left, or_right, lt_or_le}
use Rattle.bitset.specs.Set.{member, set_of, size_of, inserted, removed, intersection, difference, union, lowest_of}
use Rattle.bitset.proofs.Laws.{member-set, member-set_past, none_in_0, member_below, member_insert, insert_lt, member_remove, remove_lt, size_below}
use Rattle.bitset.proofs.Laws.{lowest_some, lowest_member}
use Rattle.bitset.proofs.Laws.{member-intersection, member-difference, member_union, size_difference, intersection_lt, difference_lt, union_lt}
use Rattle.lists.proofs.Sums.{count_split, count_some}
use Rattle.matching.specs.Steps.{In}

-- a member is below 16
pub in_lt : (s x : ℕ) → s < 2 ^ 16 → In s x → x < 16
in_lt = member_below 16

pub not_in : (s x : ℕ) → member s x ≡ false → In s x → ⊥
not_in s x e a = true≢false (sym a ∙ e)

-- the set of a test
pub in_set : (n : ℕ) (p : ℕ → Bool) (x : ℕ) → In (set_of n p) x → (x < n) × (p x ≡ true)
in_set n p x a =
    ⊎_elim (λ (l : x < n). (l, sym (member-set n p x l) ∙ a)) (λ (l : n ≤ x). absurd (not_in (set_of n p) x (member-set_past n p x l) a)) (lt_or_le x n)

pub set_in : (n : ℕ) (p : ℕ → Bool) (x : ℕ) → x < n → p x ≡ true → In (set_of n p) x
set_in n p x l e = member-set n p x l ∙ e

module _ (a b x : ℕ) where
  pub in_intersection : In (intersection a b) x → In a x × In b x
  in_intersection h =
      let r = sym (member-intersection a b x (in_lt (intersection a b) x (intersection_lt a b) h)) ∙ h in
      (and_left (member a x) (member b x) r, and_right (member a x) (member b x) r)

  pub intersection_in : x < 16 → In a x → In b x → In (intersection a b) x
  intersection_in l h g = member-intersection a b x l ∙ and_both (member a x) (member b x) h g

  pub in_difference : In (difference a b) x → In a x × (In b x → ⊥)
  in_difference h =
      let r = sym (member-difference a b x (in_lt (difference a b) x (difference_lt a b) h)) ∙ h in
      (and_left (member a x) (not (member b x)) r, not_in b x (not-true (member b x) (and_right (member a x) (not (member b x)) r)))

  pub difference_in : x < 16 → In a x → (In b x → ⊥) → In (difference a b) x
  difference_in l h g = member-difference a b x l ∙ and_both (member a x) (not (member b x)) h (ap not (fails (member b x) g))

  pub in_union : In (union a b) x → In a x ⊎ In b x
  in_union h = or_cases (member a x) (member b x) (sym (member_union a b x (in_lt (union a b) x (union_lt a b) h)) ∙ h)

  pub union_left : x < 16 → In a x → In (union a b) x
  union_left l h = member_union a b x l ∙ or_left (member a x) (member b x) h

  pub union_right : x < 16 → In b x → In (union a b) x
  union_right l h = member_union a b x l ∙ or_right (member a x) (member b x) h

-- removing and inserting one
pub in_remove : (s v x : ℕ) → In (removed s v) x → In s x × (x ≡ v → ⊥)
in_remove s v x h =
    let r : (member s x && not (eqb x v)) ≡ true = sym (member_remove s v x (in_lt (removed s v) x (remove_lt s v) h)) ∙ h in
    (and_left (member s x) (not (eqb x v)) r, λ e. true≢false (sym (eq-eqb x v e) ∙ not-true (eqb x v) (and_right (member s x) (not (eqb x v)) r)))

pub remove_in : (s v x : ℕ) → x < 16 → In s x → (x ≡ v → ⊥) → In (removed s v) x
remove_in s v x l h n = member_remove s v x l ∙ and_both (member s x) (not (eqb x v)) h (ap not (ne_eqb x v n))

pub in_single : (v x : ℕ) → In (inserted 0 v) x → x ≡ v
in_single v x h =
    let l = in_lt (inserted 0 v) x (insert_lt 0 v) h in
    ⊎_elim (λ (e : member 0 x ≡ true). absurd (none_in_0 x e)) (λ (e : eqb x v ≡ true). eqb-true x v e)
    (or_cases (member 0 x) (eqb x v) (sym (member_insert 0 v x l) ∙ h))

pub single_in : (v : ℕ) → v < 16 → In (inserted 0 v) v
single_in v l = member_insert 0 v v l ∙ or_right (member 0 v) (eqb v v) (eq-eqb v v refl)

-- a set that is not empty has a member
pub some_in : (s : ℕ) → s < 2 ^ 16 → 0 < s → (x : ℕ) × In s x
some_in s h p = let l = lowest_some s h p in (lowest_of s, lowest_member s l)

-- taking a set out that has a member of s leaves fewer
pub difference_fewer : (s c v : ℕ) → s < 2 ^ 16 → In s v → In c v → size_of (difference s c) < size_of s
difference_fewer s c v l h g =
    omega (
      arith,
      size_difference s c,
      size_below 16 s (omega arith) l,
      count_split 16 (member s) (member c),
      count_some 16 (λ i. member s i && member c i) v (in_lt s v l h) (and_both (member s v) (member c v) h g),
    )
