-- Laws of the operations on two sets: who is a member of the result, and that it is a number of 16 digits. Then the processor's `&`, `|` and `^`,
-- by which the code makes them. The main ones: `member-intersection`, `member-difference`, `member_union`.
use mathlib.Core.Path.{◌≡◌, refl, sym, ap, ◌∙◌}
use mathlib.Core.Bool.{Bool, true, false, not, ◌&&◌, ◌||◌}
use Prim.Native.Nat.{ℕ, zero, suc, ◌/◌, ◌%◌, ◌^◌, ◌≤◌, ◌<◌}
use native.Mathlib.Omega.{arith}
use lib.Bits.{bit_and, bit_or, bit_xor, and_shr, or_shr, xor_shr, and_mod, or_mod, xor_mod, and_lt, or_lt, xor_lt}
use lib.Dec.{eqb, lit<}
use borrow.Author.Tests.{ne_eqb}
use native.Mathlib.Nat.{zero-add}
use Rattle.lists.specs.Sum.{count}
use Rattle.bitset.specs.Set.{member, set_of, size_of, inserted, removed, intersection, difference, union}
use Rattle.bitset.proofs.Sets.{set_lt, set_ext, set_empty, member-set, member_none, insert_add, ext, size_set}

pub member-intersection : (a b i : ℕ) → i < 16 → member (intersection a b) i ≡ (member a i && member b i)
unfolding intersection
member-intersection a b i l = member-set 16 (λ i. member a i && member b i) i l

pub member-difference : (a b i : ℕ) → i < 16 → member (difference a b) i ≡ (member a i && not (member b i))
unfolding difference
member-difference a b i l = member-set 16 (λ i. member a i && not (member b i)) i l

pub member_union : (a b i : ℕ) → i < 16 → member (union a b) i ≡ (member a i || member b i)
unfolding union
member_union a b i l = member-set 16 (λ i. member a i || member b i) i l

pub size_difference : (a b : ℕ) → size_of (difference a b) ≡ count 16 (λ i. member a i && not (member b i))
unfolding difference
size_difference a b = size_set 16 (λ i. member a i && not (member b i)) (omega arith)

pub intersection_lt : (a b : ℕ) → intersection a b < 2 ^ 16
unfolding intersection
intersection_lt a b = set_lt 16 (λ i. member a i && member b i)

pub difference_lt : (a b : ℕ) → difference a b < 2 ^ 16
unfolding difference
difference_lt a b = set_lt 16 (λ i. member a i && not (member b i))

pub union_lt : (a b : ℕ) → union a b < 2 ^ 16
unfolding union
union_lt a b = set_lt 16 (λ i. member a i || member b i)

-- ---- with the set of one index
pub single_is : (i : ℕ) → i < 16 → set_of 16 (λ j. eqb j i) ≡ 2 ^ i
unfolding inserted
single_is i l =
    set_ext 16 (λ j. eqb j i) (λ j. member 0 j || eqb j i) (λ j m. rw (member_none j))
    ∙ insert_add 0 i (lit< tt) l (member_none i)
    ∙ zero-add (2 ^ i)

pub single_over : (i : ℕ) → 16 ≤ i → set_of 16 (λ j. eqb j i) ≡ 0
single_over i l = set_ext 16 (λ j. eqb j i) (λ _. false) (λ j m. ne_eqb j i (λ e. omega arith)) ∙ set_empty 16 (λ _. false) (λ _. refl)

pub union_single : (s i : ℕ) → union s (set_of 16 (λ j. eqb j i)) ≡ inserted s i
unfolding union inserted
union_single s i = set_ext 16 _ _ (λ j m. ap (λ b. member s j || b) (member-set 16 (λ j. eqb j i) j m))

pub difference_single : (s i : ℕ) → difference s (set_of 16 (λ j. eqb j i)) ≡ removed s i
unfolding difference removed
difference_single s i = set_ext 16 _ _ (λ j m. ap (λ b. member s j && not b) (member-set 16 (λ j. eqb j i) j m))

-- ---- the processor's operations, digit by digit
-- what two digits say, from its four cases
two_digits : (f : ℕ → ℕ → ℕ) (g : Bool → Bool → Bool) → eqb (f 0 0) 1 ≡ g false false → eqb (f 0 1) 1 ≡ g false true → eqb (f 1 0) 1 ≡ g true false
    → eqb (f 1 1) 1 ≡ g true true → (x y : ℕ) → x < 2 → y < 2 → eqb (f x y) 1 ≡ g (eqb x 1) (eqb y 1)
two_digits f g a b c d zero zero _ _ = a
two_digits f g a b c d zero (suc zero) _ _ = b
two_digits f g a b c d (suc zero) zero _ _ = c
two_digits f g a b c d (suc zero) (suc zero) _ _ = d
two_digits f g a b c d (suc (suc x)) y h _ = absurd (omega arith)
two_digits f g a b c d zero (suc (suc y)) _ h = absurd (omega arith)
two_digits f g a b c d (suc zero) (suc (suc y)) _ h = absurd (omega arith)

digit_and : (x y : ℕ) → x < 2 → y < 2 → eqb (bit_and x y) 1 ≡ (eqb x 1 && eqb y 1)
digit_and = two_digits bit_and (λ p q. p && q) refl refl refl refl

digit_or : (x y : ℕ) → x < 2 → y < 2 → eqb (bit_or x y) 1 ≡ (eqb x 1 || eqb y 1)
digit_or = two_digits bit_or (λ p q. p || q) refl refl refl refl

-- exclusive or with a part of x
digit_less : (x y : ℕ) → x < 2 → y < 2 → eqb (bit_xor x (bit_and x y)) 1 ≡ (eqb x 1 && not (eqb y 1))
digit_less = two_digits (λ x y. bit_xor x (bit_and x y)) (λ p q. p && not q) refl refl refl refl

digit_lt : (x : ℕ) → x % 2 < 2
digit_lt x = omega arith

module _ (a b : ℕ) where
  at_and : (i : ℕ) → member (bit_and a b) i ≡ (member a i && member b i)
  unfolding member
  at_and i =
      ap (λ (d : ℕ). eqb (d % 2) 1) (and_shr a b i) ∙ ap (λ (d : ℕ). eqb d 1) (and_mod (a / 2 ^ i) (b / 2 ^ i) 1)
      ∙ digit_and (a / 2 ^ i % 2) (b / 2 ^ i % 2) (digit_lt (a / 2 ^ i)) (digit_lt (b / 2 ^ i))

  at_or : (i : ℕ) → member (bit_or a b) i ≡ (member a i || member b i)
  unfolding member
  at_or i =
      ap (λ (d : ℕ). eqb (d % 2) 1) (or_shr a b i) ∙ ap (λ (d : ℕ). eqb d 1) (or_mod (a / 2 ^ i) (b / 2 ^ i) 1)
      ∙ digit_or (a / 2 ^ i % 2) (b / 2 ^ i % 2) (digit_lt (a / 2 ^ i)) (digit_lt (b / 2 ^ i))

  at_less : (i : ℕ) → member (bit_xor a (bit_and a b)) i ≡ (member a i && not (member b i))
  unfolding member
  at_less i =
      ap (λ (d : ℕ). eqb (d % 2) 1) (xor_shr a (bit_and a b) i ∙ ap (bit_xor (a / 2 ^ i)) (and_shr a b i))
      ∙ ap (λ (d : ℕ). eqb d 1) (xor_mod (a / 2 ^ i) (bit_and (a / 2 ^ i) (b / 2 ^ i)) 1 ∙ ap (bit_xor (a / 2 ^ i % 2)) (and_mod (a / 2 ^ i) (b / 2 ^ i) 1))
      ∙ digit_less (a / 2 ^ i % 2) (b / 2 ^ i % 2) (digit_lt (a / 2 ^ i)) (digit_lt (b / 2 ^ i))

  -- a number of 16 digits is the set of the test that its digits meet
  is_set : (x : ℕ) (p : ℕ → Bool) → x < 2 ^ 16 → ((i : ℕ) → member x i ≡ p i) → x ≡ set_of 16 p
  is_set x p l h = ext 16 x (set_of 16 p) l (set_lt 16 p) (λ i m. h i ∙ sym (member-set 16 p i m))

  module _ (la : a < 2 ^ 16) (lb : b < 2 ^ 16) where
    pub and_is : bit_and a b ≡ intersection a b
    unfolding intersection
    and_is = is_set (bit_and a b) (λ i. member a i && member b i) (and_lt 16 a b la lb) at_and

    pub or_is : bit_or a b ≡ union a b
    unfolding union
    or_is = is_set (bit_or a b) (λ i. member a i || member b i) (or_lt 16 a b la lb) at_or

    pub xor_is : bit_xor a (bit_and a b) ≡ difference a b
    unfolding difference
    xor_is = is_set (bit_xor a (bit_and a b)) (λ i. member a i && not (member b i)) (xor_lt 16 a (bit_and a b) la (and_lt 16 a b la lb)) at_less
