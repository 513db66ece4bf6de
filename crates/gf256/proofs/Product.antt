-- The product: closed, commutative, with units, associative (`gmul_lt`, `gmul_comm`, `gmul_one_r`, `gmul_assoc`). Each law rests on a
-- test at powers of 2 that antt computes.
use mathlib.Core.Path.{◌≡◌, sym, ap, ◌∙◌}
use Prim.Native.Nat.{ℕ, zero, suc, ◌%◌, ◌^◌, ◌<◌}
use native.Mathlib.Nat.{mod-mod, mod-eq_of_lt}
use native.Mathlib.Omega.{arith}
use lib.Dec.{T, eqb, ltb}
use Rattle.lists.proofs.Table.{below, equal_below}
use Rattle.gf256.specs.Field.{gmul}
use Rattle.gf256.proofs.Sum.{add-mod, additive_zero}
use Rattle.gf256.proofs.Linear.{gmul-add_l, gmul-add_r, gmul_low_l, gmul_low_r, additive_ext, Bilinear, at_pairs, bilinear_ext, bilinear_lt}

product : Bilinear gmul
product = record { add_l = λ c a b. gmul-add_l a b c; add_r = gmul-add_r; low_l = gmul_low_l; low_r = gmul_low_r }

-- ---- closed
lt_test : T (at_pairs (λ a b. ltb (gmul a b) 256))
unfolding gmul
lt_test = tt

pub gmul_lt : (a b : ℕ) → gmul a b < 256
gmul_lt = bilinear_lt gmul product lt_test

-- ---- commutative
turned : Bilinear (λ a b. gmul b a)
turned = record { add_l = gmul-add_r; add_r = λ c a b. gmul-add_l a b c; low_l = λ a b. gmul_low_r b a; low_r = λ a b. gmul_low_l b a }

comm_test : T (at_pairs (λ a b. eqb (gmul a b) (gmul b a)))
unfolding gmul
comm_test = tt

pub gmul_comm : (a b : ℕ) → gmul a b ≡ gmul b a
gmul_comm = bilinear_ext gmul (λ a b. gmul b a) product turned comm_test

-- ---- one and zero
one_test : T (below 8 (λ k. eqb (gmul (2 ^ k) 1) (2 ^ k % 256)))
unfolding gmul
one_test = tt

one_mod : (a : ℕ) → gmul a 1 ≡ a % 256
one_mod a =
    sym (gmul_low_l a 1)
    ∙ additive_ext (λ x. gmul x 1) (λ x. x % 256) (λ x y. gmul-add_l x y 1) (add-mod 8)
    (equal_below 8 (λ k. gmul (2 ^ k) 1) (λ k. 2 ^ k % 256) one_test) a
    ∙ mod-mod a 256

pub gmul_one_r : (a : ℕ) → a < 256 → gmul a 1 ≡ a
gmul_one_r a h = one_mod a ∙ mod-eq_of_lt h

pub gmul_one_l : (a : ℕ) → a < 256 → gmul 1 a ≡ a
gmul_one_l a h = gmul_comm 1 a ∙ gmul_one_r a h

pub gmul-zero_r : (a : ℕ) → gmul a 0 ≡ 0
gmul-zero_r a = additive_zero (gmul a) (gmul-add_r a)

pub gmul-zero_l : (a : ℕ) → gmul 0 a ≡ 0
gmul-zero_l a = gmul_comm 0 a ∙ gmul-zero_r a

-- ---- associative: 02 moves out of the second factor, and the third factor is a sum of powers of 02
inside : Bilinear (λ a b. gmul a (gmul 2 b))
inside = record {
  add_l = λ c a b. gmul-add_l a b (gmul 2 c);
  add_r = λ a b c. ap (gmul a) (gmul-add_r 2 b c) ∙ gmul-add_r a (gmul 2 b) (gmul 2 c);
  low_l = λ a b. gmul_low_l a (gmul 2 b);
  low_r = λ a b. ap (gmul a) (gmul_low_r 2 b);
}

outside : Bilinear (λ a b. gmul 2 (gmul a b))
outside = record {
  add_l = λ c a b. ap (gmul 2) (gmul-add_l a b c) ∙ gmul-add_r 2 (gmul a c) (gmul b c);
  add_r = λ a b c. ap (gmul 2) (gmul-add_r a b c) ∙ gmul-add_r 2 (gmul a b) (gmul a c);
  low_l = λ a b. ap (gmul 2) (gmul_low_l a b);
  low_r = λ a b. ap (gmul 2) (gmul_low_r a b);
}

two_test : T (at_pairs (λ a b. eqb (gmul a (gmul 2 b)) (gmul 2 (gmul a b))))
unfolding gmul
two_test = tt

mul_two : (a b : ℕ) → gmul a (gmul 2 b) ≡ gmul 2 (gmul a b)
mul_two = bilinear_ext (λ a b. gmul a (gmul 2 b)) (λ a b. gmul 2 (gmul a b)) inside outside two_test

next_test : T (below 7 (λ k. eqb (gmul 2 (2 ^ k)) (2 ^ suc k)))
unfolding gmul
next_test = tt

next : (k : ℕ) → k < 7 → gmul 2 (2 ^ k) ≡ 2 ^ suc k
next = equal_below 7 (λ k. gmul 2 (2 ^ k)) (λ k. 2 ^ suc k) next_test

assoc_power : (a b k : ℕ) → k < 8 → gmul (gmul a b) (2 ^ k) ≡ gmul a (gmul b (2 ^ k))
assoc_power a b zero h = gmul_one_r (gmul a b) (gmul_lt a b) ∙ sym (gmul_low_r a b) ∙ ap (gmul a) (sym (one_mod b))
assoc_power a b (suc k) h =
    ap (gmul (gmul a b)) (sym (next k (omega arith)))
    ∙ mul_two (gmul a b) (2 ^ k)
    ∙ ap (gmul 2) (assoc_power a b k (omega arith))
    ∙ sym (mul_two a (gmul b (2 ^ k)))
    ∙ ap (gmul a) (sym (mul_two b (2 ^ k)) ∙ ap (gmul b) (next k (omega arith)))

pub gmul_assoc : (a b c : ℕ) → gmul (gmul a b) c ≡ gmul a (gmul b c)
gmul_assoc a b c =
    sym (gmul_low_r (gmul a b) c)
    ∙ additive_ext (gmul (gmul a b)) (λ x. gmul a (gmul b x)) (gmul-add_r (gmul a b))
    (λ x y. ap (gmul a) (gmul-add_r b x y) ∙ gmul-add_r a (gmul b x) (gmul b y))
    (assoc_power a b) c
    ∙ ap (gmul a) (gmul_low_r b c)

-- two factors swap under a third
pub gmul_left_comm : (a b c : ℕ) → gmul a (gmul b c) ≡ gmul b (gmul a c)
gmul_left_comm a b c = sym (gmul_assoc a b c) ∙ ap (λ x. gmul x c) (gmul_comm a b) ∙ gmul_assoc b a c

-- two products, multiplied
pub gmul_medial : (a b c d : ℕ) → gmul (gmul a b) (gmul c d) ≡ gmul (gmul a c) (gmul b d)
gmul_medial a b c d =
    gmul_assoc a b (gmul c d) ∙ ap (gmul a) (gmul_left_comm b c d) ∙ sym (gmul_assoc a c (gmul b d))
