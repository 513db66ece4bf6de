-- The sum: a commutative group in which each element is its own inverse (`gadd_assoc`, `gadd_self`). Remainders, shifts and
-- multiples by a bit respect it (`Additive`).
use mathlib.Core.Path.{◌≡◌, refl, sym, ap, ap₂, ◌∙◌}
use Prim.Native.Nat.{ℕ, zero, suc, ◌*◌, ◌/◌, ◌%◌, ◌^◌, ◌<◌}
use native.Mathlib.Nat.{mod-lt, zero-mul, one-mul, add-zero}
use native.Mathlib.Omega.{arith}
use lib.Bits.{bit_xor, xor_assoc, xor_shr, xor_mod, xor_comm, xor_zero_r, xor_self, xor_lt, xor_block}
use lib.Dec.{lit<}
use Rattle.gf256.specs.Field.{gadd}

-- what holds of both bits holds of each number below 2
pub bit_cases : (P : ℕ → Type 0) → P 0 → P 1 → (x : ℕ) → x < 2 → P x
bit_cases P p q zero h = p
bit_cases P p q (suc zero) h = q
bit_cases P p q (suc (suc x)) h = absurd (omega arith)

pub bit_lt : (a : ℕ) → a % 2 < 2
bit_lt a = mod-lt a (lit< tt)

-- ---- the group
pub gadd_assoc : (a b c : ℕ) → gadd (gadd a b) c ≡ gadd a (gadd b c)
unfolding gadd
gadd_assoc = xor_assoc

pub gadd_comm : (a b : ℕ) → gadd a b ≡ gadd b a
unfolding gadd
gadd_comm = xor_comm

pub gadd-zero_l : (a : ℕ) → gadd 0 a ≡ a
unfolding gadd
gadd-zero_l a = refl

pub gadd-zero_r : (a : ℕ) → gadd a 0 ≡ a
unfolding gadd
gadd-zero_r = xor_zero_r

pub gadd_self : (a : ℕ) → gadd a a ≡ 0
unfolding gadd
gadd_self = xor_self

pub gadd_lt : {a b : ℕ} → a < 256 → b < 256 → gadd a b < 256
unfolding gadd
gadd_lt {a} {b} = xor_lt 8 a b

-- two terms swap under a third
pub gadd_left_comm : (a b c : ℕ) → gadd a (gadd b c) ≡ gadd b (gadd a c)
gadd_left_comm a b c = sym (gadd_assoc a b c) ∙ ap (λ x. gadd x c) (gadd_comm a b) ∙ gadd_assoc b a c

-- two sums, added
pub gadd_medial : (a b c d : ℕ) → gadd (gadd a b) (gadd c d) ≡ gadd (gadd a c) (gadd b d)
gadd_medial a b c d =
    gadd_assoc a b (gadd c d) ∙ ap (gadd a) (gadd_left_comm b c d) ∙ sym (gadd_assoc a c (gadd b d))

-- what is added twice is gone
pub gadd_twice : (a b : ℕ) → gadd a (gadd a b) ≡ b
gadd_twice a b = sym (gadd_assoc a a b) ∙ ap (λ x. gadd x b) (gadd_self a) ∙ gadd-zero_l b

pub gadd_cancel : (a b c : ℕ) → gadd a b ≡ gadd a c → b ≡ c
gadd_cancel a b c e = sym (gadd_twice a b) ∙ ap (gadd a) e ∙ gadd_twice a c

pub gadd-zero : (a b : ℕ) → gadd a b ≡ 0 → a ≡ b
gadd-zero a b e = sym (gadd_cancel a b a (e ∙ sym (gadd_self a)))

-- ---- a map that respects the sum
abbrev pub Additive : (ℕ → ℕ) → Type 0
Additive f = (a b : ℕ) → f (gadd a b) ≡ gadd (f a) (f b)

pub additive_zero : (f : ℕ → ℕ) → Additive f → f 0 ≡ 0
additive_zero f h = ap f (sym (gadd_self 0)) ∙ h 0 0 ∙ gadd_self (f 0)

pub add-mod : (k : ℕ) → Additive (λ a. a % 2 ^ k)
unfolding gadd
add-mod k a b = xor_mod a b k

pub add_shr : (k : ℕ) → Additive (λ a. a / 2 ^ k)
unfolding gadd
add_shr k a b = xor_shr a b k

pub add_double : Additive (λ a. a * 2)
unfolding gadd
add_double a b =
    sym (add-zero (bit_xor a b * 2))
    ∙ sym (xor_block 1 a b 0 0 (lit< tt) (lit< tt))
    ∙ ap₂ bit_xor (add-zero (a * 2)) (add-zero (b * 2))

-- a bit times c, as c or the bit varies
pub scale_r : (x : ℕ) → x < 2 → Additive (λ c. x * c)
scale_r x h c d =
    bit_cases (λ x. x * gadd c d ≡ gadd (x * c) (x * d)) (simp (zero-mul, gadd-zero_l)) (simp one-mul) x h

pub scale_l : (c x y : ℕ) → x < 2 → y < 2 → gadd x y * c ≡ gadd (x * c) (y * c)
scale_l c x y hx hy =
    bit_cases (λ x. gadd x y * c ≡ gadd (x * c) (y * c))
    (simp (zero-mul, gadd-zero_l))
    (bit_cases (λ y. gadd 1 y * c ≡ gadd (1 * c) (y * c)) (simp (zero-mul, gadd-zero_r)) (simp (gadd_self, zero-mul)) y hy)
    x hx

-- bit k of a number, times c
pub bit-add : (k c : ℕ) → Additive (λ a. a / 2 ^ k % 2 * c)
bit-add k c a b =
    ap (λ (x : ℕ). x % 2 * c) (add_shr k a b)
    ∙ ap (λ (x : ℕ). x * c) (add-mod 1 (a / 2 ^ k) (b / 2 ^ k))
    ∙ scale_l c (a / 2 ^ k % 2) (b / 2 ^ k % 2) (bit_lt (a / 2 ^ k)) (bit_lt (b / 2 ^ k))
