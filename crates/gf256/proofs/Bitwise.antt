-- The product a bit after the other. The main laws: `double_is` (02 times an element, by shifts) and `gmul-bit` (a product from that of half of a
-- factor). Both rest on tests of all elements that antt computes.
use mathlib.Core.Path.{◌≡◌, sym, ap, ap₂, ◌∙◌}
use Prim.Native.Nat.{ℕ, ◌*◌, ◌/◌, ◌%◌, ◌<◌}
use native.Mathlib.Nat.{zero-mul, one-mul}
use lib.Bits.{bit_and, and_mask}
use lib.Dec.{T, eqb}
use Rattle.lists.proofs.Table.{below, equal_below}
use Rattle.gf256.specs.Field.{gadd, gmul}
use Rattle.gf256.proofs.Sum.{bit_cases, bit_lt}
use Rattle.gf256.proofs.Linear.{gmul-add_l}
use Rattle.gf256.proofs.Product.{gmul_assoc, gmul-zero_l, gmul_one_l}

-- ---- 02 times an element
double_test : T (below 256 (λ a. eqb (gadd (a * 2 % 256) (a / 128 * 0x1d)) (gmul 2 a)))
unfolding gadd gmul
double_test = tt

pub double_is : (a : ℕ) → a < 256 → gadd (a * 2 % 256) (a / 128 * 0x1d) ≡ gmul 2 a
double_is = equal_below 256 (λ a. gadd (a * 2 % 256) (a / 128 * 0x1d)) (gmul 2) double_test

-- ---- a product from that of half of a factor
half_test : T (below 256 (λ a. eqb (gadd (gmul 2 (a / 2)) (a % 2)) a))
unfolding gadd gmul
half_test = tt

halves : (a : ℕ) → a < 256 → gadd (gmul 2 (a / 2)) (a % 2) ≡ a
halves = equal_below 256 (λ a. gadd (gmul 2 (a / 2)) (a % 2)) (λ a. a) half_test

-- a bit times an element
bit_times : (x b : ℕ) → x < 2 → b < 256 → gmul x b ≡ x * b
bit_times x b h l = bit_cases (λ x. gmul x b ≡ x * b) (gmul-zero_l b ∙ sym (zero-mul b)) (gmul_one_l b l ∙ sym (one-mul b)) x h

low_bit : (a : ℕ) → bit_and a 1 ≡ a % 2
low_bit a = and_mask a 1

pub gmul-bit : (a b : ℕ) → a < 256 → b < 256 → gadd (gmul 2 (gmul (a / 2) b)) (bit_and a 1 * b) ≡ gmul a b
gmul-bit a b h l =
    ap₂ gadd (sym (gmul_assoc 2 (a / 2) b)) (ap (λ x. x * b) (low_bit a) ∙ sym (bit_times (a % 2) b (bit_lt a) l))
    ∙ sym (gmul-add_l (gmul 2 (a / 2)) (a % 2) b)
    ∙ ap (λ x. gmul x b) (halves a h)
