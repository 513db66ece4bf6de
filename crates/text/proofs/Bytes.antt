-- Laws of hexadecimal bytes as they are read. The main ones: `length-bytes_of`, `length-bytes` and `bytes_lt`, and the turn of the loop that
-- reads a byte.
use mathlib.Core.Path.{◌≡◌, refl, sym, ap, ap₂, ◌∙◌}
use mathlib.Core.Bool.{true, false, cond, ◌&&◌}
use mathlib.Core.List.{List, [], ◌∷◌, ◌++◌}
use mathlib.Core.Logic.{⊎_elim}
use Prim.Native.Nat.{ℕ, zero, suc, ◌+◌, ◌-◌, ◌*◌, ◌/◌, ◌%◌, ◌≤◌, ◌<◌, min}
use native.Mathlib.Omega.{arith}
use borrow.Author.Tests.{ne_eqb, eqb-true, le-leb, leb-true}
use lib.Dec.{eqb, leb}
use lib.ListN.{length, get_or, take, drop, drop_of_length-le}
use lib.Seq.{take_all}
use Rattle.lists.proofs.Tests.{either, lt_or_le, and_left, and_right, and_no_left, and_tail, or_left, or_tail, cond_yes, cond_no}
use Rattle.text.specs.Read.{every, is_digit, digit_of, is_hex, hex_of, is_bytes, bytes_of}
use Rattle.text.proofs.Numbers.{digit_high}

-- ---- digits: the tests, the range, and the value
module _ (b : ℕ) where
  pub hex_digit : is_digit b ≡ true → is_hex b ≡ true
  unfolding is_hex
  hex_digit e = or_left (is_digit b) (leb 0x61 b && leb b 0x66) e

  letter : is_digit b ≡ false → is_hex b ≡ (leb 0x61 b && leb b 0x66)
  unfolding is_hex
  letter e = or_tail (is_digit b) (leb 0x61 b && leb b 0x66) e

  pub hex_from : is_digit b ≡ false → 0x61 ≤ b → is_hex b ≡ leb b 0x66
  hex_from e l = letter e ∙ and_tail (leb 0x61 b) (leb b 0x66) (le-leb 0x61 b l)

  pub letter_high : is_digit b ≡ false → is_hex b ≡ true → b ≤ 0x66
  letter_high e h = leb-true b 0x66 (and_right (leb 0x61 b) (leb b 0x66) (sym (letter e) ∙ h))

  pub value_digit : is_digit b ≡ true → hex_of b ≡ b - 0x30
  unfolding hex_of digit_of
  value_digit e = cond_yes (is_digit b) (b - 0x30) (cond (is_hex b) (b - 0x57) 0) e

  other : is_digit b ≡ false → hex_of b ≡ cond (is_hex b) (b - 0x57) 0
  unfolding hex_of digit_of
  other e = cond_no (is_digit b) (b - 0x30) (cond (is_hex b) (b - 0x57) 0) e

  pub value_letter : is_digit b ≡ false → is_hex b ≡ true → hex_of b ≡ b - 0x57
  value_letter e h = other e ∙ cond_yes (is_hex b) (b - 0x57) 0 h

  pub value_none : is_digit b ≡ false → is_hex b ≡ false → hex_of b ≡ 0
  value_none e h = other e ∙ cond_no (is_hex b) (b - 0x57) 0 h

  -- the value is below 16
  pub hex_lt : hex_of b < 16
  hex_lt =
      ⊎_elim (λ (e : is_digit b ≡ true). omega (arith, value_digit e, digit_high b e))
      (λ (e : is_digit b ≡ false).
      ⊎_elim (λ (h : is_hex b ≡ true). omega (arith, value_letter e h, letter_high e h)) (λ (h : is_hex b ≡ false). omega (arith, value_none e h))
      (either (is_hex b)))
      (either (is_digit b))

-- ---- lengths
half_more : (m : ℕ) → suc (suc m) / 2 ≡ suc (m / 2)
half_more m = omega arith

-- two digits a byte; a digit that is left over says none
pub bytes_half : (f : List ℕ) → length (bytes_of f) ≡ length f / 2
unfolding bytes_of
bytes_half [] = refl
bytes_half (a ∷ []) = refl
bytes_half (a ∷ (b ∷ f)) = ap suc (bytes_half f) ∙ sym (half_more (length f))

-- 2 len digits say len bytes
pub length-bytes_of : (len : ℕ) (f : List ℕ) → length f ≡ 2 * len → length (bytes_of f) ≡ len
length-bytes_of len f e = omega (arith, bytes_half f)

-- ---- elements
double_suc : (i : ℕ) → 2 * suc i ≡ suc (suc (2 * i))
double_suc i = omega arith

-- byte i is what the digits 2i and 2i + 1 say
pub get_or-bytes : (f : List ℕ) (i : ℕ) → 2 * i + 1 < length f
    → get_or (bytes_of f) i 0 ≡ hex_of (get_or f (2 * i) 0) * 16 + hex_of (get_or f (2 * i + 1) 0)
unfolding bytes_of
get_or-bytes [] i l = absurd (omega arith)
get_or-bytes (a ∷ []) i l = absurd (omega arith)
get_or-bytes (a ∷ (b ∷ f)) zero l = refl
get_or-bytes (a ∷ (b ∷ f)) (suc i) l =
    let e : 2 * suc i + 1 ≡ suc (suc (2 * i + 1)) = omega arith in
    rw (e, double_suc i) (get_or-bytes f i (omega arith))

-- each is below 256
pub byte_small : (a b : ℕ) → hex_of a * 16 + hex_of b < 256
byte_small a b = omega (arith, hex_lt a, hex_lt b)

pub bytes_lt : (f : List ℕ) (i : ℕ) → get_or (bytes_of f) i 0 < 256
unfolding bytes_of
bytes_lt [] i = omega arith
bytes_lt (a ∷ []) i = omega arith
bytes_lt (a ∷ (b ∷ f)) zero = byte_small a b
bytes_lt (a ∷ (b ∷ f)) (suc i) = bytes_lt f i

-- ---- a field of whole bytes
module _ (len : ℕ) (f : List ℕ) where
  pub bytes_odd : (length f % 2 ≡ 0 → ⊥) → is_bytes len f ≡ false
  unfolding is_bytes
  bytes_odd n = and_no_left (eqb (length f) (2 * len)) (every is_hex f) (ne_eqb (length f) (2 * len) (λ e. n (omega arith)))

  pub bytes_other : (length f / 2 ≡ len → ⊥) → is_bytes len f ≡ false
  unfolding is_bytes
  bytes_other n = and_no_left (eqb (length f) (2 * len)) (every is_hex f) (ne_eqb (length f) (2 * len) (λ e. n (omega arith)))

  -- such a field has two digits for each byte, and says len bytes
  pub bytes-digits : is_bytes len f ≡ true → length f ≡ 2 * len
  unfolding is_bytes
  bytes-digits e = eqb-true (length f) (2 * len) (and_left (eqb (length f) (2 * len)) (every is_hex f) e)

  pub length-bytes : is_bytes len f ≡ true → length (bytes_of f) ≡ len
  length-bytes e = length-bytes_of len f (bytes-digits e)

-- ---- the loop's end: all of the shorter one
pub read_end : (s d : List ℕ) (n : ℕ) → n ≡ min (length s) (length d) → take n s ++ drop n d ≡ take (length d) s ++ drop (length s) d
read_end s d n e =
    ⊎_elim
    (λ (l : length s < length d).
    let q : n ≡ length s = omega arith in
    ap₂ ◌++◌ (take_all n s (omega arith) ∙ sym (take_all (length d) s (omega arith))) (ap (λ (m : ℕ). drop m d) q))
    (λ (l : length d ≤ length s).
    let q : n ≡ length d = omega arith in
    ap₂ ◌++◌ (ap (λ (m : ℕ). take m s) q) (drop_of_length-le d {i = n} (omega arith) ∙ sym (drop_of_length-le d l)))
    (lt_or_le (length s) (length d))
