-- Laws of numbers as bytes. The main one: `number_back`, what w bytes hold of a number below 256 ^ w is the number.
use mathlib.Core.Path.{◌≡◌, refl, sym, ap, ◌∙◌}
use mathlib.Core.List.{List, [], ◌∷◌}
use Prim.Native.Nat.{ℕ, zero, suc, ◌+◌, ◌*◌, ◌/◌, ◌%◌, ◌^◌, ◌≤◌, ◌<◌}
use native.Mathlib.Omega.{arith}
use native.Mathlib.Nat.{le_of_suc-le-suc, div-div-eq-div-mul, pow-suc}
use lib.ListN.{length, get_or, take}
use Rattle.std.specs.Int.{w64, to_le_bytes, from_le_bytes, bytes_low_first}
use Rattle.state_bytes.specs.State.{little_endian, number_of}

pub length_digits : (w x : ℕ) → length (little_endian w x) ≡ w
unfolding little_endian
length_digits zero x = refl
length_digits (suc w) x = ap suc (length_digits w (x / 256))

-- ---- the bound of a number
pub number_lt : (l : List ℕ) → ((i : ℕ) → get_or l i 0 < 256) → number_of l < 256 ^ length l
unfolding number_of
number_lt [] h = omega arith
number_lt (b ∷ l) h = omega (arith, h 0, number_lt l (λ i. h (suc i)), pow-suc 256 (length l))

-- the number of two bytes
pub word_number : (l : List ℕ) → length l ≡ 2 → get_or l 0 0 + 256 * get_or l 1 0 ≡ number_of l
unfolding number_of
word_number [] e = absurd (omega arith)
word_number (a ∷ []) e = absurd (omega arith)
word_number (a ∷ b ∷ []) e = omega arith
word_number (a ∷ b ∷ c ∷ l) e = absurd (omega arith)

-- and of one
pub byte_number : (l : List ℕ) → length l ≡ 1 → get_or l 0 0 ≡ number_of l
unfolding number_of
byte_number [] e = absurd (omega arith)
byte_number (a ∷ []) e = omega arith
byte_number (a ∷ b ∷ l) e = absurd (omega arith)

-- ---- what was written is read back
pub number_back : (w x : ℕ) → x < 256 ^ w → number_of (little_endian w x) ≡ x
unfolding little_endian number_of
number_back zero x h = omega arith
number_back (suc w) x h =
    let l : x / 256 < 256 ^ w = omega (arith, pow-suc 256 w) in
    ap (λ (y : ℕ). x % 256 + 256 * y) (number_back w (x / 256) l) ∙ omega arith

-- ---- the numbers of eight bytes, as the library has them
digits_from : (i k x : ℕ) → bytes_low_first (suc i) k x ≡ little_endian k (x / 256 ^ suc i)
unfolding little_endian
digits_from i zero x = refl
digits_from i (suc k) x =
    ap (λ (l : List ℕ). x / 256 ^ suc i % 256 ∷ l)
    (digits_from (suc i) k x
    ∙ ap (little_endian k) (ap (λ (m : ℕ). x / m) (pow-suc 256 (suc i)) ∙ sym (div-div-eq-div-mul x (256 ^ suc i) 256)))

-- the first w bytes of a number
take_digits : (w m x : ℕ) → w ≤ m → take w (little_endian m x) ≡ little_endian w x
unfolding little_endian
take_digits zero m x h = refl
take_digits (suc w) zero x h = absurd (omega arith)
take_digits (suc w) (suc m) x h = ap (λ (l : List ℕ). x % 256 ∷ l) (take_digits w m (x / 256) (le_of_suc-le-suc h))

to_digits : (x : ℕ) → to_le_bytes w64 x ≡ little_endian 8 x
unfolding little_endian
to_digits x = ap (λ (l : List ℕ). x % 256 ∷ l) (digits_from 0 7 x)

pub take_le_bytes : (w x : ℕ) → w ≤ 8 → take w (to_le_bytes w64 x) ≡ little_endian w x
take_le_bytes w x h = ap (take w) (to_digits x) ∙ take_digits w 8 x h

pub from_digits : (l : List ℕ) → length l ≡ 8 → from_le_bytes w64 l ≡ number_of l
unfolding number_of
from_digits [] q = absurd (omega arith)
from_digits (a ∷ []) q = absurd (omega arith)
from_digits (a ∷ b ∷ []) q = absurd (omega arith)
from_digits (a ∷ b ∷ c ∷ []) q = absurd (omega arith)
from_digits (a ∷ b ∷ c ∷ d ∷ []) q = absurd (omega arith)
from_digits (a ∷ b ∷ c ∷ d ∷ e ∷ []) q = absurd (omega arith)
from_digits (a ∷ b ∷ c ∷ d ∷ e ∷ f ∷ []) q = absurd (omega arith)
from_digits (a ∷ b ∷ c ∷ d ∷ e ∷ f ∷ g ∷ []) q = absurd (omega arith)
from_digits (a ∷ b ∷ c ∷ d ∷ e ∷ f ∷ g ∷ h ∷ []) q = omega arith
from_digits (a ∷ b ∷ c ∷ d ∷ e ∷ f ∷ g ∷ h ∷ i ∷ l) q = absurd (omega arith)
