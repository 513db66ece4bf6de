-- What is written is read back: `read_decimal` and `read_hexadecimal`.
use mathlib.Core.Path.{◌≡◌, refl, ap, ap₂, ◌∙◌}
use mathlib.Core.Bool.{Bool, true, false, not, ◌&&◌}
use mathlib.Core.List.{List, [], ◌∷◌, ◌++◌}
use mathlib.Core.Logic.{⊎_elim}
use Prim.Native.Nat.{ℕ, zero, suc, ◌+◌, ◌*◌, ◌/◌, ◌%◌, ◌^◌, ◌≤◌, ◌<◌}
use native.Mathlib.Nat.{pow-succ'}
use native.Mathlib.Omega.{arith}
use borrow.Author.Tests.{eq-eqb, le-leb, lt-leb}
use lib.Dec.{eqb}
use lib.ListN.{length, get_or, get_or-append, length-append}
use Rattle.lists.proofs.Tests.{lt_or_le, and_both, or_right}
use Rattle.text.specs.Read.{every, is_digit, digit_of, is_number, value_from, value_of, is_hex, hex_of, is_bytes, bytes_of}
use Rattle.text.specs.Write.{digit_byte, hex_byte, digits, decimal, hexadecimal}
use Rattle.text.specs.Steps.{headed}
use Rattle.text.proofs.Numbers.{digit_from, every_append, headed_other, number-headed}
use Rattle.text.proofs.Bytes.{hex_digit, hex_from, value_digit, value_letter}
use Rattle.text.proofs.Digits.{digits_one, digits_more, hex_low, hex_high, length-hexadecimal}

-- ---- decimal numbers
-- a digit is written as a digit and says its value
digit_is : (d : ℕ) → d < 10 → is_digit (0x30 + d) ≡ true
digit_is d l = digit_from (0x30 + d) (omega arith) ∙ le-leb (0x30 + d) 0x39 (omega arith)

digit_says : (d : ℕ) → digit_of (0x30 + d) ≡ d
unfolding digit_of
digit_says d = omega arith

every_one : (p : ℕ → Bool) (b : ℕ) → p b ≡ true → every p (b ∷ []) ≡ true
unfolding every
every_one p b h = and_both (p b) true h refl

every-digits : (m x : ℕ) → every is_digit (digits m x) ≡ true
unfolding digits every
every-digits zero x = refl
every-digits (suc m) x =
    ⊎_elim (λ (l : x < 10). ap (every is_digit) (digits_one m x l) ∙ every_one is_digit (digit_byte x) (digit_is x l))
    (λ (l : 10 ≤ x). ap (every is_digit) (digits_more m x l)
    ∙ every_append is_digit (digits m (x / 10)) (digit_byte (x % 10) ∷ []) (every-digits m (x / 10))
    (every_one is_digit (digit_byte (x % 10)) (digit_is (x % 10) (omega arith))))
    (lt_or_le x 10)

value_last : (l : List ℕ) (a b : ℕ) → value_from a (l ++ (b ∷ [])) ≡ value_from a l * 10 + digit_of b
unfolding value_from
value_last [] a b = refl
value_last (x ∷ l) a b = value_last l (a * 10 + digit_of x) b

value_digits : (m x : ℕ) → x < 10 ^ m → value_from 0 (digits m x) ≡ x
unfolding digits value_from
value_digits zero x h = omega arith
value_digits (suc m) x h =
    ⊎_elim (λ (l : x < 10). ap (value_from 0) (digits_one m x l) ∙ omega (arith, digit_says x))
    (λ (l : 10 ≤ x). ap (value_from 0) (digits_more m x l)
    ∙ value_last (digits m (x / 10)) 0 (digit_byte (x % 10))
    ∙ omega (arith, value_digits m (x / 10) (omega (arith, pow-succ' 10 m)), digit_says (x % 10)))
    (lt_or_le x 10)

-- no leading zero but in 0 itself
first_digit : (m x : ℕ) → 1 ≤ x → x < 10 ^ m → (0 < length (digits m x)) × (0x30 < get_or (digits m x) 0 0)
unfolding digits
first_digit zero x k h = absurd (omega arith)
first_digit (suc m) x k h =
    ⊎_elim
    (λ (l : x < 10). (omega (arith, ap length (digits_one m x l)), omega (arith, ap (λ (f : List ℕ). get_or f 0 0) (digits_one m x l))))
    (λ (l : 10 ≤ x).
    let t : List ℕ = digit_byte (x % 10) ∷ [] in
    let r = first_digit m (x / 10) (omega arith) (omega (arith, pow-succ' 10 m)) in (
      omega (arith, ap length (digits_more m x l), length-append (digits m (x / 10)) t),
      omega (arith, ap (λ (f : List ℕ). get_or f 0 0) (digits_more m x l), get_or-append (digits m (x / 10)) t 0 0 r.0, r.1),
    ))
    (lt_or_le x 10)

one_headed : (b : ℕ) → headed (b ∷ []) ≡ true
unfolding headed
one_headed b = or_right (not (eqb b 0x30)) true refl

headed-digits : (m x : ℕ) → x < 10 ^ suc m → headed (digits (suc m) x) ≡ true
headed-digits m x h =
    ⊎_elim (λ (l : x < 10). ap headed (digits_one m x l) ∙ one_headed (digit_byte x))
    (λ (l : 10 ≤ x).
    let r = first_digit (suc m) x (omega arith) h in
    headed_other (digits (suc m) x) r.0 (λ e. omega (arith, r.1)))
    (lt_or_le x 10)

-- what is written is digits, so no other byte stands in it
pub every-decimal : (x : ℕ) → every is_digit (decimal x) ≡ true
unfolding decimal
every-decimal x = every-digits 20 x

-- a number that is written is read as itself
pub read_decimal : (x : ℕ) → x < 10 ^ 20 → (is_number (decimal x) ≡ true) × (value_of (decimal x) ≡ x)
unfolding decimal value_of
read_decimal x h = (
  number-headed (digits 20 x) ∙ and_both (every is_digit (digits 20 x)) (headed (digits 20 x)) (every-digits 20 x) (headed-digits 19 x h),
  value_digits 20 x h,
)

-- ---- hexadecimal bytes
hex_is : (d : ℕ) → d < 16 → (is_hex (hex_byte d) ≡ true) × (hex_of (hex_byte d) ≡ d)
hex_is d h =
    ⊎_elim
    (λ (l : d < 10).
    let e : hex_byte d ≡ 0x30 + d = hex_low d l in
    rw e (hex_digit (0x30 + d) (digit_is d l), value_digit (0x30 + d) (digit_is d l) ∙ omega arith))
    (λ (l : 10 ≤ d).
    let e : hex_byte d ≡ 0x57 + d = hex_high d l in
    let n : is_digit (0x57 + d) ≡ false = digit_from (0x57 + d) (omega arith) ∙ lt-leb (0x57 + d) 0x39 (omega arith) in
    let y : is_hex (0x57 + d) ≡ true = hex_from (0x57 + d) n (omega arith) ∙ le-leb (0x57 + d) 0x66 (omega arith) in
    rw e (y, value_letter (0x57 + d) n y ∙ omega arith))
    (lt_or_le d 10)

-- what is written is hexadecimal digits
pub every-hexadecimal : (l : List ℕ) → ((i : ℕ) → get_or l i 0 < 256) → every is_hex (hexadecimal l) ≡ true
unfolding hexadecimal every
every-hexadecimal [] h = refl
every-hexadecimal (b ∷ l) h =
    let s : b < 256 = h 0 in
    and_both (is_hex (hex_byte (b / 16))) (is_hex (hex_byte (b % 16)) && every is_hex (hexadecimal l)) (hex_is (b / 16) (omega arith)).0
    (and_both (is_hex (hex_byte (b % 16))) (every is_hex (hexadecimal l)) (hex_is (b % 16) (omega arith)).0
    (every-hexadecimal l (λ i. h (suc i))))

bytes_back : (l : List ℕ) → ((i : ℕ) → get_or l i 0 < 256) → bytes_of (hexadecimal l) ≡ l
unfolding hexadecimal bytes_of
bytes_back [] h = refl
bytes_back (b ∷ l) h =
    let s : b < 256 = h 0 in
    let e : hex_of (hex_byte (b / 16)) * 16 + hex_of (hex_byte (b % 16)) ≡ b =
    omega (arith, (hex_is (b / 16) (omega arith)).1, (hex_is (b % 16) (omega arith)).1) in
    ap₂ ◌∷◌ e (bytes_back l (λ i. h (suc i)))

-- bytes that are written are read as themselves
pub read_hexadecimal : (l : List ℕ) → ((i : ℕ) → get_or l i 0 < 256) → (is_bytes (length l) (hexadecimal l) ≡ true) × (bytes_of (hexadecimal l) ≡ l)
unfolding is_bytes
read_hexadecimal l h = (
  and_both (eqb (length (hexadecimal l)) (2 * length l)) (every is_hex (hexadecimal l))
      (eq-eqb (length (hexadecimal l)) (2 * length l) (length-hexadecimal l)) (every-hexadecimal l h),
  bytes_back l h,
)
