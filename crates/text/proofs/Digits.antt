-- Laws of decimal and hexadecimal digits as they are written. The main ones: `decimal_le`, `decimal_short` and `length-hexadecimal`, and the
-- turns of the loop that writes decimal digits from the last one.
use mathlib.Core.Path.{◌≡◌, refl, sym, ap, ◌∙◌}
use mathlib.Core.List.{List, [], ◌∷◌, ◌++◌, append-nil, append_assoc}
use mathlib.Core.Logic.{⊎_elim}
use Prim.Native.Nat.{ℕ, zero, suc, ◌+◌, ◌-◌, ◌*◌, ◌/◌, ◌%◌, ◌^◌, ◌≤◌, ◌<◌}
use native.Mathlib.Nat.{pow-succ'}
use native.Mathlib.Numerals.{add-one}
use native.Mathlib.Omega.{arith}
use borrow.Author.Tests.{lt-ltb, le-ltb}
use lib.Dec.{ltb}
use lib.ListN.{length, get_or, set, drop, length-append, length-set, drop_of_length-le}
use lib.Seq.{drop-cons, get_or-set_same, drop-set-lt}
use Rattle.lists.proofs.Tests.{lt_or_le, cond_yes, cond_no}
use Rattle.text.specs.Write.{digit_byte, hex_byte, digits, decimal, hexadecimal}

-- ---- decimal digits: the last one, or one more behind those of a tenth
pub digits_one : (m y : ℕ) → y < 10 → digits (suc m) y ≡ digit_byte y ∷ []
unfolding digits
digits_one m y l = cond_yes (ltb y 10) (digit_byte y ∷ []) (digits m (y / 10) ++ (digit_byte (y % 10) ∷ [])) (lt-ltb y 10 l)

pub digits_more : (m y : ℕ) → 10 ≤ y → digits (suc m) y ≡ digits m (y / 10) ++ (digit_byte (y % 10) ∷ [])
unfolding digits
digits_more m y l = cond_no (ltb y 10) (digit_byte y ∷ []) (digits m (y / 10) ++ (digit_byte (y % 10) ∷ [])) (le-ltb y 10 l)

-- ---- the loop: the digits of the rest y, which has m + 1 places, and what is written behind them
drop-set : (b : List ℕ) (m v : ℕ) → m < length b → drop m (set b m v) ≡ v ∷ drop (suc m) b
drop-set b m v l =
    let h : m < length (set b m v) = simp length-set l in
    drop-cons (set b m v) m 0 h ∙ rw (get_or-set_same b m v 0 l, drop-set-lt (suc m) b m v (omega arith))

turn : (m y v : ℕ) (b : List ℕ) → 10 ≤ y → m < length b → v ≡ digit_byte (y % 10) → digits (suc m) y ++ drop (suc m) b ≡ digits m (y / 10) ++ drop m (set b m v)
turn m y v b l h e =
    ap (λ (r : List ℕ). r ++ drop (suc m) b) (digits_more m y l)
    ∙ append_assoc (digits m (y / 10)) (digit_byte (y % 10) ∷ []) (drop (suc m) b)
    ∙ ap (λ (r : List ℕ). digits m (y / 10) ++ r) (ap (λ (d : ℕ). d ∷ drop (suc m) b) (sym e) ∙ sym (drop-set b m v h))

-- no digit is written yet
pub digits_start : (x : ℕ) (b : List ℕ) → length b ≡ 20 → digits (19 + 1) x ++ drop (19 + 1) b ≡ decimal x
unfolding decimal
digits_start x b e = ap (λ (r : List ℕ). digits 20 x ++ r) (drop_of_length-le b {i = 20} (omega arith)) ∙ append-nil (digits 20 x)

-- the last digit of the rest is written
pub digits_turn : (m y v : ℕ) (b : List ℕ) → 10 ≤ y → 1 ≤ m → m < length b → v ≡ digit_byte (y % 10)
    → digits (m + 1) y ++ drop (m + 1) b ≡ digits (m - 1 + 1) (y / 10) ++ drop (m - 1 + 1) (set b m v)
digits_turn m y v b l k h e =
    let p : m - 1 + 1 ≡ m = omega arith in
    rw (p, add-one m) (turn m y v b l h e)

-- the first digit is written
pub digits_end : (m y v : ℕ) (b : List ℕ) → y < 10 → m < length b → v ≡ digit_byte y → digits (m + 1) y ++ drop (m + 1) b ≡ drop m (set b m v)
digits_end m y v b l h e =
    rw (add-one m)
    (ap (λ (r : List ℕ). r ++ drop (suc m) b) (digits_one m y l) ∙ ap (λ (d : ℕ). d ∷ drop (suc m) b) (sym e) ∙ sym (drop-set b m v h))

-- the rest has a place left
pub places_left : (m y : ℕ) → 10 ≤ y → y < 10 ^ (m + 1) → 1 ≤ m
places_left zero y l h = absurd (omega arith)
places_left (suc m) y l h = omega arith

pub places_turn : (m y : ℕ) → 1 ≤ m → y < 10 ^ (m + 1) → y / 10 < 10 ^ (m - 1 + 1)
places_turn m y k h =
    let p : m - 1 + 1 ≡ m = omega arith in
    let q : 10 ^ (m + 1) ≡ 10 * 10 ^ m = ap (λ (n : ℕ). 10 ^ n) (add-one m) ∙ pow-succ' 10 m in
    rw p (omega (arith, q))

-- ---- how many digits
pub digits_le : (m x : ℕ) → length (digits m x) ≤ m
unfolding digits
digits_le zero x = omega arith
digits_le (suc m) x =
    ⊎_elim (λ (l : x < 10). omega (arith, ap length (digits_one m x l)))
    (λ (l : 10 ≤ x). omega (arith, ap length (digits_more m x l), length-append (digits m (x / 10)) (digit_byte (x % 10) ∷ []), digits_le m (x / 10)))
    (lt_or_le x 10)

-- no number is written with more than 20
pub decimal_le : (x : ℕ) → length (decimal x) ≤ 20
unfolding decimal
decimal_le x = digits_le 20 x

digits_short : (m k x : ℕ) → x < 10 ^ suc m → length (digits k x) ≤ suc m
unfolding digits
digits_short m zero x h = omega arith
digits_short zero (suc k) x h = omega (arith, ap length (digits_one k x h))
digits_short (suc m) (suc k) x h =
    ⊎_elim (λ (l : x < 10). omega (arith, ap length (digits_one k x l)))
    (λ (l : 10 ≤ x). omega (
      arith,
      ap length (digits_more k x l),
      length-append (digits k (x / 10)) (digit_byte (x % 10) ∷ []),
      digits_short m k (x / 10) (omega (arith, pow-succ' 10 (suc m))),
    ))
    (lt_or_le x 10)

-- a number below 10 ^ m has at most m digits
pub decimal_short : (m x : ℕ) → 1 ≤ m → x < 10 ^ m → length (decimal x) ≤ m
unfolding decimal
decimal_short zero x k h = absurd (omega arith)
decimal_short (suc m) x k h = digits_short m 20 x h

-- ---- hexadecimal digits
-- the two kinds of digits
pub hex_low : (d : ℕ) → d < 10 → hex_byte d ≡ 0x30 + d
unfolding hex_byte
hex_low d l = cond_yes (ltb d 10) (0x30 + d) (0x57 + d) (lt-ltb d 10 l)

pub hex_high : (d : ℕ) → 10 ≤ d → hex_byte d ≡ 0x57 + d
unfolding hex_byte
hex_high d l = cond_no (ltb d 10) (0x30 + d) (0x57 + d) (le-ltb d 10 l)

-- two digits a byte
pub length-hexadecimal : (l : List ℕ) → length (hexadecimal l) ≡ 2 * length l
unfolding hexadecimal
length-hexadecimal [] = refl
length-hexadecimal (b ∷ l) = omega (arith, length-hexadecimal l)

-- byte i is written at 2i and 2i + 1
pub get_or_high : (l : List ℕ) (i : ℕ) → i < length l → get_or (hexadecimal l) (2 * i) 0 ≡ hex_byte (get_or l i 0 / 16)
unfolding hexadecimal
get_or_high [] i h = absurd (omega arith)
get_or_high (b ∷ l) zero h = refl
get_or_high (b ∷ l) (suc i) h =
    let e : 2 * suc i ≡ suc (suc (2 * i)) = omega arith in
    rw e (get_or_high l i (omega arith))

pub get_or_low : (l : List ℕ) (i : ℕ) → i < length l → get_or (hexadecimal l) (suc (2 * i)) 0 ≡ hex_byte (get_or l i 0 % 16)
unfolding hexadecimal
get_or_low [] i h = absurd (omega arith)
get_or_low (b ∷ l) zero h = refl
get_or_low (b ∷ l) (suc i) h =
    let e : 2 * suc i ≡ suc (suc (2 * i)) = omega arith in
    rw e (get_or_low l i (omega arith))
