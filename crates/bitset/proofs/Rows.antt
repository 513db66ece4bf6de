-- Laws of rows in message bytes. The main ones: `row_read` (a row of the message that was written is read back) and `bytes_rows` (rows are
-- written in bytes).
use mathlib.Core.Path.{◌≡◌, refl, sym, ap, ap₂, ◌∙◌}
use native.Mathlib.Nat.{mod-eq_of_lt}
use mathlib.Core.Bool.{Bool, true, false, cond}
use mathlib.Core.List.{List, [], ◌∷◌, ◌++◌}
use Prim.Native.Nat.{ℕ, zero, suc, ◌+◌, ◌*◌, ◌/◌, ◌%◌, ◌^◌, ◌≤◌, ◌<◌, min}
use native.Mathlib.Omega.{arith}
use borrow.Author.Tests.{eq-eqb, ne_eqb, lt-ltb, le-ltb}
use lib.Dec.{eqb, lit<}
use lib.ListN.{length, get_or, drop, length-append, get_or-append, get_or-eq_default}
use lib.Pow.{pow_pos, pow_mono}
use lib.Seq.{get_or-append-add}
use Rattle.lists.proofs.Tests.{lt_or_le}
use Rattle.lists.specs.Fill.{filled}
use Rattle.lists.proofs.Fills.{length-tabulate, get_or-tabulate, filled_split}
use Rattle.bitset.specs.Set.{restricted}
use Rattle.bitset.specs.Row.{word_at, row_of, row_byte, rows_of}
use Rattle.bitset.proofs.Sets.{restrict_lt, restrict_below}
use mathlib.Core.Logic.{⊎_elim}

-- a row that the message holds whole, and one that it does not
pub row_held : (n : ℕ) (m : List ℕ) (r : ℕ) → 2 * r + 2 ≤ length m → row_of n m r ≡ restricted (word_at m r) n
unfolding row_of
row_held n m r h = rw (lt-ltb r (length m / 2) (omega arith))

pub row_missing : (n : ℕ) (m : List ℕ) (r : ℕ) → length m < 2 * r + 2 → row_of n m r ≡ 0
unfolding row_of
row_missing n m r h = rw (le-ltb r (length m / 2) (omega arith))

-- an absent message holds no row
pub row_none : (n r : ℕ) → row_of n [] r ≡ 0
row_none n r = row_missing n [] r (omega arith)

-- bound: no bit past n is read
pub row_lt : (n : ℕ) (m : List ℕ) (r : ℕ) → row_of n m r < 2 ^ n
row_lt n m r =
    ⊎_elim
    (λ (l : length m < 2 * r + 2). rw (row_missing n m r l) (pow_pos n))
    (λ (l : 2 * r + 2 ≤ length m). rw (row_held n m r l) (restrict_lt (word_at m r) n))
    (lt_or_le (length m) (2 * r + 2))

-- a message of one row, low byte first
pub row_pair : (n x : ℕ) → x < 2 ^ n → row_of n (x % 256 ∷ x / 256 ∷ []) 0 ≡ x
unfolding word_at
row_pair n x h =
    let w : x % 256 + 256 * (x / 256) ≡ x = omega arith in
    row_held n (x % 256 ∷ x / 256 ∷ []) 0 (omega arith) ∙ ap (λ (a : ℕ). restricted a n) w ∙ restrict_below x n h

-- ---- two messages, one after the other
pub row_left : (n : ℕ) (a b : List ℕ) (r : ℕ) → 2 * r + 2 ≤ length a → row_of n (a ++ b) r ≡ row_of n a r
unfolding word_at
row_left n a b r h =
    row_held n (a ++ b) r (omega (arith, length-append a b))
    ∙ ap₂ (λ (x y : ℕ). restricted (x + 256 * y) n) (get_or-append a b 0 (2 * r) (omega arith)) (get_or-append a b 0 (2 * r + 1) (omega arith))
    ∙ sym (row_held n a r h)

pub row_right : (n : ℕ) (a b : List ℕ) (m r : ℕ) → length a ≡ 2 * m → row_of n (a ++ b) (m + r) ≡ row_of n b r
unfolding word_at
row_right n a b m r e =
    ⊎_elim
    (λ (l : length b < 2 * r + 2). row_missing n (a ++ b) (m + r) (omega (arith, length-append a b)) ∙ sym (row_missing n b r l))
    (λ (l : 2 * r + 2 ≤ length b).
    row_held n (a ++ b) (m + r) (omega (arith, length-append a b))
    ∙ ap₂ (λ (x y : ℕ). restricted (x + 256 * y) n) (at (2 * (m + r)) (2 * r) (omega arith)) (at (2 * (m + r) + 1) (2 * r + 1) (omega arith))
    ∙ sym (row_held n b r l))
    (lt_or_le (length b) (2 * r + 2))
  where
    at : (i j : ℕ) → i ≡ length a + j → get_or (a ++ b) i 0 ≡ get_or b j 0
    at i j q = ap (λ (x : ℕ). get_or (a ++ b) x 0) q ∙ get_or-append-add a b j 0

-- ---- the message that was written
pub length_rows : (n : ℕ) (rows : List ℕ) → length (rows_of n rows) ≡ 2 * min n 16
unfolding rows_of
length_rows n rows = length-tabulate (row_byte n rows) (2 * min n 16)

pub length_rows_few : (n : ℕ) (rows : List ℕ) → n ≤ 16 → length (rows_of n rows) ≡ 2 * n
length_rows_few n rows l = length_rows n rows ∙ omega arith

-- what `write_rows` leaves of a list that is long enough
pub rows_written : (n : ℕ) (rows out : List ℕ) → 2 * min n 16 ≤ length out
    → filled (row_byte n rows) (2 * min n 16) out ≡ rows_of n rows ++ drop (2 * min n 16) out
unfolding rows_of
rows_written n rows out h = filled_split (row_byte n rows) (2 * min n 16) out h

byte_low : (n : ℕ) (rows : List ℕ) (r : ℕ) → row_byte n rows (2 * r) ≡ restricted (get_or rows r 0) n % 256
unfolding row_byte
byte_low n rows r =
    let d : 2 * r / 2 ≡ r = omega arith in
    rw (eq-eqb (2 * r % 2) 0 (omega arith), d)

byte_high : (n : ℕ) (rows : List ℕ) (r : ℕ) → row_byte n rows (2 * r + 1) ≡ restricted (get_or rows r 0) n / 256
unfolding row_byte
byte_high n rows r =
    let d : (2 * r + 1) / 2 ≡ r = omega arith in
    rw (ne_eqb ((2 * r + 1) % 2) 0 (omega arith), d)

pub row_read : (n : ℕ) (rows : List ℕ) (r : ℕ) → n ≤ 16 → r < n → row_of n (rows_of n rows) r ≡ restricted (get_or rows r 0) n
unfolding rows_of word_at
row_read n rows r l h =
    let x : ℕ = restricted (get_or rows r 0) n in
    let w : x % 256 + 256 * (x / 256) ≡ x = omega arith in
    row_held n (rows_of n rows) r (omega (arith, length_rows_few n rows l))
    ∙ ap₂ (λ (a b : ℕ). restricted (a + 256 * b) n)
    (get_or-tabulate (row_byte n rows) (2 * min n 16) (2 * r) 0 (omega arith) ∙ byte_low n rows r)
    (get_or-tabulate (row_byte n rows) (2 * min n 16) (2 * r + 1) 0 (omega arith) ∙ byte_high n rows r)
    ∙ ap (λ (a : ℕ). restricted a n) w
    ∙ restrict_below x n (restrict_lt (get_or rows r 0) n)

-- ---- bytes
-- byte i of the two of a number of 16 bits
pub byte_of : (x i : ℕ) → x < 65536 → i < 2 → get_or (x % 256 ∷ x / 256 % 256 ∷ []) i 0 ≡ cond (eqb i 0) (x % 256) (x / 256)
byte_of x zero h l = refl
byte_of x (suc zero) h l = mod-eq_of_lt (omega arith)
byte_of x (suc (suc i)) h l = absurd (omega arith)

-- of 16 bits, the low eight and the rest are bytes
pub halves : (s n : ℕ) → n ≤ 16 → (restricted s n % 256 < 256) × (restricted s n / 256 < 256)
halves s n h =
    let l : restricted s n < 2 ^ 16 = omega (arith, restrict_lt s n, pow_mono {i = n} {j = 16} h) in
    (omega arith, omega arith)

pub bytes_rows : (n : ℕ) (rows : List ℕ) → n ≤ 16 → (x : ℕ) → get_or (rows_of n rows) x 0 < 256
unfolding rows_of row_byte
bytes_rows n rows h x =
    ⊎_elim
    (λ (l : x < 2 * min n 16). rw (get_or-tabulate (row_byte n rows) (2 * min n 16) x 0 l) (go (eqb (x % 2) 0)))
    (λ (l : 2 * min n 16 ≤ x). rw (get_or-eq_default (rows_of n rows) 0 {n = x} (omega (arith, length_rows n rows))) (lit< tt))
    (lt_or_le x (2 * min n 16))
  where
    go : (b : Bool) → cond b (restricted (get_or rows (x / 2) 0) n % 256) (restricted (get_or rows (x / 2) 0) n / 256) < 256
    go true = (halves (get_or rows (x / 2) 0) n h).0
    go false = (halves (get_or rows (x / 2) 0) n h).1
