-- Rows of marks in message bytes (document 01, 'Rounds': marks are 16 bits, low byte first; bits past n are sent 0 and not read;
-- a matrix is n rows of marks).
--   word_at m r        the 16 bits of row r of the message m, low byte first
--   row_of n m r       the set in row r of the message m, of the indices below n; empty where m does not hold the row whole
--   rows_in m          16 rows in the message m
--   row_byte n rows b  byte b of the message that holds these rows, each without the bits past n
--   rows_length n      how many bytes n rows take, of 16 at most
--   rows_of n rows     the message of the first n rows, of 16 at most
use Rattle.std.specs.Prelude.{cond, List, ℕ, ◌+◌, ◌*◌, ◌/◌, ◌%◌, min, eqb, ltb, length, get_or}
use Rattle.lists.specs.Fill.{tabulate}
use Rattle.bitset.specs.Set.{restricted}

unfoldable pub word_at : List ℕ → ℕ → ℕ
word_at m r = get_or m (2 * r) 0 + 256 * get_or m (2 * r + 1) 0

unfoldable pub row_of : ℕ → List ℕ → ℕ → ℕ
row_of n m r = cond (ltb r (length m / 2)) (restricted (word_at m r) n) 0

abbrev pub rows_in : List ℕ → List ℕ
rows_in m = tabulate (row_of 16 m) 16

unfoldable pub row_byte : ℕ → List ℕ → ℕ → ℕ
row_byte n rows b = cond (eqb (b % 2) 0) (restricted (get_or rows (b / 2) 0) n % 256) (restricted (get_or rows (b / 2) 0) n / 256)

abbrev pub rows_length : ℕ → ℕ
rows_length n = 2 * min n 16

unfoldable pub rows_of : ℕ → List ℕ → List ℕ
rows_of n rows = tabulate (row_byte n rows) (rows_length n)
