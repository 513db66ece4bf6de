-- For the contracts of private functions; a reader of the public contracts needs none of it. `answer i x` says that a closure may answer x at i.
--   said_rows inbox layout n r      row r of the message of each of the n slots
--   king_row inbox layout n king r  row r of the king's message; empty for a number past n
--   IsMatrixOf answer n rows        the matrix of the rows that it answers, for each below n
use Rattle.std.specs.Prelude.{◌≡◌, cond, List, [], ℕ, ◌+◌, ◌<◌, leb, replicate}
use Rattle.lists.specs.Fill.{filled}
use Rattle.bitset.specs.Row.{row_of}
use Rattle.wire.specs.declared.slot.Layout.{Layout}
use Rattle.wire.specs.Slot.{message_of}

unfoldable pub said_rows : List ℕ → Layout → ℕ → ℕ → List ℕ
said_rows inbox layout n r = filled (λ i. row_of n (message_of inbox layout (i + 1)) r) n (replicate 16 0)

unfoldable pub king_row : List ℕ → Layout → ℕ → ℕ → ℕ → ℕ
king_row inbox layout n king r = row_of n (cond (leb king n) (message_of inbox layout king) []) r

abbrev pub IsMatrixOf : (ℕ → ℕ → Type 0) → ℕ → List ℕ → Type 0
IsMatrixOf answer n rows = (f : ℕ → ℕ) → ((r x : ℕ) → r < n → answer r x → x ≡ f r) → rows ≡ filled f n (replicate 16 0)
