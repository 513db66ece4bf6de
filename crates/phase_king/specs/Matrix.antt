-- Matrices of marks as lists of 16 rows, and what a controller makes of its inboxes (document 01, 'Rounds', call 4 and rounds 3p + 1 to
-- 3p + 3). Rows and bits past n are 0. A number n over 16 counts as 16, so every definition is total; layout is that of the inbox.
-- An absent slot reads as a message of no rows, and a row that is not there as zeros (bitset's `row_of`): it says 0 in round 3p + 1, adds to
-- neither count in round 3p + 2, and is 0 for the king.
--   limit n                                   n, or 16 where n is larger
--   cell m r j                                bit j of row r of the matrix m
--   matrix_of n f                             the matrix whose bit j of row r is f r j, for r and j below n
--   said inbox layout n r j i                 what slot i + 1 says of bit j of row r
--   king_says inbox layout n king r j         what the slot of the king says, controller 1 to n; 0 for any other number
--   first_matrix inbox layout n               call 4: row j is the message of j, zeros if absent
--   zeros_of, ones_of inbox layout n t        after 3p + 1: where zero and where one is seen
--   held_of, weak_of inbox layout n t         after 3p + 2: the bits now held, and where their count is below n - t; row r of the ones matrix is row n +
--                                             r of the message
--   settled_of rows weak inbox layout n king  after 3p + 3: the king's bit where weak, else the bit held
--   seen_message n zeros ones                 the message of round 3p + 2: the zeros matrix, then the ones matrix
--   sent_by_king layout own king n rows o     round 3p + 3: the king's matrix to all; silence from everyone else
--   collect_answer, tally_answer, hold_answer, settle_answer   the answers of the functions, as structs
use Rattle.std.specs.Prelude.{Bool, cond, List, [], ◌++◌, ℕ, ◌+◌, min, leb, eqb, length, get_or, replicate}
use Rattle.lists.specs.Fill.{filled}
use Rattle.bitset.specs.Set.{member, set_of}
use Rattle.bitset.specs.Row.{row_of, rows_of}
use Rattle.wire.specs.declared.slot.Layout.{Layout}
use Rattle.wire.specs.Slot.{message_of, to_all}
use Rattle.phase_king.specs.Bit.{zero_seen, one_seen, held, weak, settled}
use Rattle.phase_king.specs.declared.Matrix.{Matrix}
use Rattle.phase_king.specs.declared.Seen.{Seen}
use Rattle.phase_king.specs.declared.Held.{Held}

abbrev pub limit : ℕ → ℕ
limit n = min n 16

abbrev pub cell : List ℕ → ℕ → ℕ → Bool
cell m r j = member (get_or m r 0) j

unfoldable pub matrix_of : ℕ → (ℕ → ℕ → Bool) → List ℕ
matrix_of n f = filled (λ r. set_of n (f r)) n (replicate 16 0)

unfoldable pub said : List ℕ → Layout → ℕ → ℕ → ℕ → ℕ → Bool
said inbox layout n r j i = member (row_of n (message_of inbox layout (i + 1)) r) j

unfoldable pub king_says : List ℕ → Layout → ℕ → ℕ → ℕ → ℕ → Bool
king_says inbox layout n king r j = member (row_of n (cond (leb king n) (message_of inbox layout king) []) r) j

unfoldable pub first_matrix : List ℕ → Layout → ℕ → List ℕ
first_matrix inbox layout n = matrix_of (limit n) (λ r j. said inbox layout (limit n) 0 j r)

unfoldable pub zeros_of : List ℕ → Layout → ℕ → ℕ → List ℕ
zeros_of inbox layout n t = matrix_of (limit n) (λ r j. zero_seen (limit n) t (said inbox layout (limit n) r j))

unfoldable pub ones_of : List ℕ → Layout → ℕ → ℕ → List ℕ
ones_of inbox layout n t = matrix_of (limit n) (λ r j. one_seen (limit n) t (said inbox layout (limit n) r j))

unfoldable pub held_of : List ℕ → Layout → ℕ → ℕ → List ℕ
held_of inbox layout n t = matrix_of (limit n) (λ r j. held (limit n) t (said inbox layout (limit n) (limit n + r) j))

unfoldable pub weak_of : List ℕ → Layout → ℕ → ℕ → List ℕ
weak_of inbox layout n t =
    matrix_of (limit n) (λ r j. weak (limit n) t (said inbox layout (limit n) r j) (said inbox layout (limit n) (limit n + r) j))

unfoldable pub settled_of : List ℕ → List ℕ → List ℕ → Layout → ℕ → ℕ → List ℕ
settled_of rows weak inbox layout n king =
    matrix_of (limit n) (λ r j. settled (cell rows r j) (cell weak r j) (king_says inbox layout (limit n) king r j))

unfoldable pub seen_message : ℕ → List ℕ → List ℕ → List ℕ
seen_message n zeros ones = rows_of n zeros ++ rows_of n ones

unfoldable pub sent_by_king : Layout → (own king n : ℕ) → List ℕ → List ℕ → List ℕ
sent_by_king layout own king n rows outbox = cond (eqb own king) (to_all layout (limit n) (rows_of n rows) outbox) (replicate (length outbox) 0)

abbrev pub collect_answer : List ℕ → Layout → ℕ → Matrix
collect_answer inbox layout n = record { rows = first_matrix inbox layout n }

abbrev pub tally_answer : List ℕ → Layout → ℕ → ℕ → Seen
tally_answer inbox layout n t = record { zeros = zeros_of inbox layout n t; ones = ones_of inbox layout n t }

abbrev pub hold_answer : List ℕ → Layout → ℕ → ℕ → Held
hold_answer inbox layout n t = record { rows = held_of inbox layout n t; weak = weak_of inbox layout n t }

abbrev pub settle_answer : List ℕ → List ℕ → List ℕ → Layout → ℕ → ℕ → Matrix
settle_answer rows weak inbox layout n king = record { rows = settled_of rows weak inbox layout n king }
