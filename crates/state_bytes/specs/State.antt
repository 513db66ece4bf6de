-- The state of a controller as bytes, for callers that keep it in a buffer: twelve fields, one behind the other, each of a width of its own, a number
-- with its lowest byte first. The main law is `read_written` (proofs/Laws.antt): what was written is read back.
--   little_endian w x     the w low bytes of the number x, the lowest first
--   number_of bytes       the number that such bytes stand for
--   widths                how many bytes each field takes: n, t, k, own number, sender, next call, outcome, matrix, weak matrix, core, those
--                         named, run number
--   width_of i            the width of field i, counted from 0
--   offset i              where field i starts: the sum of the widths before it
--   state_length          how many bytes a state takes: the sum of all widths
--   six_numbers s         the first six fields, which are numbers
--   fields_of s           the bytes of the twelve fields: numbers, and 16 rows of marks for each matrix
--   field_bytes s i       those of field i
--   state_bytes s         the bytes of a state
--   field_in bytes i      field i in the bytes of a state
--   field_number bytes i  the number in it
--   field_rows bytes i    the 16 rows in it
--   state_in bytes        the state whose fields stand in the bytes
--   state_of bytes        the state that the bytes stand for: every list of that length is a state; the zero state where it has another length
--   Words s               the bounds of a state's fields: numbers below 2 ^ 64, and rows and a run number of 16 bits
use Rattle.std.specs.Prelude.{◌≡◌, cond, List, [], ◌∷◌, ℕ, zero, suc, ◌+◌, ◌*◌, ◌/◌, ◌%◌, ◌^◌, ◌<◌, eqb, length, get_or, take, drop}
use Rattle.lists.specs.Sum.{sum}
use Rattle.lists.specs.Join.{joined}
use Rattle.bitset.specs.Row.{row_of, rows_in, rows_of}
use Rattle.reconstruction.specs.Outcomes.{outcome_number, outcome_from}
use Rattle.protocol.specs.declared.State.{State}
use Rattle.protocol.specs.State.{zero_state}

unfoldable pub little_endian : ℕ → ℕ → List ℕ
little_endian zero x = []
little_endian (suc w) x = x % 256 ∷ little_endian w (x / 256)

unfoldable pub number_of : List ℕ → ℕ
number_of [] = 0
number_of (b ∷ bytes) = b + 256 * number_of bytes

abbrev pub widths : List ℕ
widths = 8 ∷ 8 ∷ 8 ∷ 8 ∷ 8 ∷ 8 ∷ 1 ∷ 32 ∷ 32 ∷ 2 ∷ 2 ∷ 2 ∷ []

unfoldable pub width_of : ℕ → ℕ
width_of i = get_or widths i 0

unfoldable pub offset : ℕ → ℕ
offset i = sum i width_of

abbrev pub state_length : ℕ
state_length = offset (length widths)

abbrev pub six_numbers : State → List ℕ
six_numbers s = s.settings.n ∷ s.settings.t ∷ s.settings.k ∷ s.own ∷ s.settings.sender ∷ s.next ∷ []

abbrev pub fields_of : State → List (List ℕ)
fields_of s =
    little_endian (width_of 0) s.settings.n ∷ little_endian (width_of 1) s.settings.t ∷ little_endian (width_of 2) s.settings.k
    ∷ little_endian (width_of 3) s.own ∷ little_endian (width_of 4) s.settings.sender ∷ little_endian (width_of 5) s.next
    ∷ little_endian (width_of 6) (outcome_number s.outcome) ∷ rows_of 16 s.matrix ∷ rows_of 16 s.weak ∷ little_endian (width_of 9) s.core
    ∷ little_endian (width_of 10) s.named ∷ little_endian (width_of 11) s.run ∷ []

unfoldable pub field_bytes : State → ℕ → List ℕ
field_bytes s i = get_or (fields_of s) i []

unfoldable pub state_bytes : State → List ℕ
state_bytes s = joined (field_bytes s) (length widths)

unfoldable pub field_in : List ℕ → ℕ → List ℕ
field_in bytes i = take (width_of i) (drop (offset i) bytes)

abbrev pub field_number : List ℕ → ℕ → ℕ
field_number bytes i = number_of (field_in bytes i)

abbrev pub field_rows : List ℕ → ℕ → List ℕ
field_rows bytes i = rows_in (field_in bytes i)

unfoldable pub state_in : List ℕ → State
state_in bytes = record {
  settings = record { n = field_number bytes 0; t = field_number bytes 1; k = field_number bytes 2; sender = field_number bytes 4 };
  own = field_number bytes 3;
  run = field_number bytes 11;
  next = field_number bytes 5;
  outcome = outcome_from (field_number bytes 6);
  matrix = field_rows bytes 7;
  weak = field_rows bytes 8;
  core = row_of 16 (field_in bytes 9) 0;
  named = row_of 16 (field_in bytes 10) 0;
}

unfoldable pub state_of : List ℕ → State
state_of bytes = cond (eqb (length bytes) state_length) (state_in bytes) zero_state

pub record Words (s : State) : Type 0 where
  pub numbers : (i : ℕ) → get_or (six_numbers s) i 0 < 2 ^ 64
  pub matrix_length : length s.matrix ≡ 16
  pub matrix_rows : (i : ℕ) → get_or s.matrix i 0 < 2 ^ 16
  pub weak-length : length s.weak ≡ 16
  pub weak_rows : (i : ℕ) → get_or s.weak i 0 < 2 ^ 16
  pub core_row : s.core < 2 ^ 16
  pub named_row : s.named < 2 ^ 16
  pub run_word : s.run < 2 ^ 16
