-- For the contracts of private functions; a reader of the public contracts needs none of it.
--   head_in l a                what the settings line l that starts at byte a says
--   head_at input a            what the line at byte a says as the settings line
--   message_ranges s           the ranges of round, from and to in the settings s
--   line_in s l a              what the message line l that starts at byte a says in the settings s
--   is_to to j                 a message to `to` is for j
--   is_taken x to j            j is a receiver, and x is no empty place
--   is_given row to            a receiver has a place in the row
--   row_with row to p          the row with the place p for each receiver
--   row_at ps r f              the row of round r and sender f in the table ps
--   is_new ps m                no receiver of m has a place in its row
--   table_with ps m            the table ps with the place of m for each receiver
--   said m                     the message that the code holds as m
--   is_entry s input a ps      the line at byte a is ended, a message, and new
--   entry_at, table_at         what such a line gives: its sender and the next line; the table with it
--   bare s ms                  what a file of the settings s with the messages ms says, but the block
--   restored c r               what was read from the settings of c alone, with all of c
--   lines_of r, table_in r ps  what the reader of the message lines answers; the table that it leaves
--   block_at input a e         the bytes that the digits from a to e say
--   opened s block             the settings and the block, before the first message
--   Enters m                   m is in range for the table
--   Started, Opened            what the readers of the message lines and of the contents ask
use Rattle.std.specs.Prelude.{Bool, cond, not, ◌&&◌, ◌||◌, Option, Some, None, Result, Ok, Err, List, [], ◌∷◌, ℕ, ◌+◌, ◌-◌, ◌*◌, ◌/◌, ◌%◌, ◌≤◌, ◌<◌, eqb, ltb, length, get_or, take, drop}
use Rattle.lists.specs.Fill.{tabulate}
use Rattle.lists.specs.Join.{part}
use Rattle.lists.specs.Sum.{count}
use Rattle.bitset.specs.Set.{set_of}
use Rattle.text.specs.Read.{value_of, bytes_of}
use Rattle.text.specs.Lines.{line_at, is_ended, next_at, rest, field}
use Rattle.settings.specs.Valid.{Coded}
use Rattle.settings.specs.declared.Settings.{Settings}
use Rattle.system_file.specs.declared.head.Head.{Head}
use Rattle.system_file.specs.declared.messages.Said.{Said}
use Rattle.system_file.specs.declared.messages.Entry.{Entry}
use Rattle.system_file.specs.declared.FormError.{FormError}
use Rattle.system_file.specs.Form.{file_limit, is_settings, is_message, Message, message_at, Contents, Read, wrong, right, settings_in}
use Rattle.system_file.specs.Table.{is_faulty, reaches, table_size, table_of, error_of}

-- ---- lines
unfoldable pub head_in : List ℕ → ℕ → Option Head
head_in l a =
    cond (is_settings l) (Some (record { settings = settings_in l; start = a + (length l - length (rest 4 l)); end = a + length l })) None

unfoldable pub head_at : List ℕ → ℕ → Option Head
head_at input a = cond (is_ended input a) (head_in (line_at input a) a) None

abbrev pub message_ranges : Settings → List ℕ
message_ranges s = 1 ∷ (3 * s.t + 8) ∷ 1 ∷ s.n ∷ 0 ∷ s.n ∷ []

unfoldable pub line_in : Settings → List ℕ → ℕ → Option Said
line_in s l a =
    cond (is_message s l)
    (Some (record {
      round = value_of (field 0 l);
      from = value_of (field 1 l);
      to = value_of (field 2 l);
      place = a + (length l - length (rest 3 l));
    }))
    None

-- ---- the table
unfoldable pub is_to : ℕ → ℕ → Bool
is_to to j = eqb to 0 || eqb to j

unfoldable pub is_taken : ℕ → ℕ → ℕ → Bool
is_taken x to j = not (eqb x 0) && is_to to j

unfoldable pub is_given : List ℕ → ℕ → Bool
is_given row to = ltb 0 (count 16 (λ j. is_taken (get_or row j 0) to (j + 1)))

unfoldable pub row_with : List ℕ → ℕ → ℕ → List ℕ
row_with row to p = tabulate (λ j. cond (is_to to (j + 1)) p (get_or row j 0)) 16

unfoldable pub row_at : List ℕ → ℕ → ℕ → List ℕ
row_at ps r f = part 16 ps ((r - 1) * 16 + (f - 1))

unfoldable pub is_new : List ℕ → Message → Bool
is_new ps m = not (is_given (row_at ps m.round m.from) m.to)

unfoldable pub table_with : List ℕ → Message → List ℕ
table_with ps m = tabulate (λ x. cond (reaches m (x / 256 + 1) (x / 16 % 16 + 1) (x % 16 + 1)) m.place (get_or ps x 0)) table_size

abbrev pub said : Said → Message
said m = record { round = m.round; from = m.from; to = m.to; place = m.place }

pub record Enters (m : Message) : Type 0 where
  pub round-least : 1 ≤ m.round
  pub round-most : m.round ≤ 23
  pub from-least : 1 ≤ m.from
  pub from-most : m.from ≤ 16
  pub to_most : m.to ≤ 16
  pub place-least : 1 ≤ m.place
  pub place-most : m.place < file_limit

-- ---- message lines
unfoldable pub is_entry : Settings → List ℕ → ℕ → List ℕ → Bool
is_entry s input a ps = is_ended input a && (is_message s (line_at input a) && is_new ps (message_at input a))

unfoldable pub entry_at : Settings → List ℕ → ℕ → List ℕ → Option Entry
entry_at s input a ps = cond (is_entry s input a ps) (Some (record { from = (message_at input a).from; next = next_at input a })) None

unfoldable pub table_at : Settings → List ℕ → ℕ → List ℕ → List ℕ
table_at s input a ps = cond (is_entry s input a ps) (table_with ps (message_at input a)) ps

abbrev pub bare : Settings → List Message → Contents
bare s ms = record { settings = s; block = []; messages = ms }

abbrev pub restored : Contents → Read → Read
restored c (wrong line) = wrong line
restored c (right d) = right (record { settings = c.settings; block = c.block; messages = d.messages })

abbrev pub lines_of : Read → Result ℕ FormError
lines_of (wrong line) = Err (error_of line)
lines_of (right c) = Ok (set_of 16 (λ i. is_faulty c.messages (i + 1)))

abbrev pub table_in : Read → List ℕ → List ℕ
table_in (wrong line) ps = ps
table_in (right c) ps = table_of c.messages

unfoldable pub block_at : List ℕ → ℕ → ℕ → List ℕ
block_at input a e = bytes_of (take (e - a) (drop a input))

abbrev pub opened : Settings → List ℕ → Contents
opened s block = record { settings = s; block = block; messages = [] }

pub record Started (input : List ℕ) (s : Settings) (at : ℕ) : Type 0 where
  pub coded : Coded s.n s.t s.k
  pub size : length input ≤ file_limit
  pub at_least : 1 ≤ at
  pub at_most : at ≤ length input

pub record Opened (input : List ℕ) (s : Settings) (start end at : ℕ) : Type 0 where
  pub started : Started input s at
  pub order : start ≤ end
  pub within : end ≤ length input
  pub fits : length (block_at input start end) ≤ 192
