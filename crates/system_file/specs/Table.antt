-- The messages of a file by round, sender and receiver, and what the reader answers.
--   is_faulty ms i         controller i stands under `from` (document 01: who stands under `from` is faulty)
--   reaches m r f j        m is of round r, from f, and to j, or to all
--   place_of ms r f j      where the message of round r from f to j starts in the file; 0 where there is none
--   text_of input len p    the message of len bytes that starts at byte p of the file; empty for p 0
--   said_of input c r f j  the message of round r from f to j, as the file says it; empty where there is none
--   table_size             23 rounds of 16 by 16 places
--   table_index r f j      the place of (r, f, j) in the table, counted from 0; the table has the places of all messages
--   table_of ms            the table
--   in_table r f j         r is one of 23 rounds, f and j are among 16 controllers
--   place_in places r f j  what a table has for (r, f, j); 0 outside
--   some_place p           the place p; none for 0
--   error_of x, line_of e  what the reader answers for the wrong line x, and back; 0: the file is too long
--   file_of r              the reader's answer: the settings, the block, the faulty controllers, the table; or what is wrong
--   Properly input c       what holds of each file that is read: settings, block and messages within their bounds
use Rattle.std.specs.Prelude.{◌≡◌, Bool, true, false, cond, ◌&&◌, ◌||◌, Option, Some, None, Result, Ok, Err, List, [], ◌∷◌, ℕ, zero, suc, ◌+◌, ◌-◌, ◌*◌, ◌/◌, ◌%◌, ◌≤◌, ◌<◌, eqb, leb, length, get_or, take, drop}
use Rattle.lists.specs.Fill.{tabulate}
use Rattle.bitset.specs.Set.{set_of}
use Rattle.text.specs.Read.{bytes_of}
use Rattle.text.specs.Write.{padded}
use Rattle.settings.specs.Valid.{Coded, Numbered}
use Rattle.wire.specs.Length.{block_length, message_length}
use Rattle.system_file.specs.declared.SystemFile.{SystemFile}
use Rattle.system_file.specs.declared.FormError.{FormError}
use Rattle.system_file.specs.declared.FormError.TheVariants.{TooLong, Line}
use Rattle.system_file.specs.Form.{file_limit, Message, Contents, Read, wrong, right}

unfoldable pub is_faulty : List Message → ℕ → Bool
is_faulty [] i = false
is_faulty (m ∷ ms) i = eqb m.from i || is_faulty ms i

unfoldable pub reaches : Message → (r f j : ℕ) → Bool
reaches m r f j = eqb m.round r && (eqb m.from f && (eqb m.to 0 || eqb m.to j))

unfoldable pub place_of : List Message → (r f j : ℕ) → ℕ
place_of [] r f j = 0
place_of (m ∷ ms) r f j = cond (reaches m r f j) m.place (place_of ms r f j)

unfoldable pub text_of : List ℕ → ℕ → ℕ → List ℕ
text_of input len p = cond (eqb p 0) [] (bytes_of (take (2 * len) (drop p input)))

unfoldable pub said_of : List ℕ → Contents → (r f j : ℕ) → List ℕ
said_of input c r f j = text_of input (message_length c.settings.n c.settings.t c.settings.k r) (place_of c.messages r f j)

abbrev pub table_size : ℕ
table_size = 5888

unfoldable pub table_index : (r f j : ℕ) → ℕ
table_index r f j = (r - 1) * 256 + (f - 1) * 16 + (j - 1)

unfoldable pub table_of : List Message → List ℕ
table_of ms = tabulate (λ x. place_of ms (x / 256 + 1) (x / 16 % 16 + 1) (x % 16 + 1)) table_size

unfoldable pub in_table : (r f j : ℕ) → Bool
in_table r f j = (leb 1 r && leb r 23) && ((leb 1 f && leb f 16) && (leb 1 j && leb j 16))

unfoldable pub place_in : List ℕ → (r f j : ℕ) → ℕ
place_in places r f j = cond (in_table r f j) (get_or places (table_index r f j) 0) 0

abbrev pub some_place : ℕ → Option ℕ
some_place zero = None
some_place (suc p) = Some (suc p)

abbrev pub error_of : ℕ → FormError
error_of zero = TooLong
error_of (suc x) = Line (suc x)

abbrev pub line_of : FormError → ℕ
line_of TooLong = 0
line_of (Line x) = x

abbrev pub file_of : Read → Result SystemFile FormError
file_of (wrong line) = Err (error_of line)
file_of (right c) = Ok (record {
  settings = c.settings;
  block = padded 192 c.block;
  faulty = set_of 16 (λ i. is_faulty c.messages (i + 1));
  places = table_of c.messages;
})

pub record Properly (input : List ℕ) (c : Contents) : Type 0 where
  pub coded : Coded c.settings.n c.settings.t c.settings.k
  pub stripes : c.settings.k ≤ 32
  pub sender : c.settings.sender ≤ c.settings.n
  pub block_length : length c.block ≡ block_length c.settings.k c.settings.t
  pub block-bytes : (i : ℕ) → get_or c.block i 0 < 256
  pub size : length input ≤ file_limit
  pub room : (r f j : ℕ) → (place_of c.messages r f j ≡ 0 → ⊥)
      → place_of c.messages r f j + 2 * message_length c.settings.n c.settings.t c.settings.k r ≤ length input
  pub faulty : (i : ℕ) → is_faulty c.messages i ≡ true → Numbered c.settings.n i
