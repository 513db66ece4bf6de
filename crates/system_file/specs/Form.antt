-- The form of a system file, and what a file of that form says (document 01, 'The house program': it calls a system a house).
--   file_limit                     the most bytes that a file has
--   settings_names, message_names  the two lines of names
--   is_settings l                  n 4 to 16; t at least 1, 3t + 1 at most n; k 1 to 32; the sender 0 to n, 0 for none (document 02, U6); a block of
--                                  k(t + 1) bytes
--   is_message s l                 a round of the run; from 1 to n; to 0 to n; a message of its round's length
--   Message                        one line: its round, from, to, and the byte of the file where its message starts
--   message_at input a             the message in the line at a
--   clashes m m'                   both give the same (round, from, to); `to` 0 gives all
--   is_repeated ms m               m clashes with one of ms
--   Contents                       what a file says: settings, block, messages (the last line first)
--   with_message c m               with a message more
--   Read                           the first wrong or missing line, 0 for a file that is too long; or what the file says
--   read_from fuel input c a line  the message lines from byte a on, the first of which is line number `line`, after the contents c
--   settings_in l                  the settings that the settings line says
--   contents_of l                  what a file with this settings line says before its first message
--   read_of input                  the whole file
use Rattle.std.specs.Prelude.{Bool, false, cond, not, ◌&&◌, ◌||◌, List, [], ◌∷◌, ℕ, zero, suc, ◌+◌, ◌-◌, ◌*◌, eqb, leb, ltb, length}
use Rattle.text.specs.Read.{value_of, number_in, is_bytes, bytes_of}
use Rattle.text.specs.Lines.{line_at, is_ended, next_at, is_names, rest, field}
use Rattle.settings.specs.declared.Settings.{Settings}
use Rattle.wire.specs.Length.{block_length, message_length}

abbrev pub file_limit : ℕ
file_limit = 65536

-- controllers,tolerance,stripes,sender,block
abbrev pub settings_names : List ℕ
settings_names =
    0x63 ∷ 0x6f ∷ 0x6e ∷ 0x74 ∷ 0x72 ∷ 0x6f ∷ 0x6c ∷ 0x6c ∷ 0x65 ∷ 0x72 ∷ 0x73 ∷ 0x2c
    ∷ 0x74 ∷ 0x6f ∷ 0x6c ∷ 0x65 ∷ 0x72 ∷ 0x61 ∷ 0x6e ∷ 0x63 ∷ 0x65 ∷ 0x2c
    ∷ 0x73 ∷ 0x74 ∷ 0x72 ∷ 0x69 ∷ 0x70 ∷ 0x65 ∷ 0x73 ∷ 0x2c
    ∷ 0x73 ∷ 0x65 ∷ 0x6e ∷ 0x64 ∷ 0x65 ∷ 0x72 ∷ 0x2c
    ∷ 0x62 ∷ 0x6c ∷ 0x6f ∷ 0x63 ∷ 0x6b ∷ []

-- round,from,to,message
abbrev pub message_names : List ℕ
message_names =
    0x72 ∷ 0x6f ∷ 0x75 ∷ 0x6e ∷ 0x64 ∷ 0x2c
    ∷ 0x66 ∷ 0x72 ∷ 0x6f ∷ 0x6d ∷ 0x2c
    ∷ 0x74 ∷ 0x6f ∷ 0x2c
    ∷ 0x6d ∷ 0x65 ∷ 0x73 ∷ 0x73 ∷ 0x61 ∷ 0x67 ∷ 0x65 ∷ []

-- the last field is the whole rest of the line, and not empty: so a line with too few or too many commas is wrong
unfoldable pub is_settings : List ℕ → Bool
is_settings l =
    let n = value_of (field 0 l) in
    let t = value_of (field 1 l) in
    let k = value_of (field 2 l) in
    number_in 4 16 (field 0 l)
    && (number_in 1 n (field 1 l)
    && (leb (3 * t + 1) n
    && (number_in 1 32 (field 2 l)
    && (number_in 0 n (field 3 l)
    && is_bytes (block_length k t) (rest 4 l)))))

unfoldable pub is_message : Settings → List ℕ → Bool
is_message s l =
    number_in 1 (3 * s.t + 8) (field 0 l)
    && (number_in 1 s.n (field 1 l)
    && (number_in 0 s.n (field 2 l)
    && is_bytes (message_length s.n s.t s.k (value_of (field 0 l))) (rest 3 l)))

pub record Message : Type 0 where
  pub round : ℕ
  pub from : ℕ
  pub to : ℕ
  pub place : ℕ

unfoldable pub message_at : List ℕ → ℕ → Message
message_at input a =
    let l = line_at input a in
    record {
      round = value_of (field 0 l);
      from = value_of (field 1 l);
      to = value_of (field 2 l);
      place = a + (length l - length (rest 3 l));
    }

unfoldable pub clashes : Message → Message → Bool
clashes m m' =
    eqb m.round m'.round && (eqb m.from m'.from && (eqb m.to m'.to || (eqb m.to 0 || eqb m'.to 0)))

unfoldable pub is_repeated : List Message → Message → Bool
is_repeated [] m = false
is_repeated (x ∷ ms) m = clashes x m || is_repeated ms m

pub record Contents : Type 0 where
  pub settings : Settings
  pub block : List ℕ
  pub messages : List Message

pub data Read : Type 0 where
  wrong : ℕ → Read
  right : Contents → Read

abbrev pub with_message : Contents → Message → Contents
with_message c m = record { settings = c.settings; block = c.block; messages = m ∷ c.messages }

-- each line has a byte at least, so that the file's length is fuel enough
unfoldable pub read_from : (fuel : ℕ) → List ℕ → Contents → (a line : ℕ) → Read
read_from zero input c a line = right c
read_from (suc fuel) input c a line =
    cond (leb (length input) a) (right c)
    (cond
    (is_ended input a && (is_message c.settings (line_at input a) && not (is_repeated c.messages (message_at input a))))
    (read_from fuel input (with_message c (message_at input a)) (next_at input a) (line + 1))
    (wrong line))

unfoldable pub settings_in : List ℕ → Settings
settings_in l = record { n = value_of (field 0 l); t = value_of (field 1 l); k = value_of (field 2 l); sender = value_of (field 3 l) }

unfoldable pub contents_of : List ℕ → Contents
contents_of l = record { settings = settings_in l; block = bytes_of (rest 4 l); messages = [] }

unfoldable pub read_of : List ℕ → Read
read_of input =
    let a = next_at input 0 in
    let b = next_at input a in
    cond (ltb file_limit (length input)) (wrong 0)
    (cond (not (is_names settings_names input 0)) (wrong 1)
    (cond (not (is_ended input a && is_settings (line_at input a))) (wrong 2)
    (cond (not (is_names message_names input b)) (wrong 3)
    (read_from (length input) input (contents_of (line_at input a)) (next_at input b) 4))))
