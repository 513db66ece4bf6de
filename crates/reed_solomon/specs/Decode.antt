-- Decoding (document 01, 'Field and code'; document 02, U2, U1 and U11): the rule, the false pieces, and what a call answers. The slots are of a layout
-- whose messages are pieces: its length is k. A slot of another run is absent.
--   has_piece layout slots j                 slot j is present. An absent slot has no message, and no piece is empty
--   received layout slots s j                the value of stripe s in slot j: byte s of its message
--   present_count n layout slots             how many of the slots 1 .. n are present: N in document 02
--   differing n layout slots s m             how many present values of stripe s differ from the code of m
--   Decodes n t layout slots block           the rule: for each stripe, twice the number of present values that differ from their code is at most N - t - 1.
--                                            It is written as a sum, since with N at most t nothing is right
--   is_named t layout slots block j          slot j does not hold, byte for byte, piece j of the block. An absent slot's message is empty, and no piece is: so
--                                            it is named too
--   named_of n t layout slots block          the marks of the slots of 1 .. n that are named
--   decode_fits n t layout slots block       the lent lengths are the stated ones: n slots of messages of k bytes, and a block
--   decode_refusal n t layout slots block    the number of the refusal table's row, or 0 ('Turned down': decoding tries 1, 2, 3, 6)
--   Decoded                                  what a call answers: a block, with the marks of the slots that are named; beyond; the number of a refusal
--   decoded_of a                             what the code's answer a says: with marks or with none, or refused
--   Answers n t layout slots before d after  what a call answers, d, and leaves in the lent block: the block that meets the rule, with its marks; beyond and
--                                            zeros where none does; refused, the row's number, and the block as it was
--   DecodesUnique                            at most one block meets the rule, whatever t and k are, where 1 .. n are different elements of the field (law
--                                            `decodes_unique`)
--   AnswersUnique                            so there is one answer, and one block that is left (law `answers_unique`)
--   PiecesDecode                             a block meets the rule where N + t + 1 is at most twice the number of slots that have its piece (law
--                                            `pieces_decode`)
--   FewBeyond                                with at most t present, no block does (law `few-beyond`)
--   NamedAbsent, NamedDiffers, NotNamed      document 02's words for the slots that are named: those that are absent, or differ in any stripe from the code
--                                            of the block, and no others (laws `named_absent`, `named_differs`, `not_named`)
--   NamedOtherRun                            so a slot that carries another run's number is named, whatever its message (law `named_other_run`)
use Rattle.std.specs.Prelude.{◌≡◌, Bool, true, false, not, ◌&&◌, List, ℕ, ◌+◌, ◌*◌, ◌≤◌, ◌<◌, eqb, length, get_or, replicate, Option, Some, None, Result, Ok, Err}
use Rattle.lists.specs.Sum.{count}
use Rattle.lists.specs.Same.{same}
use Rattle.bitset.specs.Set.{set_of}
use Rattle.settings.specs.declared.Refusal.{Refusal}
use Rattle.settings.specs.Refusal.{decoding_refusal}
use Rattle.settings.specs.Number.{row_of}
use Rattle.wire.specs.Length.{block_length}
use Rattle.wire.specs.declared.slot.Layout.{Layout}
use Rattle.wire.specs.Slot.{width, slot_of, message_of, OtherRun}
use Rattle.polynomial.specs.Polynomial.{evaluate, Bytes}
use Rattle.reed_solomon.specs.Encode.{stripe, piece_of}

unfoldable pub has_piece : Layout → List ℕ → ℕ → Bool
has_piece layout slots j = not (eqb (length (message_of slots layout j)) 0)

unfoldable pub received : Layout → List ℕ → ℕ → ℕ → ℕ
received layout slots s j = get_or (message_of slots layout j) s 0

unfoldable pub present_count : ℕ → Layout → List ℕ → ℕ
present_count n layout slots = count n (λ i. has_piece layout slots (i + 1))

unfoldable pub differing : ℕ → Layout → List ℕ → ℕ → List ℕ → ℕ
differing n layout slots s m = count n (λ i. has_piece layout slots (i + 1) && not (eqb (evaluate m (i + 1)) (received layout slots s (i + 1))))

pub record Decodes (n t : ℕ) (layout : Layout) (slots block : List ℕ) : Type 0 where
  pub size : length block ≡ block_length layout.length t
  pub bytes : Bytes block
  pub right : (s : ℕ) → s < layout.length → 2 * differing n layout slots s (stripe t block s) + t + 1 ≤ present_count n layout slots

unfoldable pub is_named : (t : ℕ) → Layout → List ℕ → List ℕ → ℕ → Bool
is_named t layout slots block j = not (same (message_of slots layout j) (piece_of layout.length t block j))

unfoldable pub named_of : (n t : ℕ) → Layout → List ℕ → List ℕ → ℕ
named_of n t layout slots block = set_of n (λ i. is_named t layout slots block (i + 1))

abbrev pub decode_fits : (n t : ℕ) → Layout → List ℕ → List ℕ → Bool
decode_fits n t layout slots block = eqb (length slots) (n * width layout) && eqb (length block) (block_length layout.length t)

unfoldable pub decode_refusal : (n t : ℕ) → Layout → List ℕ → List ℕ → ℕ
decode_refusal n t layout slots block =
    decoding_refusal n t layout.length (decode_fits n t layout slots block)

pub data Decoded : Type 0 where
  Block : ℕ → Decoded
  Beyond : Decoded
  Refused : ℕ → Decoded

abbrev pub decoded_of : Result (Option ℕ) Refusal → Decoded
decoded_of (Ok (Some named)) = Block named
decoded_of (Ok None) = Beyond
decoded_of (Err r) = Refused (row_of r)

abbrev pub Answers : (n t : ℕ) (layout : Layout) (slots before : List ℕ) → Decoded → List ℕ → Type 0
Answers n t layout slots before (Block named) after =
    (decode_refusal n t layout slots before ≡ 0) × Decodes n t layout slots after × (named ≡ named_of n t layout slots after)
Answers n t layout slots before Beyond after =
    (decode_refusal n t layout slots before ≡ 0) × ((B : List ℕ) → Decodes n t layout slots B → ⊥) × (after ≡ replicate (block_length layout.length t) 0)
Answers n t layout slots before (Refused r) after = (r ≡ decode_refusal n t layout slots before) × (r ≡ 0 → ⊥) × (after ≡ before)

abbrev pub DecodesUnique : Type 0
DecodesUnique = (n t : ℕ) (layout : Layout) (slots : List ℕ) → n < 256 → (B C : List ℕ) → Decodes n t layout slots B → Decodes n t layout slots C → B ≡ C

abbrev pub AnswersUnique : Type 0
AnswersUnique =
    (n t : ℕ) (layout : Layout) (slots before : List ℕ) (d e : Decoded) (B C : List ℕ)
    → Answers n t layout slots before d B → Answers n t layout slots before e C
    → (d ≡ e) × (B ≡ C)

-- `right` says of the index i that slot i + 1 has the piece of B
abbrev pub PiecesDecode : Type 0
PiecesDecode =
    (n t : ℕ) (layout : Layout) (slots B : List ℕ) (right : ℕ → Bool) → length B ≡ block_length layout.length t → Bytes B
    → ((i : ℕ) → i < n → right i ≡ true → message_of slots layout (i + 1) ≡ piece_of layout.length t B (i + 1))
    → present_count n layout slots + t + 1 ≤ 2 * count n right → Decodes n t layout slots B

abbrev pub FewBeyond : Type 0
FewBeyond = (n t : ℕ) (layout : Layout) (slots : List ℕ) → 1 ≤ layout.length → present_count n layout slots ≤ t → (B : List ℕ) → Decodes n t layout slots B → ⊥

abbrev pub NamedAbsent : Type 0
NamedAbsent =
    (t : ℕ) (layout : Layout) (slots block : List ℕ) (j : ℕ) → 1 ≤ layout.length → has_piece layout slots j ≡ false → is_named t layout slots block j ≡ true

abbrev pub NamedDiffers : Type 0
NamedDiffers =
    (t : ℕ) (layout : Layout) (slots block : List ℕ) (j s : ℕ) → s < layout.length → (received layout slots s j ≡ evaluate (stripe t block s) j → ⊥)
    → is_named t layout slots block j ≡ true

abbrev pub NotNamed : Type 0
NotNamed =
    (t : ℕ) (layout : Layout) (slots block : List ℕ) (j : ℕ) → has_piece layout slots j ≡ true
    → ((s : ℕ) → s < layout.length → received layout slots s j ≡ evaluate (stripe t block s) j) → is_named t layout slots block j ≡ false

abbrev pub NamedOtherRun : Type 0
NamedOtherRun =
    (t : ℕ) (layout : Layout) (slots block : List ℕ) (j : ℕ) → 1 ≤ layout.length → OtherRun layout (slot_of slots layout j)
    → is_named t layout slots block j ≡ true
