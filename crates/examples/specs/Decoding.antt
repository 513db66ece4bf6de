-- Document 02, U2 and U1: what decoding gives of all blocks, and whom it names. Proved in proofs/Decoding.antt.
--   sent silent k t B j  what controller j sends: nothing if it is silent, else its piece of B
--   ThreeSilent          seven controllers, t 2: any three silent and four true pieces of any block give the block, and name the three
--   SevenFalse           sixteen controllers, t 1, all present: any block is found whose pieces stand in all but seven slots, whatever is in these, and
--                        these slots are named
use Rattle.std.specs.Prelude.{◌≡◌, Bool, cond, List, ℕ, ◌+◌, ◌≤◌, length}
use Rattle.lists.specs.Sum.{count}
use Rattle.bitset.specs.Set.{set_of}
use Rattle.wire.specs.declared.slot.Layout.{Layout}
use Rattle.wire.specs.Length.{block_length}
use Rattle.wire.specs.Slot.{layout_with, Sent, silence, bytes, slots}
use Rattle.polynomial.specs.Polynomial.{Bytes}
use Rattle.reed_solomon.specs.Encode.{piece_of}
use Rattle.reed_solomon.specs.Decode.{Block, present_count, is_named, named_of, decode_refusal, Answers}

abbrev pub sent : (ℕ → Bool) → (k t : ℕ) → List ℕ → ℕ → Sent
sent silent k t B j = cond (silent j) silence (bytes (piece_of k t B j))

abbrev pub ThreeSilent : Type 0
ThreeSilent =
    (run k : ℕ) (B before : List ℕ) (silent : ℕ → Bool) → 1 ≤ k → k ≤ 128 → length B ≡ block_length k 2 → Bytes B → length before ≡ block_length k 2
    → count 7 (λ i. silent (i + 1)) ≡ 3 → Answers 7 2 (layout_with run k) (slots (layout_with run k) (sent silent k 2 B) 7) before
    (Block (set_of 7 (λ i. silent (i + 1)))) B

abbrev pub SevenFalse : Type 0
SevenFalse =
    (layout : Layout) (slots B before : List ℕ) → decode_refusal 16 1 layout slots before ≡ 0 → length B ≡ block_length layout.length 1 → Bytes B
    → present_count 16 layout slots ≡ 16 → count 16 (λ i. is_named 1 layout slots B (i + 1)) ≤ 7
    → Answers 16 1 layout slots before (Block (named_of 16 1 layout slots B)) B
