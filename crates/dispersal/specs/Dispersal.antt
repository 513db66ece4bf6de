-- Calls 1 to 3 (document 01, 'Rounds'): the sender's block, the pieces, the marks. Controllers are numbered from 1; own is the caller's own
-- number. Sender 0 is none (document 02, U6), so that nobody sends in round 1. The functions are total: outside the settings, or with a block or
-- an outbox of another length, nothing is written and nobody is marked.
--   sent_block layout n own sender b o    call 1: the sender's block to all; silence from everyone else
--   received_block inbox layout sender b  call 2: the block is the sender's message, or zeros if absent; without a sender the lent block is kept
--   two_pieces k t own b j                round 2, to j: the own piece, then piece j of the own coding
--   sent_pieces run n t k own b o         call 2: that to each j, in slots of the run with the number `run`
--   is_marked k t own inbox layout b j    call 3: j's slot is present, its first piece equals piece j of the own coding, and its second equals the own
--                                         piece; oneself is always marked
--   marks_of n t k own inbox layout b     call 3: the set of those marked, index j - 1 for controller j (document 01: marks)
--   marks_message n s                     the marks as 16 bits, low byte first; bits past n are sent 0
--   sent_marks layout n s o               call 3: the marks to all
use mathlib.Core.Bool.{Bool, cond, not, ◌&&◌, ◌||◌}
use Rattle.std.specs.Prelude.{List, [], ◌∷◌, ◌++◌, ℕ, ◌+◌, ◌*◌, ◌/◌, ◌%◌, eqb, length, take, drop, replicate}
use Rattle.lists.specs.Same.{same}
use Rattle.bitset.specs.Set.{set_of, restricted}
use Rattle.wire.specs.declared.slot.Layout.{Layout}
use Rattle.wire.specs.declared.Round.TheVariants.{Pieces}
use Rattle.wire.specs.Length.{kind_layout}
use Rattle.wire.specs.Slot.{width, message_of, Sent, bytes, slots, to_all, copied}
use Rattle.reed_solomon.specs.Encode.{piece_of, is_ready}

unfoldable pub sent_block : Layout → (n own sender : ℕ) → List ℕ → List ℕ → List ℕ
sent_block layout n own sender block outbox = cond (eqb own sender) (to_all layout n block outbox) (replicate (length outbox) 0)

unfoldable pub received_block : List ℕ → Layout → ℕ → List ℕ → List ℕ
received_block inbox layout sender block =
    cond (eqb sender 0) block
    (cond (eqb (length (message_of inbox layout sender)) 0) (replicate (length block) 0) (copied (message_of inbox layout sender) block))

unfoldable pub two_pieces : (k t own : ℕ) → List ℕ → ℕ → Sent
two_pieces k t own block j = bytes (piece_of k t block own ++ piece_of k t block j)

unfoldable pub sent_pieces : (run n t k own : ℕ) → List ℕ → List ℕ → List ℕ
sent_pieces run n t k own block outbox =
    let layout = kind_layout run Pieces n t k in
    cond (is_ready n t k own block (eqb (length outbox) (n * width layout))) (slots layout (two_pieces k t own block) n) outbox

unfoldable pub is_marked : (k t own : ℕ) → List ℕ → Layout → List ℕ → ℕ → Bool
is_marked k t own inbox layout block j =
    eqb j own
    || (not (eqb (length (message_of inbox layout j)) 0)
    && (same (take k (message_of inbox layout j)) (piece_of k t block j) && same (drop k (message_of inbox layout j)) (piece_of k t block own)))

unfoldable pub marks_of : (n t k own : ℕ) → List ℕ → Layout → List ℕ → ℕ
marks_of n t k own inbox layout block =
    cond (is_ready n t k own block mathlib.Core.Bool.true) (set_of n (λ i. is_marked k t own inbox layout block (i + 1))) 0

unfoldable pub marks_message : ℕ → ℕ → List ℕ
marks_message n s = (restricted s n % 256) ∷ (restricted s n / 256) ∷ []

unfoldable pub sent_marks : Layout → (n s : ℕ) → List ℕ → List ℕ
sent_marks layout n s outbox = to_all layout n (marks_message n s) outbox
