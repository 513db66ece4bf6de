-- Calls 3t + 7 to 3t + 9 (document 01, 'Rounds'; document 02, U1): core members give everyone its piece, everyone sends its piece, the block is decoded.
-- Controllers are numbered from 1; own is the caller's own number; index i of the set core is controller i + 1. The functions are total:
-- outside the settings, or with a block or an outbox of another length, nothing is written.
--   in_core core j                           controller j is in the core
--   forwarded run n t k own core b o         call 3t + 7: a core member sends to j piece j of its own coding, in slots of the run `run`; others are silent
--   votes n core inbox layout m              how many core members sent the piece m, whole pieces compared
--   is_chosen n t core inbox layout i        the controller of index i is a member, its slot is present, and at least t + 1 members sent its piece
--   chosen_piece n t core inbox layout       call 3t + 8, outside the core: the piece that at least t + 1 members sent; of several, that of the
--                                            lowest-numbered member; with none the empty list
--   own_piece n t k own core inbox layout b  call 3t + 8: a member's piece is its own
--   sent_piece layout n m o                  the piece to all; silence where there is none
--   shared n t k own core inbox layout b o   call 3t + 8, in slots of the inbox's run
--   ending w m                               the outcome w, and the marks m of those who are named
--   Finished, finish e b                     what the last call sets: the outcome and the marks, and the block
--   finished_by n t layout inbox len r       agreed, the block of r and the marks of the slots of the inbox that do not hold their piece of it; where r is
--                                            none beyond, no marks and len zeros
--   finished n t layout core inbox b         the last call: no core: none and zeros; else agreed and the block that meets decoding's rule, or beyond and
--                                            zeros where none does; where decoding is refused, open and the block as it was (never in a run). Nobody
--                                            is named but with agreed
--   FinishedAgreed, FinishedBeyond           the same, by decoding's rule (laws `finished-agreed`, `finished-beyond`)
use Rattle.std.specs.Prelude.{◌≡◌, Bool, cond, not, ◌&&◌, List, [], ℕ, ◌+◌, ◌-◌, ◌*◌, eqb, leb, ltb, length, replicate}
use Rattle.std.proofs.Math.Option.{Option, none, some}
use Rattle.lists.specs.Sum.{count}
use Rattle.lists.specs.Same.{same}
use Rattle.bitset.specs.Set.{member, restricted, first}
use Rattle.wire.specs.declared.slot.Layout.{Layout}
use Rattle.wire.specs.declared.Round.TheVariants.{Forward, Rebuild}
use Rattle.wire.specs.Length.{kind_layout}
use Rattle.wire.specs.Slot.{width, message_of, bytes, slots, to_all}
use Rattle.reed_solomon.specs.Encode.{piece_of, is_ready}
use Rattle.reed_solomon.specs.Decode.{Decodes, named_of, decode_refusal}
use Rattle.reed_solomon.specs.First.{rebuilt}
use Rattle.reconstruction.specs.declared.Outcome.{Outcome}
use Rattle.reconstruction.specs.declared.Ending.{Ending}
use Rattle.reconstruction.specs.declared.Outcome.TheVariants.{Open, Agreed, None, Beyond}

unfoldable pub in_core : ℕ → ℕ → Bool
in_core core j = not (eqb j 0) && member core (j - 1)

unfoldable pub forwarded : (run n t k own core : ℕ) → List ℕ → List ℕ → List ℕ
forwarded run n t k own core block outbox =
    let layout = kind_layout run Forward n t k in
    cond (in_core core own)
    (cond (is_ready n t k own block (eqb (length outbox) (n * width layout))) (slots layout (λ j. bytes (piece_of k t block j)) n) outbox)
    (replicate (length outbox) 0)

unfoldable pub votes : (n core : ℕ) → List ℕ → Layout → List ℕ → ℕ
votes n core inbox layout m = count n (λ i. member core i && same (message_of inbox layout (i + 1)) m)

unfoldable pub is_chosen : (n t core : ℕ) → List ℕ → Layout → ℕ → Bool
is_chosen n t core inbox layout i =
    member core i
    && (not (eqb (length (message_of inbox layout (i + 1))) 0) && leb (t + 1) (votes n core inbox layout (message_of inbox layout (i + 1))))

unfoldable pub chosen_piece : (n t core : ℕ) → List ℕ → Layout → List ℕ
chosen_piece n t core inbox layout =
    cond (ltb (first n (is_chosen n t core inbox layout)) n) (message_of inbox layout (first n (is_chosen n t core inbox layout) + 1)) []

unfoldable pub own_piece : (n t k own core : ℕ) → List ℕ → Layout → List ℕ → List ℕ
own_piece n t k own core inbox layout block = cond (in_core core own) (piece_of k t block own) (chosen_piece n t core inbox layout)

unfoldable pub sent_piece : Layout → ℕ → List ℕ → List ℕ → List ℕ
sent_piece layout n m outbox = cond (eqb (length m) 0) (replicate (length outbox) 0) (to_all layout n m outbox)

unfoldable pub shared : (n t k own core : ℕ) → List ℕ → Layout → List ℕ → List ℕ → List ℕ
shared n t k own core inbox layout block outbox =
    let out = kind_layout layout.run Rebuild n t k in
    cond (is_ready n t k own block (eqb (length outbox) (n * width out))) (sent_piece out n (own_piece n t k own core inbox layout block) outbox) outbox

abbrev pub ending : Outcome → ℕ → Ending
ending w m = record { outcome = w; named = m }

pub record Finished : Type 0 where
  pub ending : Ending
  pub block : List ℕ

abbrev pub finish : Ending → List ℕ → Finished
finish e b = record { ending = e; block = b }

abbrev pub finished_by : (n t : ℕ) → Layout → List ℕ → ℕ → Option (List ℕ) → Finished
finished_by n t layout inbox len (some B) = finish (ending Agreed (named_of n t layout inbox B)) B
finished_by n t layout inbox len none = finish (ending Beyond 0) (replicate len 0)

unfoldable pub finished : (n t : ℕ) → Layout → ℕ → List ℕ → List ℕ → Finished
finished n t layout core inbox block =
    cond (eqb (restricted core n) 0)
    (finish (ending None 0) (replicate (length block) 0))
    (cond (eqb (decode_refusal n t layout inbox block) 0)
    (finished_by n t layout inbox (length block) (rebuilt n t layout inbox))
    (finish (ending Open 0) block))

abbrev pub FinishedAgreed : Type 0
FinishedAgreed =
    (n t : ℕ) (layout : Layout) (core : ℕ) (inbox b : List ℕ) → (restricted core n ≡ 0 → ⊥) → decode_refusal n t layout inbox b ≡ 0
    → (B : List ℕ) → Decodes n t layout inbox B → finished n t layout core inbox b ≡ finish (ending Agreed (named_of n t layout inbox B)) B

abbrev pub FinishedBeyond : Type 0
FinishedBeyond =
    (n t : ℕ) (layout : Layout) (core : ℕ) (inbox b : List ℕ) → (restricted core n ≡ 0 → ⊥) → decode_refusal n t layout inbox b ≡ 0
    → ((B : List ℕ) → Decodes n t layout inbox B → ⊥) → finished n t layout core inbox b ≡ finish (ending Beyond 0) (replicate (length b) 0)
