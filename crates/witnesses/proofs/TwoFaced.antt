-- Four controllers, t 1, k 1. Controller 4 is faulty: in every round it sends different bytes to different controllers, and once a slot of another run
-- (document 02, U11). The steps of 1, 2 and 3 contain refused ones before, between and after the calls. Two systems: `two_faced`, in which 1 is the
-- sender and has the block 0a14, and `without_sender` (document 02, U6), in which 1, 2 and 3 are started with 0a14 and nobody hears what 4 sends in
-- round 1. `two_faced_supposed`, `without_sender_supposed`: what demand 3 supposes holds, computed; `two_faced_agreed`, `without_sender-agreed`: by
-- demand 3, agreed and 0a14; `two_faced_named`: whom 1, 2 and 3 name (document 02, U1).
--   from4_1, from4_2, from4_3   the slots that 4 sends to 1, 2 and 3, round after round
--   from1 sender                the slot that 1 sends to each in round 1, whether as the sender or not
--   steps_of slot piece from4   the steps of the controller with that piece, where slot is what 1 sends it in round 1
--   system sender               the system in which 1 is the sender, and the one without
use mathlib.Core.Path.{◌≡◌, refl, ap, ◌∙◌}
use mathlib.Core.Bool.{Bool, true, false, cond, not, ◌&&◌, ◌||◌}
use mathlib.Core.List.{List, [], ◌∷◌, ◌++◌}
use Prim.Native.Nat.{ℕ, ◌-◌}
use lib.Dec.{T, eqb, lit≤, lit<}
use lib.ListN.{get_or}
use Rattle.lists.specs.Join.{joined, part}
use Rattle.lists.specs.Fill.{tabulate, filled}
use Rattle.lists.specs.Sum.{sum, count}
use Rattle.lists.specs.Same.{same}
use Rattle.lists.proofs.Tests.{or_right}
use Rattle.gf256.specs.Field.{gadd, gmul, gpow, poly_mul, reduce}
use Rattle.bitset.specs.Set.{member, set_of, size_of, restricted, first}
use Rattle.bitset.specs.Row.{word_at, row_of, row_byte, rows_of}
use Rattle.settings.specs.Refusal.{outside, too_many, broken, refusal_of, state_refusal, encoding_refusal, lengths_refusal, star_refusal}
use Rattle.wire.specs.Length.{block_length, row_length, in_settings, kind_length, box_length, inbox_length, outbox_length}
use Rattle.wire.specs.Round.{round_kind, call_kind, phase_of}
use Rattle.wire.specs.Slot.{layout_with, width, slot_of, holds, run_in, is_present, message_of, written, slots, copied}
use Rattle.polynomial.specs.Polynomial.{Bytes, gsum, evaluate}
use Rattle.reed_solomon.specs.Encode.{stripe, piece_of, is_ready}
use Rattle.reed_solomon.specs.Decode.{is_named, named_of}
use Rattle.dispersal.specs.Dispersal.{sent_block, received_block, two_pieces, sent_pieces, is_marked, marks_of, marks_message, sent_marks}
use Rattle.phase_king.specs.Bit.{zero_seen, one_seen, held, support, weak, settled}
use Rattle.phase_king.specs.Matrix.{matrix_of, said, king_says, first_matrix, zeros_of, ones_of, held_of, weak_of, settled_of, seen_message, sent_by_king}
use Rattle.graph.specs.Neighbour.{neighbour}
use Rattle.matching.specs.Matching.{matched}
use Rattle.matching.specs.First.{first_found, of_size, up_to, matching_of}
use Rattle.star.specs.Star.{struck, set_C, lacks, set_D, at_least, set_F, set_e, sets_from, no_sets, is_large, star_from, refusal_for, star_of}
use Rattle.reconstruction.specs.Reconstruction.{in_core, forwarded, votes, is_chosen, chosen_piece, own_piece, sent_piece, shared}
use Rattle.protocol.specs.Calls.{call_of}
use Rattle.protocol.specs.Step.{start_refusal, start_of, lengths_fit, step_refusal, step_of}
use Rattle.agreement.specs.Agreement.{System, Correct, Supposed, StartedAlike, Concluded, Holds, at_start, last_inbox}
use Rattle.agreement.specs.Named.{named_by}
use Rattle.agreement.proofs.Laws.{agreement, named_by-last}
use Rattle.witnesses.proofs.Test.{each, Meets, meets_supposed, answers, Step, small, small_bytes, smalls, lents, run_number, present, late, absent}
use Rattle.witnesses.proofs.Test.{rows, box}

abbrev zeros : List ℕ
zeros = rows 0 0 0 0

abbrev ones : List ℕ
ones = rows 0x0f 0x0f 0x0f 0x0f

from4_1 : List (List ℕ)
from4_1 =
    present (0x01 ∷ 0x02 ∷ [])
    ∷ (0x00 ∷ 0x02 ∷ 0x01 ∷ 0x5a ∷ 0x1e ∷ [])  -- the true pieces, but absent
    ∷ present (0x0f ∷ 0xff ∷ [])
    ∷ present ones
    ∷ present (ones ++ ones)
    ∷ present ones
    ∷ present zeros
    ∷ absent 16
    ∷ present ones
    ∷ present (0x09 ∷ [])
    ∷ late (0x5a ∷ [])  -- the true piece, but of another run, so absent
    ∷ []

from4_2 : List (List ℕ)
from4_2 =
    present (0x07 ∷ 0x08 ∷ [])
    ∷ present (0x5a ∷ 0x22 ∷ [])  -- the true pieces
    ∷ present (0x00 ∷ 0x00 ∷ [])
    ∷ present zeros
    ∷ present (ones ++ zeros)
    ∷ present zeros
    ∷ present ones
    ∷ present (zeros ++ ones)
    ∷ present zeros
    ∷ absent 1
    ∷ present (0x5a ∷ [])
    ∷ []

from4_3 : List (List ℕ)
from4_3 =
    absent 2
    ∷ present (0x5a ∷ 0x37 ∷ [])  -- a false piece
    ∷ (0x02 ∷ 0x02 ∷ 0x01 ∷ 0x0f ∷ 0x00 ∷ [])  -- neither 01 nor 00, so absent
    ∷ present (rows 0x07 0x0f 0x07 0x09)
    ∷ present (zeros ++ ones)
    ∷ absent 8
    ∷ absent 8
    ∷ present (ones ++ zeros)
    ∷ present (rows 0x08 0x08 0x08 0x08)
    ∷ present (0x0a ∷ [])
    ∷ present (0x00 ∷ [])
    ∷ []

steps_of : List ℕ → ℕ → List (List ℕ) → List Step
steps_of slot piece from4 =
    let x : ℕ → List ℕ = λ c. get_or from4 (c - 1) [] in
    let p : List ℕ = present (piece ∷ []) in
    let m : List ℕ = present (rows 0x07 0x0f 0x07 0x00) in
    let s : List ℕ = present (rows 0x08 0x00 0x08 0x0f ++ rows 0x07 0x0f 0x07 0x00) in
    (0x07 ∷ [], 20)  -- refused with 6: call 1 has an inbox of length 0
    ∷ ([], 20)
    ∷ (box slot (absent 2) (absent 2) (x 1), 20)
    ∷ (box (present (0x1e ∷ piece ∷ [])) (present (0x22 ∷ piece ∷ [])) (present (0x36 ∷ piece ∷ [])) (x 2), 20)
    ∷ (box (present (0x07 ∷ 0x00 ∷ [])) (present (0x0f ∷ 0x00 ∷ [])) (present (0x07 ∷ 0x00 ∷ [])) (x 3), 44)
    ∷ (box (present (rows 0x07 0x0f 0x07 0x0f)) m m (x 4), 75)  -- refused with 6: the outbox is too short
    ∷ (box (present (rows 0x07 0x0f 0x07 0x0f)) m m (x 4), 76)
    ∷ (absent 8, 44)  -- refused with 6: the inbox is one slot only
    ∷ (box (present (rows 0x08 0x00 0x08 0x00 ++ rows 0x07 0x0f 0x07 0x00)) s (present (rows 0x08 0x00 0x08 0x06 ++ rows 0x07 0x0f 0x07 0x00)) (x 5), 44)
    ∷ (box m (absent 8) (absent 8) (x 6), 44)
    ∷ (box m m m (x 7), 76)
    ∷ (box s s s (x 8), 44)
    ∷ (box (absent 8) m (absent 8) (x 9), 16)
    ∷ (box p p p (x 10), 16)
    ∷ (box (present (0x1e ∷ [])) (present (0x22 ∷ [])) (present (0x36 ∷ [])) (x 11), 0)
    ∷ ([], 20)  -- refused with 8: the run is finished
    ∷ []

abbrev from1 : Bool → List ℕ
from1 true = present (0x0a ∷ 0x14 ∷ [])
from1 false = absent 2

small_1 : (sender : Bool) → T (smalls (steps_of (from1 sender) 0x1e from4_1))
unfolding smalls small steps_of from4_1
small_1 true = tt
small_1 false = tt

small_2 : (sender : Bool) → T (smalls (steps_of (from1 sender) 0x22 from4_2))
unfolding smalls small steps_of from4_2
small_2 true = tt
small_2 false = tt

small_3 : (sender : Bool) → T (smalls (steps_of (from1 sender) 0x36 from4_3))
unfolding smalls small steps_of from4_3
small_3 true = tt
small_3 false = tt

abbrev block_for : Bool → List ℕ
block_for true = 0x0a ∷ 0x14 ∷ []
block_for false = 0x00 ∷ 0x00 ∷ []

blocks_bytes : (b : Bool) → Bytes (block_for b)
unfolding small
blocks_bytes true = small_bytes (0x0a ∷ 0x14 ∷ []) tt
blocks_bytes false = small_bytes (0x00 ∷ 0x00 ∷ []) tt

pub system : Bool → System
system sender = record {
  settings = record { n = 4; t = 1; k = 1; sender = cond sender 1 0 };
  run = run_number;
  run_most = lit< tt;
  correct = λ i. not (eqb i 4);
  block = λ i. block_for (eqb i 1 || not sender);
  block-bytes = λ i. blocks_bytes (eqb i 1 || not sender);
  steps = λ i.
      cond (eqb i 1) (lents (steps_of (from1 sender) 0x1e from4_1) (small_1 sender))
      (cond (eqb i 2) (lents (steps_of (from1 sender) 0x22 from4_2) (small_2 sender))
      (lents (steps_of (from1 sender) 0x36 from4_3) (small_3 sender)));
}

abbrev pub two_faced : System
two_faced = system true

abbrev pub without_sender : System
without_sender = system false

meets : (sender : Bool) → Meets (system sender)
unfolding system steps_of from4_1 from4_2 from4_3 lents tabulate filled sum count same gadd gmul gpow poly_mul reduce member set_of
    size_of restricted first word_at row_of row_byte rows_of outside too_many broken refusal_of state_refusal lengths_refusal star_refusal encoding_refusal block_length
    row_length in_settings kind_length
    box_length inbox_length outbox_length round_kind call_kind phase_of width slot_of part holds run_in is_present message_of written slots joined copied gsum evaluate
    stripe piece_of is_ready sent_block received_block two_pieces sent_pieces is_marked marks_of marks_message sent_marks zero_seen one_seen held support
    weak settled matrix_of said king_says first_matrix zeros_of ones_of held_of weak_of settled_of seen_message sent_by_king neighbour matched first_found of_size
    up_to matching_of struck set_C lacks set_D at_least set_F set_e sets_from no_sets is_large star_from refusal_for star_of in_core
    forwarded votes is_chosen chosen_piece own_piece sent_piece shared call_of start_refusal start_of lengths_fit step_refusal step_of
meets true = record { tolerance = tt; few = tt; started = tt; finished = tt; arrives = tt }
meets false = record { tolerance = tt; few = tt; started = tt; finished = tt; arrives = tt }

-- what the steps of a correct controller return
two_faced_answers :
    T (each 3 (λ i. same (answers (at_start two_faced i) (two_faced.steps i)) (6 ∷ 0 ∷ 0 ∷ 0 ∷ 0 ∷ 6 ∷ 0 ∷ 6 ∷ 0 ∷ 0 ∷ 0 ∷ 0 ∷ 0 ∷ 0 ∷ 0 ∷ 8 ∷ [])))
unfolding system steps_of from4_1 from4_2 from4_3 lents answers same outside too_many broken refusal_of state_refusal lengths_refusal star_refusal
    encoding_refusal block_length row_length in_settings
    kind_length box_length inbox_length outbox_length round_kind call_kind width slot_of part holds run_in is_present message_of received_block copied call_of
    start_refusal start_of lengths_fit step_refusal step_of
two_faced_answers = tt

-- in round 1, 4 sends a block to 1 and to 2
two_faced_speaks : T (is_present (layout_with run_number 2) (get_or from4_1 0 []) && is_present (layout_with run_number 2) (get_or from4_2 0 []))
unfolding from4_1 from4_2 run_in is_present
two_faced_speaks = tt

-- in each round, what 4 sends to 2 differs from what it sends to 3
two_faced_differs : T (each 11 (λ c. not (same (get_or from4_2 (c - 1) []) (get_or from4_3 (c - 1) []))))
unfolding from4_2 from4_3 same
two_faced_differs = tt

pub two_faced_supposed : Supposed two_faced
two_faced_supposed = meets_supposed two_faced (meets true)

pub without_sender_supposed : Supposed without_sender
without_sender_supposed = meets_supposed without_sender (meets false)

pub two_faced_agreed : Holds two_faced 2 (0x0a ∷ 0x14 ∷ []) × Holds two_faced 3 (0x0a ∷ 0x14 ∷ [])
unfolding system
two_faced_agreed =
    let C : Concluded two_faced = agreement two_faced two_faced_supposed in
    let c1 : Correct two_faced 1 = record { least = lit≤ tt; most = lit≤ tt; is = refl } in
    let c2 : Correct two_faced 2 = record { least = lit≤ tt; most = lit≤ tt; is = refl } in
    let c3 : Correct two_faced 3 = record { least = lit≤ tt; most = lit≤ tt; is = refl } in
    ((C.sender-outcome 2 c1 c2, C.sender-block 2 c1 c2), (C.sender-outcome 3 c1 c3, C.sender-block 3 c1 c3))

pub without_sender-agreed : (i : ℕ) → Correct without_sender i → Holds without_sender i (0x0a ∷ 0x14 ∷ [])
unfolding system
without_sender-agreed i f =
    let C : Concluded without_sender = agreement without_sender without_sender_supposed in
    let a : StartedAlike without_sender (0x0a ∷ 0x14 ∷ []) = record { no_sender = refl; alike = λ j _. ap block_for (or_right (eqb j 1) true refl) } in
    (C.alike-outcome i (0x0a ∷ 0x14 ∷ []) a f, C.alike-block i (0x0a ∷ 0x14 ∷ []) a f)

-- in the last round 4 sent its true piece to 2, one of another run to 1 and a false one to 3: these name it (the bit worth 8), and 2 names nobody
module _ (i : ℕ) (f : Correct two_faced i) (marks : ℕ) (said : named_of 4 1 (layout_with run_number 1) (last_inbox two_faced i) (0x0a ∷ 0x14 ∷ []) ≡ marks) where
  names : named_by two_faced i ≡ marks
  unfolding system
  names =
      let C : Concluded two_faced = agreement two_faced two_faced_supposed in
      let c1 : Correct two_faced 1 = record { least = lit≤ tt; most = lit≤ tt; is = refl } in
      (named_by-last two_faced two_faced_supposed i f).agreed (C.sender-outcome i c1 f)
      ∙ ap (named_of 4 1 (layout_with run_number 1) (last_inbox two_faced i)) (C.sender-block i c1 f)
      ∙ said

pub two_faced_named : (named_by two_faced 1 ≡ 8) × ((named_by two_faced 2 ≡ 0) × (named_by two_faced 3 ≡ 8))
unfolding system steps_of from4_1 from4_2 from4_3 lents tabulate filled sum same gadd gmul gpow poly_mul reduce set_of outside too_many broken refusal_of
    state_refusal lengths_refusal star_refusal encoding_refusal block_length row_length in_settings kind_length box_length inbox_length outbox_length round_kind
    call_kind width slot_of part holds run_in is_present message_of copied received_block gsum evaluate stripe piece_of is_named named_of call_of start_refusal start_of
    lengths_fit step_refusal step_of
two_faced_named = (
  names 1 (record { least = lit≤ tt; most = lit≤ tt; is = refl }) 8 refl,
  (
    names 2 (record { least = lit≤ tt; most = lit≤ tt; is = refl }) 0 refl,
    names 3 (record { least = lit≤ tt; most = lit≤ tt; is = refl }) 8 refl,
  ),
)
