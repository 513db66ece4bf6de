-- The system of document 01, 'The house program': four controllers, t 1, k 1, block 0a14, and a faulty sender, 1, that sends the lines of
-- the example and nothing else. `faulty-sender_supposed`: what demand 3 supposes holds; `faulty-sender-agreed`: 2, 3 and 4 end with agreed
-- and 0a14, as document 01 prints; `faulty-sender_core`, `faulty-sender_held`: who is in the core, and how many held 0a14 (document 02, U14). They
-- are computed: of the second the core and the counts of decoding's rule for 0a14, from which `agreement` gives the rest.
--   steps_of piece block pieces other   the steps of the controller with that piece of 0a14, to which 1 sends the slot `block` in round 1 and
--                                       `pieces` in round 2; other is its piece of 0b14, which 4 received
use mathlib.Core.Path.{◌≡◌, refl, ap}
use mathlib.Core.Bool.{cond, not}
use mathlib.Core.List.{List, [], ◌∷◌, ◌++◌}
use Prim.Native.Nat.{ℕ}
use native.Mathlib.Omega.{arith}
use lib.Dec.{T, eqb, eqb→eq, lit<}
use Rattle.lists.specs.Join.{joined, part}
use Rattle.lists.specs.Fill.{tabulate, filled}
use Rattle.lists.specs.Sum.{sum, count}
use Rattle.lists.specs.Same.{same}
use Rattle.gf256.specs.Field.{gadd, gmul, gpow, poly_mul, reduce}
use Rattle.bitset.specs.Set.{member, set_of, size_of, restricted, first}
use Rattle.bitset.specs.Row.{word_at, row_of, row_byte, rows_of}
use Rattle.settings.specs.Refusal.{outside, too_many, broken, refusal_of, state_refusal, encoding_refusal, decoding_refusal, lengths_refusal, star_refusal}
use Rattle.wire.specs.Length.{block_length, row_length, in_settings, kind_length, box_length, inbox_length, outbox_length}
use Rattle.wire.specs.Round.{round_kind, call_kind, phase_of}
use Rattle.wire.specs.Slot.{layout_with, width, slot_of, holds, run_in, is_present, message_of, written, slots, copied}
use Rattle.polynomial.specs.Polynomial.{Bytes, gsum, evaluate}
use Rattle.reed_solomon.specs.Encode.{stripe, piece_of, is_ready}
use Rattle.reed_solomon.specs.Decode.{has_piece, received, present_count, differing}
use Rattle.reed_solomon.specs.First.{meets}
use Rattle.reed_solomon.proofs.Laws.{meets-decodes}
use Rattle.dispersal.specs.Dispersal.{sent_block, received_block, two_pieces, sent_pieces, is_marked, marks_of, marks_message, sent_marks}
use Rattle.phase_king.specs.Bit.{zero_seen, one_seen, held, support, weak, settled}
use Rattle.phase_king.specs.Matrix.{matrix_of, said, king_says, first_matrix, zeros_of, ones_of, held_of, weak_of, settled_of, seen_message, sent_by_king}
use Rattle.graph.specs.Neighbour.{neighbour}
use Rattle.matching.specs.Matching.{matched}
use Rattle.matching.specs.First.{first_found, of_size, up_to, matching_of}
use Rattle.star.specs.Star.{struck, set_C, lacks, set_D, at_least, set_F, set_e, sets_from, no_sets, is_large, star_from, refusal_for, star_of}
use Rattle.reconstruction.specs.Reconstruction.{in_core, forwarded, votes, is_chosen, chosen_piece, own_piece, sent_piece, shared}
use Rattle.protocol.specs.Calls.{call_of}
use Rattle.protocol.specs.Step.{start_refusal, start_of, lengths_fit, step_refusal, step_of}
use Rattle.agreement.specs.Agreement.{System, Correct, Supposed, last_core, last_inbox, Holds}
use Rattle.agreement.specs.Held.{holders}
use Rattle.agreement.proofs.Laws.{agreement}
use Rattle.witnesses.proofs.Test.{given, each, passed, at_correct, Meets, meets_supposed}
use Rattle.witnesses.proofs.Test.{Step, small, small_bytes, smalls, lents, run_number, present, absent, rows, box}

steps_of : ℕ → List ℕ → List ℕ → ℕ → List Step
steps_of piece block pieces other =
    let p : List ℕ = present (piece ∷ []) in
    let m : List ℕ = present (rows 0x07 0x07 0x07 0x08) in
    let s : List ℕ = present (rows 0x08 0x08 0x08 0x07 ++ rows 0x07 0x07 0x07 0x08) in
    ([], 20)
    ∷ (box block (absent 2) (absent 2) (absent 2), 20)
    ∷ (box pieces (present (0x22 ∷ piece ∷ [])) (present (0x36 ∷ piece ∷ [])) (present (0x5b ∷ other ∷ [])), 20)
    ∷ (box (present (0x07 ∷ 0x00 ∷ [])) (present (0x07 ∷ 0x00 ∷ [])) (present (0x07 ∷ 0x00 ∷ [])) (present (0x08 ∷ 0x00 ∷ [])), 44)
    ∷ (box (absent 8) m m m, 76)
    ∷ (box (absent 16) s s s, 44)
    ∷ (box (absent 8) (absent 8) (absent 8) (absent 8), 44)
    ∷ (box (absent 8) m m m, 76)
    ∷ (box (absent 16) s s s, 44)
    ∷ (box (absent 8) m (absent 8) (absent 8), 16)
    ∷ (box (absent 1) p p (absent 1), 16)
    ∷ (box (absent 1) (present (0x22 ∷ [])) (present (0x36 ∷ [])) (present (0x5a ∷ [])), 0)
    ∷ []

small_2 : T (smalls (steps_of 0x22 (present (0x0a ∷ 0x14 ∷ [])) (present (0x1e ∷ 0x22 ∷ [])) 0x23))
unfolding smalls small steps_of
small_2 = tt

small_3 : T (smalls (steps_of 0x36 (present (0x0a ∷ 0x14 ∷ [])) (present (0x1e ∷ 0x36 ∷ [])) 0x37))
unfolding smalls small steps_of
small_3 = tt

small_4 : T (smalls (steps_of 0x5a (present (0x0b ∷ 0x14 ∷ [])) (absent 2) 0x5b))
unfolding smalls small steps_of
small_4 = tt

zero-bytes : Bytes (0x00 ∷ 0x00 ∷ [])
unfolding small
zero-bytes = small_bytes (0x00 ∷ 0x00 ∷ []) tt

pub faulty-sender : System
faulty-sender = record {
  settings = record { n = 4; t = 1; k = 1; sender = 1 };
  run = run_number;
  run_most = lit< tt;
  correct = λ i. not (eqb i 1);
  block = λ _. 0x00 ∷ 0x00 ∷ [];
  block-bytes = λ _. zero-bytes;
  steps = λ i.
      cond (eqb i 2) (lents (steps_of 0x22 (present (0x0a ∷ 0x14 ∷ [])) (present (0x1e ∷ 0x22 ∷ [])) 0x23) small_2)
      (cond (eqb i 3) (lents (steps_of 0x36 (present (0x0a ∷ 0x14 ∷ [])) (present (0x1e ∷ 0x36 ∷ [])) 0x37) small_3)
      (lents (steps_of 0x5a (present (0x0b ∷ 0x14 ∷ [])) (absent 2) 0x5b) small_4));
}

-- what is computed. Each correct controller has the core 1, 2 and 3, and what it is lent to the last call meets decoding's rule for 0a14
record Computed : Type 0 where
  supposed : Meets faulty-sender
  core : T (each 4 (λ i. given (faulty-sender.correct i) (eqb (last_core faulty-sender i) 7)))
  rule : T (each 4 (λ i. given (faulty-sender.correct i) (meets 4 1 (layout_with run_number 1) (last_inbox faulty-sender i) (0x0a ∷ 0x14 ∷ []))))
  none_held : holders faulty-sender 1 (0x0a ∷ 0x14 ∷ []) ≡ 0
  two_held : holders faulty-sender 2 (0x0a ∷ 0x14 ∷ []) ≡ 2

computed : Computed
unfolding faulty-sender steps_of lents tabulate filled sum count same gadd gmul gpow poly_mul reduce member set_of size_of restricted first word_at row_of
    row_byte rows_of outside too_many broken refusal_of state_refusal lengths_refusal star_refusal encoding_refusal block_length row_length in_settings
    kind_length box_length inbox_length outbox_length round_kind call_kind phase_of width slot_of part holds run_in is_present message_of written slots joined copied
    gsum evaluate stripe piece_of is_ready sent_block received_block two_pieces sent_pieces is_marked marks_of marks_message sent_marks zero_seen one_seen held
    support weak settled matrix_of said king_says first_matrix zeros_of ones_of held_of weak_of settled_of seen_message sent_by_king neighbour matched
    first_found of_size up_to matching_of struck set_C lacks set_D at_least set_F set_e sets_from no_sets is_large star_from refusal_for star_of in_core forwarded
    votes is_chosen chosen_piece own_piece sent_piece shared call_of start_refusal start_of lengths_fit step_refusal step_of decoding_refusal has_piece received
    present_count differing meets
computed = record {
  supposed = record { tolerance = tt; few = tt; started = tt; finished = tt; arrives = tt };
  core = tt;
  rule = tt;
  none_held = refl;
  two_held = refl;
}

pub faulty-sender_supposed : Supposed faulty-sender
faulty-sender_supposed = meets_supposed faulty-sender computed.supposed

block-bytes : Bytes (0x0a ∷ 0x14 ∷ [])
unfolding small
block-bytes = small_bytes (0x0a ∷ 0x14 ∷ []) tt

-- 4, to which the sender sent another block, is correct and not in the core: `all_in_core` needs a correct sender
pub faulty-sender_core : (i : ℕ) → Correct faulty-sender i → last_core faulty-sender i ≡ 7
unfolding faulty-sender
faulty-sender_core i f = eqb→eq (last_core faulty-sender i) 7 (at_correct faulty-sender (λ i. eqb (last_core faulty-sender i) 7) computed.core i f)

pub faulty-sender-agreed : (i : ℕ) → Correct faulty-sender i → Holds faulty-sender i (0x0a ∷ 0x14 ∷ [])
unfolding faulty-sender block_length restricted member set_of sum
faulty-sender-agreed i f =
    let some : restricted (last_core faulty-sender i) 4 ≡ 7 = ap (λ (x : ℕ). restricted x 4) (faulty-sender_core i f) in
    ((agreement faulty-sender faulty-sender_supposed).set i f).agreed (λ z. omega (arith, z, some)) (0x0a ∷ 0x14 ∷ [])
    (meets-decodes 4 1 (layout_with run_number 1) (last_inbox faulty-sender i) (0x0a ∷ 0x14 ∷ []) refl block-bytes
    (passed (meets 4 1 (layout_with run_number 1) (last_inbox faulty-sender i) (0x0a ∷ 0x14 ∷ []))
    (at_correct faulty-sender (λ i. meets 4 1 (layout_with run_number 1) (last_inbox faulty-sender i) (0x0a ∷ 0x14 ∷ [])) computed.rule i f)))

-- after call 2 two correct controllers held 0a14, t + 1 and no more, and after call 1 none: `held_by_many` is true of no larger number, and of no
-- earlier call
pub faulty-sender_held : (holders faulty-sender 2 (0x0a ∷ 0x14 ∷ []) ≡ 2) × (holders faulty-sender 1 (0x0a ∷ 0x14 ∷ []) ≡ 0)
faulty-sender_held = (computed.two_held, computed.none_held)
