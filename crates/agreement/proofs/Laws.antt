-- What a crate above may know of runs and systems besides the definitions.
--   One controller's run
--     step_number               the number of a step; carried_out_yes, carried_out_no: it is 0 exactly where the step is carried out
--     chain                     a run is its calls in order; refused_away: a refused step can be left out
--     At                        a state of the run before call c; step_at: a step that is carried out leaves one before call c + 1
--     valid_at                  its settings and own number are valid
--     finished_step             after the last call every step is refused with 8 and leaves everything
--   A correct controller in a system
--     by_index                  index x, below n, is that of a correct one
--     valid, coded, numbered    its settings and number are in range; length-block: its block has the stated length
--     call_at                   call c is made on a state whose next call is c
--     call_first, call_next, call-last   what calls are made on and leave
--     delivered                 what i sent to j in round c is what j's call c + 1 reads
--   The steps of the proof
--     held_block, is_block      the block held after call 2; sender-block: the sender's, if the sender is correct; own_block: without a sender the own
--     round_1_silent            without a sender nobody sends in round 1
--     one_matrix, row_is_marks  the vote: one matrix, with each correct controller's row as it was sent
--     one_core, enough_correct, one_block   one core; at least t + 1 of its members are correct; they hold one block
--     piece_sent                with a core each correct controller sends its piece of that block in round 3t + 8
--     common_in_core            if all held one block then, every correct controller is in the core; sender-in_core: so it is with a correct sender
--   Demand 3
--     agreement, one_plan       the theorem, and its corollary
--   Beside demand 3
--     named_by-last             whom a correct controller names; no_correct_named: no correct one; named_by-many: whoever t + 1 name is not correct
--     late_named                whoever's slot in the last round carries another run's number is named
--     held_by_many              a block that is agreed on was held by t + 1 correct controllers after call 2; held_on: and from then on
--     all_in_core               with a correct sender every correct controller is in the core, from call 3t + 7 on
pub use Rattle.agreement.proofs.Run.{step_number, carried_out_yes, carried_out_no, chain, refused_away, At, step_at, valid_at, finished_step}
pub use Rattle.agreement.proofs.System.{valid, coded, numbered, length-block, call_at, call_first, call_next, call-last, delivered}
pub use Rattle.agreement.proofs.Blocks.{held_block, is_block, sender-block, own_block, round_1_silent}
pub use Rattle.agreement.proofs.Votes.{by_index, one_matrix, row_is_marks}
pub use Rattle.agreement.proofs.Cores.{one_core, enough_correct, one_block}
pub use Rattle.agreement.proofs.Pieces.{piece_sent}
pub use Rattle.agreement.proofs.Verdict.{common_in_core, sender-in_core}
pub use Rattle.agreement.proofs.Agreement.{agreement, one_plan, named_by-last, no_correct_named, late_named, named_by-many}
pub use Rattle.agreement.proofs.Agreement.{held_by_many, held_on, all_in_core}
