-- What a crate above may know of start, step and the calls besides the contracts and the definitions.
--   The answer
--     one_answered                 the number and the state that the definitions speak of determine the answer of the code
--   Start
--     start_number                 the number is that of the refusal
--     start_0, start_state         number 0: settings and own number are valid, the block has its length, and the state is the fresh one
--     start_found, start_refused   the answer, by the number that was found; start_by_size: the number by the block's stated length
--   Step
--     step_number_lem              the number is that of the refusal
--     step_refused, step_carried   a refused step hands everything back; one that is carried out does its call
--     step_0, 0_step               number 0 exactly where no row of the table names the step
--     8_step                       8 for a finished run
--     7_settings, 7_next           7 for settings or an own number that are refused, or a next call that is none
--     settings-valid               where the settings are not refused they are valid
--     lengths_decide               where neither 7 nor 8 is met the lent lengths decide; fits-not-block, fits-not-inbox, fits-outbox: whether they fit
--   Calls
--     of_send .. of_outside    what the call of each kind is
--     start_run, step_run      start takes the run number that is given, or 0, and every step keeps it
--     Keeps, call_keeps        a call keeps the settings, the own number and the run number, and counts on
--     call_inside              a step that is carried out is a call of the run
--     call-block, block-call   only call 2 and the last call write the block
--   Late messages
--     step_same   inboxes with one message in each slot give one answer; late_silent: so a slot of another run is silence to every step
pub use Rattle.protocol.proofs.Calls.{start_number, start_0, start_state, start_found, start_refused, start_by_size, step_number_lem, step_refused}
pub use Rattle.protocol.proofs.Calls.{step_carried, step_0, 0_step, 8_step, 7_settings, 7_next, settings-valid, lengths_decide, fits-not-block}
pub use Rattle.protocol.proofs.Calls.{fits-not-inbox, fits-outbox, of_send, of_receive, of_compare, of_collect, of_tally, of_hold, of_settle, of_core}
pub use Rattle.protocol.proofs.Calls.{of_choose, of_finish, of_outside, Keeps, call_keeps, call_inside, call-block, block-call}
pub use Rattle.protocol.proofs.Calls.{start_run, step_run, one_answered}
pub use Rattle.protocol.proofs.Late.{step_same, late_silent}
