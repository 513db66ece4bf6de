-- What a crate above may know of the run of a system besides the contracts and the definitions.
--   What is made and lent
--     began_is, called_is        what a controller has after its start, and after a call
--     inbox_first, inbox-later   its inbox; slot_faulty, slot_correct: slot by slot
--     cleared                    the outbox lent to a call is all zeros
--   What counts
--     inbox_ext, called_ext   a call depends on what the controller itself holds and on the outboxes of the correct ones
--     called_other            and not on the block that was given
--     played-alike            two scenarios that say the same of the numbers and rounds of the system are played alike
--   Calls, one after the other
--     played_start   before the first; played_correct, played-faulty: one more
pub use Rattle.simulation.proofs.Runs.{began_is, called_is, inbox_first, inbox-later, slot_faulty, slot_correct, cleared, inbox_ext, called_ext}
pub use Rattle.simulation.proofs.Runs.{called_other, played-alike, played_start, played_correct, played-faulty}
