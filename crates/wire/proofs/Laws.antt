-- What a crate above may know of rounds, lengths and slots besides the contracts and the definitions.
--   Kinds
--     round-block .. round_rebuild   of which kind a numbered round is
--     call_send .. call-finish       of which kind a numbered call is; Fact, call_fact: which number a kind of call has
--     phase_king                     the phase of a king's round
--   Lengths within the settings
--     row_block .. row_outside            the length column of the table, row by row
--     kind_length_is, message_length_is   the length of a message is that of its row; length_pos: in a run it is not 0
--     block_length_is, block_size_is      the length of a block
--     inbox_is, outbox_is                 n slots; first_inbox, last-outbox: but for these
--   What was sent and what is read
--     Sized, sized_silence, sized_bytes   what fills a slot of a layout; content: what is read of it
--     arrived                             a slot that arrived as it was sent is read as what was sent; read_back: so is slot j of what was written
--     length-message, message_all         a message has the layout's length; what holds of every byte of the inbox holds of its bytes
--     other_run_absent                    a slot that carries another run's number has no message; late_absent: whatever round it was written for
--     length-silenced, silenced_reads     a slot without a message can be made silent: the length stays, and every slot reads as it did
--   Slots as lists
--     width_le, slot_is, length_slot      a slot is a part of the box
--     length-slots, written_each, slots_each   the slots of an outbox; what holds of each byte of the messages holds of theirs
--     to_all_lem                          a message to all; slots_start, put_next_slot, length_rest, slots_all: slots written one after the other
--     silent_slot, put_into, relay_into   a slot written into a cleared box
--     copied_all, length-copied           bytes copied to the front of others
pub use Rattle.wire.proofs.RoundKinds.{round-block, round_pieces, round_marks, round_matrix, round_seen, round_king, round_forward, round_rebuild}
pub use Rattle.wire.proofs.RoundKinds.{call_send, call_receive, call_compare, call_collect, call_tally, call_hold, call_settle, call_core, call_choose}
pub use Rattle.wire.proofs.RoundKinds.{call-finish, Fact, call_fact, phase_king}
pub use Rattle.wire.proofs.Lengths.{row_block, row_pieces, row_marks, row_matrix, row_seen, row_king, row_forward, row_rebuild, row_outside}
pub use Rattle.wire.proofs.Lengths.{kind_length_is, message_length_is, length_pos, block_length_is, block_size_is, inbox_is, outbox_is, first_inbox}
pub use Rattle.wire.proofs.Lengths.{last-outbox}
pub use Rattle.wire.proofs.Slots.{Sized, sized_silence, sized_bytes, content, arrived, read_back, length-message, message_all, width_le, slot_is}
pub use Rattle.wire.proofs.Slots.{length_slot, length-slots, written_each, slots_each, to_all_lem, slots_start, put_next_slot, length_rest, slots_all}
pub use Rattle.wire.proofs.Slots.{silent_slot, put_into, relay_into, copied_all, length-copied, other_run_absent, late_absent, length-silenced}
pub use Rattle.wire.proofs.Slots.{silenced_reads}
