-- What a crate above may know of calls 1 to 3 besides the contracts and the definitions.
--   Call 1
--     sent_block_lem, sent_silence   the sender's block in every slot; silence from everyone else
--   Call 2
--     received-kept, received-message   the block is the lent one without a sender, and the sender's message if there is one
--     length-received, received_all     it keeps its length; what holds of every byte of the inbox and the lent block holds of its bytes
--     sent_pieces_lem, two_pieces_is    what is sent to each
--   Call 3
--     marks_set                      the marks as the set of those marked
--     marked_yes, yes_marked         who is marked: both pieces are those of the own coding
--     marked_self                    oneself always is
--     length_marks, bytes_marks      the marks as a message
--     sent_marks_lem, row_of_marks   they are sent to all, and read back
--   Inboxes with one message in each slot
--     received_same, marks_same   give one block, and one set of marks
pub use Rattle.dispersal.proofs.Calls.{sent_block_lem, sent_silence, received-kept, received-message, length-received, received_all, sent_pieces_lem}
pub use Rattle.dispersal.proofs.Calls.{two_pieces_is, marks_set, marked_yes, yes_marked, marked_self, length_marks, bytes_marks, sent_marks_lem}
pub use Rattle.dispersal.proofs.Calls.{row_of_marks, received_same, marks_same}
