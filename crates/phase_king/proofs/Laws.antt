-- What a crate above may know of the vote besides the contracts and the definitions.
--   The theorem
--     vote                      after the phases of a vote all correct controllers have one matrix, and a bit or row on which all correct ones started
--                               equal is what it was, whatever the others sent to each of them, with any different kings
--     vote_in_order, in_order   the same with kings 1 to t + 1
--     marks_kept                the row of a controller whose marks all correct ones received
--   For one bit
--     bit_validity              a phase keeps a bit that all correct controllers hold
--     bit_king                  a correct king makes all correct controllers equal
--     bit_agreement, bit_kept   all phases end in one bit; one that all correct controllers started with stays
--     phase_bit                 a phase of matrices is a phase of each bit
--   What slots say, and the cells of the matrices made of it
--     said_absent, king_absent, king_past   an absent slot says 0; so does a king that is none of 1 to n
--     said_matrix, said_zeros, said_ones   what a slot says that holds a matrix, or the zeros and ones; king_matrix
--     cell-zeros, cell-ones, cell_held     the cells; cell-weak, cell_settled
--     first_row                            the rows of the first matrix are the messages
--   Matrices
--     length_first   they have 16 rows; length_held, length-weak, length_settled
--     first_lt       of 16 bits; held_lt, weak_lt, settled_lt
--   Inboxes with one message in each slot
--     first_same     give the same matrices; zeros_same, ones_same, held_same, weak_same, settled_same
--   What is sent
--     length_seen_few, bytes_seen   the zeros and ones as a message
--     king_all, king_none           the king sends to all, everyone else is silent
pub use Rattle.phase_king.proofs.Votes.{vote, in_order, vote_in_order, marks_kept, bit_validity, bit_king, bit_agreement, bit_kept, length_first}
pub use Rattle.phase_king.proofs.Votes.{length_held, length-weak, length_settled, first_lt, held_lt, weak_lt, settled_lt, length_seen_few, bytes_seen}
pub use Rattle.phase_king.proofs.Matrices.{said_absent, king_absent, king_past, said_matrix, said_zeros, said_ones, king_matrix, cell-zeros, cell-ones}
pub use Rattle.phase_king.proofs.Matrices.{cell_held, cell-weak, cell_settled, first_row, phase_bit, first_same, zeros_same, ones_same, held_same}
pub use Rattle.phase_king.proofs.Matrices.{weak_same, settled_same}
pub use Rattle.phase_king.proofs.Writes.{king_all, king_none}
