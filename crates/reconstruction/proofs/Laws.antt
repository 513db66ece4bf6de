-- What a crate above may know of calls 3t + 7 to 3t + 9 besides the contracts and the definitions.
--   Call 3t + 7
--     in_core_lem                         membership by number
--     kind_forward, kind_rebuild          the table's length is that of a piece
--     forwarded-member, forwarded_other   a core member sends to j piece j of its own coding; others are silent
--   Call 3t + 8
--     own_member, own_other        a member's piece is its own; another takes the one that is chosen
--     length_chosen, chosen_each   it has the round's length; what holds of every byte of the inbox holds of its bytes
--     chosen                       where at least t + 1 members are good, at most t of all are not, and every good one sent P, it is P
--     shared_sends, shared_none    the piece to all; silence where there is none
--   The last call
--     finished_none                      no core: none and zeros
--     finished-agreed, finished-beyond   a core: by decoding's rule
--     finished-refused                   decoding refused: open, and the block as it was
--     finished_answers                   what decoding answers and leaves is what the last call sets
--     finished_lt                        the marks are 16 bits
--     agreed-number                      agreed is known by its number; outcome_back: the number of an outcome gives it back
--   Inboxes with one message in each slot
--     shared_same, finished_same         give one piece to send, and one ending
pub use Rattle.reconstruction.proofs.Rounds.{in_core_lem, kind_forward, kind_rebuild, forwarded-member, forwarded_other, own_member, own_other}
pub use Rattle.reconstruction.proofs.Rounds.{length_chosen, chosen_each, chosen, shared_sends, shared_none, finished_none, finished-agreed}
pub use Rattle.reconstruction.proofs.Rounds.{finished-beyond, finished-refused, finished_answers, finished_lt, agreed-number, outcome_back, shared_same, finished_same}
