-- What a crate above may know of the code besides the contracts and the definitions.
--   Coding; B is a block, of block_length k t bytes
--     encode_0                    number 0: within the settings, with the stated lengths
--     encode_valid                and there the number is 0 and the piece is B's
--     coded_ok, coded_piece       so what `encode` answers there is Ok, and what it leaves is B's piece
--     encode_refused              any other number: nothing changes
--     length_piece, bytes_piece   a piece has k bytes
--     get_or_piece                byte s is the value of stripe s
--     ready_yes, yes_ready        what `is_ready` lets pass
--     blocks_equal                two blocks whose codings have the same piece at t + 1 of the numbers 1 .. n are the same
--   Decoding
--     decode_0, 0_decode               decoding is carried out exactly within the settings, with the stated lengths
--     decodes_unique                   at most one block meets the rule
--     answers_unique                   so there is one answer, and one block that is left
--     one_decoded                      what an answer says determines it
--     meets-decodes                    a block that passes the test `meets` meets the rule
--     stripe-beyond                    where the candidate for a stripe is not right, no block meets the rule; few-beyond: nor with at most t slots present
--     rebuilt-decodes, rebuilt-block   `rebuilt` gives the block that meets the rule; rebuilt_none: or none where none does
--     decodes-or-not                   a block meets the rule, or none does
--     pieces_decode                    a block whose piece stands in enough slots meets the rule; present_count_le: at most n are present
--   The slots that are named
--     member_named, named_lt           the marks are of these slots; true_not_named: a slot that holds its piece is not one
--     named_absent, named_differs, not_named   they are those that are absent or differ in a stripe; named_other_run: so is a slot of another run
--   Slots with one message each
--     rebuilt_same, named_same         give one block and the same marks; decode_refusal_same: and one refusal
pub use Rattle.reed_solomon.proofs.Ready.{ready_yes, yes_ready}
pub use Rattle.reed_solomon.proofs.Rule.{coded_ok, coded_piece}
pub use Rattle.reed_solomon.proofs.Rule.{encode_0, encode_valid, encode_refused, length_piece, bytes_piece, get_or_piece, blocks_equal, decode_0}
pub use Rattle.reed_solomon.proofs.Rule.{0_decode, decodes_unique, answers_unique, meets-decodes, stripe-beyond, rebuilt-decodes, rebuilt-block}
pub use Rattle.reed_solomon.proofs.Rule.{few-beyond, rebuilt_none, decodes-or-not, pieces_decode, present_count_le, rebuilt_same, named_same}
pub use Rattle.reed_solomon.proofs.Rule.{decode_refusal_same}
pub use Rattle.reed_solomon.proofs.Named.{member_named, named_lt, true_not_named, named_absent, named_differs, not_named, named_other_run}
pub use Rattle.reed_solomon.proofs.Decoded.{one_decoded}
