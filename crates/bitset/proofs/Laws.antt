-- What a crate above may know of sets besides the contracts and the definitions.
--   The set of a test
--     member-set, member-set_past   its members are those below n that pass
--     set_lt, set_lt_16             it is a number of n digits, of 16
--     set_ext, set_past, set_empty  tests that agree; indices that fail from n on; a test that nobody passes
--     set_none, set_more, set_all   no index, one more, all below n
--   A set by its members
--     ext                           two sets with the same members are equal; set_members, set_of_members: a set is what its members say
--     member_over, member_below     a number of k digits has members below k only
--     member_none, none_in_0        the empty set has none
--     digit_member                  a member as a digit
--   Size
--     size_le, size_below, size_set the size is the count of the members
--   Inserting and removing
--     insert_lt, member_insert, insert_over, insert_member, insert_add, insert_next, insert_skip
--     remove_lt, member_remove, remove_other, remove_sub, size_remove
--   Restricting
--     restrict_lt, restrict_mod, member_restrict, member_restrict_past, restrict_below, restrict_set
--   The least member
--     first_le, first_passes, first_least, first_some; lowest_le, lowest_member, lowest_least, lowest_some
--   Two sets
--     member-intersection, member-difference, member_union; intersection_lt, difference_lt, union_lt; size_difference
--     and_is, or_is, xor_is         the processor's operations make them
--   Rows in message bytes
--     row_held, row_missing, row_none, row_lt, row_pair, row_left, row_right
--     row_read                      a row of the message that was written is read back
--     rows_length, length_rows, rows_written, rows-bytes, halves
pub use Rattle.bitset.proofs.Sets.{set_none, set_lt, set_lt_16, set_all, member-set, member-set_past, member_over, member_none, none_in_0}
pub use Rattle.bitset.proofs.Sets.{member_below, set_ext, set_past, set_empty, set_more, digit_member, set_members, set_of_members, ext, size_le}
pub use Rattle.bitset.proofs.Sets.{size_below, size_set, insert_lt, member_insert, insert_over, insert_member, insert_add, insert_next, insert_skip}
pub use Rattle.bitset.proofs.Sets.{remove_lt, member_remove, remove_other, remove_sub, size_remove, restrict_lt, restrict_mod, member_restrict}
pub use Rattle.bitset.proofs.Sets.{member_restrict_past, restrict_below, restrict_set, first_le, first_passes, first_least, first_some, lowest_le}
pub use Rattle.bitset.proofs.Sets.{lowest_member, lowest_least, lowest_some}
pub use Rattle.bitset.proofs.Operations.{member-intersection, member-difference, member_union, size_difference, intersection_lt, difference_lt}
pub use Rattle.bitset.proofs.Operations.{union_lt, and_is, or_is, xor_is}
pub use Rattle.bitset.proofs.Rows.{row_held, row_missing, row_none, row_lt, row_pair, row_left, row_right, length_rows, length_rows_few, rows_written}
pub use Rattle.bitset.proofs.Rows.{row_read, halves, bytes_rows}
