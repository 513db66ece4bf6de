-- What a crate above may know of matchings besides the contracts and the definitions.
--   Sets
--     in_set, set_in, some_in   members of the set of a test, of any set
--   complement_row      row i of the missing pairs
--   The first largest matching M
--     one_matching       no two lists are that (`OneMatching`); one_answer: so no two answers (`OneAnswer`)
--     matching_first     `matching_of n adj` is that (`MatchingFirst`)
--     same_graph         only who are neighbours below n counts
--     matching_half      2 × the length of a matching is at most n
--     reverse-more       a list of pairs backwards grows at the front
--     each_reverse       what each of these pairs passes, what stands at an index of the list passes
--   Of its pairs, where adj goes both ways
--     pair_at            a pair of M is a pair below n that are not neighbours
--     matched_in, matched_of, matched_lt, ends_of, end_small, end_large   the matched are the ends of the pairs
--     no_free_pair       two unmatched are neighbours
--     no_augmenting      the ends of a pair do not have two different unmatched non-neighbours
--   Counting by pairs
--     any_in, any_of     a test that some pair passes
--     pigeonhole         members that have a pair each, no two the same, are no more than the pairs
--     one_each           pairs that have a member each are no more than the members
pub use Rattle.matching.proofs.Rows.{complement_row}
pub use Rattle.matching.proofs.Sets.{in_set, set_in, some_in}
pub use Rattle.matching.proofs.One.{one_matching, one_answer, same_graph}
pub use Rattle.matching.proofs.First.{matching_first}
pub use Rattle.matching.proofs.Sizes.{matching_half}
pub use Rattle.matching.proofs.Stored.{reverse-more, each_reverse}
pub use Rattle.matching.proofs.Augment.{Among, each_among, any_in, any_of, pair_at, matched_none, matched-cons, matched_in, matched_of, matched_lt}
pub use Rattle.matching.proofs.Augment.{ends_of, end_small, end_large, no_free_pair, no_augmenting, pigeonhole}
pub use Rattle.matching.proofs.Pairs.{one_each, each_map}
