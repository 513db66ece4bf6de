-- What a crate above may know of the star besides the contracts and the definitions: the relation and the function, then the sets C, D, F and E
-- that `star_of rows n t` answers, with no word of the matching.
--   star_is_one             `IsStar` holds of what the function answers and of nothing else (`StarIsOne`); star_of_lem: so for rows; star_of-pairs: and
--                           for bits
--   one_sets                the number and the sets of an answer determine it
--   star_refusal_lem        the number answered is that of the refusal
--   refusal_0               it is 0 exactly where the settings are valid; 0_refusal
--   c-below ..              the four sets are below 2 ^ n; c-member ..: so a member is below n
--   c_neighbours              every member of C is a neighbour of every member of D
--   f_neighbours            a member of F has at least t + 1 neighbours in C
--   e_neighbours            a member of E has at least 2t + 1 neighbours in F
--   found-valid             where the core is found the settings are valid
--   c_size ..               where it is found, C has at least n - 2t members, D n - t, F and E 2t + 1
--   not_found               where it is not, all four sets are empty (no_sets_lem; no_sets_number: the number with them)
--   has_found               where E has a member it is found
--   clique_found            if at least n - t are pairwise neighbours, the core is found; clique_core, clique_f: E and F contain all of them
--   same_star               only who are neighbours below n counts, for any neighbour test same_is_star; same_rows: so only the marks
--                           below n in the rows below n
--   star_of_bits_lem        the star of the bits of the rows is the star of the rows, for all rows, n and t (`StarOfBits`; document 02, U9);
--                           core_of_bits: so is the core
--   same_bits               of any bits, only those of pairs below n count
--   core_correct            a core has at least t + 1 correct members
--   one_word                source 001, Lemma 22: the correct members of the core hold one word
--   own_place               a correct member of F has, at its own place, what that word has there
--   c_word                  the correct members of C hold that word
pub use Rattle.star.proofs.Answer.{refusal_0, 0_refusal, one_sets}
pub use Rattle.star.proofs.Same.{star_is_one, star_of_lem, star_of-pairs, same_is_star, same_star, same_rows, same_bits, star_of_bits_lem, core_of_bits}
pub use Rattle.star.proofs.Found.{star_refusal_lem, c-below, d-below, f-below, e-below, c-member, d-member, f-member, e-member, c_neighbours, f_neighbours}
pub use Rattle.star.proofs.Found.{e_neighbours, found-valid, c_size, d_size, f_size, e_size, not_found, has_found, clique_found, clique_core, clique_f}
pub use Rattle.star.proofs.Found.{core_correct, one_word, own_place, c_word, no_sets_lem, no_sets_number}
