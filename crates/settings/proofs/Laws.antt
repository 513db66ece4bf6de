-- What a crate above may know of refusals besides the contracts and the definitions.
--   The number returned for an answer
--     row_least       that of a row is not 0
--     ok_0            it is 0 exactly for Ok
--     one_answer      it determines a refusal: two rows have two numbers
--   A range
--     yes_outside, outside_no, no_outside   when a number is outside
--   The number of each entry point is 0 exactly where what it tries is valid
--     star_0, 0_star           the star
--     lengths_0, 0_lengths     message lengths
--     decoding_0, 0_decoding   decoding
--     encoding_0, 0_encoding   coding
--     state_0, 0_state         a given state
--     starting_0, 0_starting   start
--     starting_fits            start tries the lent length last, so that it counts only within rows 1 to 3
pub use Rattle.settings.proofs.Refusals.{yes_outside, outside_no, no_outside, star_0, 0_star, lengths_0, 0_lengths, decoding_0, 0_decoding, encoding_0}
pub use Rattle.settings.proofs.Refusals.{0_encoding, state_0, 0_state, starting_0, 0_starting, starting_fits}
pub use Rattle.settings.proofs.Numbers.{row_least, ok_0, one_answer}
