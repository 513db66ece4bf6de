-- What a crate above may know of the state as bytes besides the contracts and the definitions.
--     length_state   the bytes of a state have the stated length
--     read_written   what was written is read back, of a state within its bounds
--     state_words    every list of bytes of that length is a state within its bounds
--     numbers_lt     the bound of the six numbers
pub use Rattle.state_bytes.proofs.ReadBack.{length_state, read_written, state_words, numbers_lt}
