-- The worked examples.
pub mod Examples
pub mod Pairs
pub mod Decoding
