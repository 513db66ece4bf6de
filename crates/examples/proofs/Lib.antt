-- The proofs of the tables.
pub mod Proved
pub mod Pairs
pub mod Decoding
