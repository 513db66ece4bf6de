-- Matchings of the pairs that are not neighbours, and the first largest one.
pub mod Matching
pub mod Answer
pub mod First
pub mod Steps
