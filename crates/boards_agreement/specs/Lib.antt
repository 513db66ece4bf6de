-- Runs through the exported functions.
pub mod Library
