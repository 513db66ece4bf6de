-- Laws for the crates above.
pub mod Laws
mod Votes
mod Bits
mod Matrices
mod Steps
mod Writes
