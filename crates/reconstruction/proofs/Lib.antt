-- `Laws` is for the crates above; the others are what the functions' proofs rest on.
pub mod Laws
mod Choice
mod Pieces
mod Rounds
