-- Laws for the crates above (Laws), and those that the functions' proofs cite.
pub mod Laws
mod Bytes
