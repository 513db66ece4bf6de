-- `Laws` is for the crates above; the others are what it and the functions' proofs rest on.
mod Sizes
mod Stripes
mod Rows
mod Right
mod First
mod Rule
mod Mending
mod Named
mod Counts
mod Ready
mod Decoded
pub mod Laws
