-- Laws for the crates above (Laws), and what they and the code rest on.
pub mod Laws
mod Sets
mod Pairs
mod Sizes
mod One
mod First
mod Rows
mod Steps
mod Stored
mod Augment
