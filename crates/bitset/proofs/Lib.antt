-- Laws for the crates above (Laws), and what they and the code rest on.
pub mod Laws
mod Rows
mod Sets
mod Operations
mod Digits
