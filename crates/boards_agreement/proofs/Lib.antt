-- The theorems (Laws), and what they rest on: runs through the exported functions are runs of `agreement`.
pub mod Laws
mod Library
mod Bounds
