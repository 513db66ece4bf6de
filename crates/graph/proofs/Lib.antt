-- Laws for the crates above (Laws), and what they and the code rest on.
pub mod Laws
mod Neighbours
mod Order
mod Bits
mod Making
