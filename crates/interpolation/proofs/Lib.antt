-- Laws for the crates above (Laws), and what they and the code rest on.
mod Invariant
mod Complete
mod Equations
mod Zeros
mod Loops
pub mod Laws
