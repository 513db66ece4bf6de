-- `Laws` is for the crates above; the others are what it rests on.
mod Sum
mod Linear
mod Product
mod Powers
mod Bitwise
pub mod Laws
