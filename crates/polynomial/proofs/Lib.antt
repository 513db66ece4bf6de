-- `Laws` is for the crates above; the others are what it rests on.
mod Values
mod Coefficients
mod Roots
pub mod Laws
