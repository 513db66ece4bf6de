-- Interpolation through values some of which are wrong; Steps is for the contracts of private functions.
pub mod Interpolation
pub mod Steps
