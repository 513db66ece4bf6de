-- Polynomials over the field.
pub mod Polynomial
