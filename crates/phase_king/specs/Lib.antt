-- The vote of Berman, Garay and Perry: for one bit, for matrices of marks in message bytes, and what is supposed of its phases.
pub mod Bit
pub mod Matrix
pub mod Vote
pub mod Steps
