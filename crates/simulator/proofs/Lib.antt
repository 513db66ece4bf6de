-- The laws of the simulator.
pub mod Writing
pub mod Running
pub mod Turns
pub mod Plays
pub mod Laws
pub mod Whole
mod Outputs
