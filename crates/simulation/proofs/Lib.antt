-- The laws of runs.
pub mod Laws
mod Runs
