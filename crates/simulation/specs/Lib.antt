-- The run of a system.
pub mod Run
