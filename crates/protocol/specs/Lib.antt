-- The state, the calls, start and step, and what late messages do.
pub mod State
pub mod Calls
pub mod Step
pub mod Late
