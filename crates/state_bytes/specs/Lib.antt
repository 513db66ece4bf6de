-- The state as bytes.
pub mod State
