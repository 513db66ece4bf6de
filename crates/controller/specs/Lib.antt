-- For the contracts of the private functions.
pub mod Steps
