-- Random numbers, run numbers and digests.
pub mod Random
