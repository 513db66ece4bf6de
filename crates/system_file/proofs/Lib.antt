-- The laws of system files.
pub mod Rows
pub mod MessageLine
pub mod Reading
pub mod Entries
pub mod Heads
pub mod Answers
pub mod Places
pub mod Files
pub mod Laws
