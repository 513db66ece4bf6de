-- What the exported functions answer, and definitions for private contracts.
pub mod Boards
pub mod Steps
