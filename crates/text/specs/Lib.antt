-- Lines, decimal numbers and hexadecimal bytes: how they are read and written.
pub mod Read
pub mod Lines
pub mod Write
pub mod Steps
