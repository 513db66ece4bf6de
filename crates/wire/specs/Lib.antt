-- Rounds and calls, lengths, slots; Steps is for the contracts of private functions.
pub mod Round
pub mod Length
pub mod Slot
pub mod Steps
