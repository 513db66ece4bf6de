-- The refusal table, the number that is returned, and the settings that the table lets pass.
pub mod Refusal
pub mod Number
pub mod Valid
