-- The form of a system file, what it says, and the table that the reader answers.
pub mod Form
pub mod Table
pub mod Steps
