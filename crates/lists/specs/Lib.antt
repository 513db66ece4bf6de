-- Sums, counts, lists given by a function of the index, the numbers that pass a test, equality of lists as a test, lists joined from parts, and
-- answers that may be none.
pub mod Sum
pub mod Fill
pub mod Same
pub mod Join
pub mod Select
pub mod Options
