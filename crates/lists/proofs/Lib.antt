-- Laws for the crates above.
pub mod Tests
pub mod Sums
pub mod Parts
pub mod Fills
pub mod Table
pub mod Sames
pub mod Joins
pub mod Selects
pub mod Zeros
