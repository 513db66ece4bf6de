-- What calls 3t + 7 to 3t + 9 make of the core, the block and the inbox, and the outcomes with their numbers and words.
pub mod Outcomes
pub mod Reconstruction
