-- What calls 1 to 3 make of the block and the inbox.
pub mod Dispersal
