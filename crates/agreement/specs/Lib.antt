-- One controller's run, agreement of a system of them, whom they name, and who held the block.
pub mod Run
pub mod Agreement
pub mod Named
pub mod Held
