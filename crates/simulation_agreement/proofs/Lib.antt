-- The theorems (Laws), and their proof: a step leaves bytes (Bytes), the boxes of the run (Boxes), lists of steps none of which is refused (Steps), the run
-- as a system
-- that meets what demand 3 supposes (Run), its one result (Result), and the one output of the simulator (Output).
pub mod Laws
mod Bytes
mod Boxes
mod Steps
mod Run
mod Result
mod Output
