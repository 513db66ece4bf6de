-- Laws for the crates above (Laws), and the proof of agreement, step by step.
pub mod Laws
mod Run
mod System
mod Coding
mod Graph
mod Blocks
mod Votes
mod Cores
mod Pieces
mod Ends
mod Verdict
mod Agreement
