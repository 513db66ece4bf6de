-- The neighbour graph: who are neighbours, the order of the pairs, and the graph as one bit for each pair.
pub mod Neighbour
pub mod Pairs
pub mod Bits
