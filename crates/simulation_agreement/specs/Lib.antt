-- One result of a simulated run, and one output of the simulator.
pub mod Simulation
pub mod Output
