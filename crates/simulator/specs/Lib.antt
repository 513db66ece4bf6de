-- What the simulator writes, and what its functions do on the way.
pub mod Output
pub mod Play
pub mod Steps
