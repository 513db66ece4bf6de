-- Laws for the crates above.
pub mod Laws
mod Calls
mod Late
