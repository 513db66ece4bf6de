-- Laws for the crates above (Laws), and of the rows that the code tries one after the other (Order).
pub mod Laws
mod Numbers
mod Order
mod Refusals
