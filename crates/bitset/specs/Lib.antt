-- Sets of controllers, and rows of them in message bytes.
pub mod Set
pub mod Row
