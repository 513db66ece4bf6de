-- The laws of text.
pub mod Fields
pub mod Numbers
pub mod Bytes
pub mod Digits
pub mod Buffers
pub mod RoundTrips
pub mod LineParts
pub mod LineNumbers
pub mod Laws
