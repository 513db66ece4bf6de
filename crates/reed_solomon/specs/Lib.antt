-- The code: coding, decoding, and the block that decoding's rule gives; Steps is for the contracts of private functions.
pub mod Encode
pub mod Decode
pub mod First
pub mod Steps
