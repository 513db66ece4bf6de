-- A law that the functions' proofs share.
mod Refused
