-- What callers cite: the laws of little-endian words, of whole slots, and of what the datasheet says of them.
pub mod Laws
pub mod Slots
pub mod Datasheet
mod Bytes
