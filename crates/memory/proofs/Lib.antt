-- What callers cite: the laws of packet memory.
pub mod Laws
