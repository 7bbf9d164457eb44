pub mod Keeps
pub mod Bound
pub mod Begins
pub mod Ends
pub mod Waits
pub mod Order
pub mod Reaches
pub mod Vectors
