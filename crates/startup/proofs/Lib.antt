pub mod Map
pub mod Ways
pub mod Sound
pub mod Begins
