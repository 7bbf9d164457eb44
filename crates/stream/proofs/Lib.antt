pub mod Memory
pub mod Sized
pub mod Keeps
pub mod Scratch
