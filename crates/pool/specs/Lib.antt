pub mod Stack
pub mod Hands
pub mod Good
