pub mod Keeps
pub mod Counts
pub mod Rest
