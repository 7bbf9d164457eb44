pub mod Counted
pub mod Made
