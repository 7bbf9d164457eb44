pub mod Mac
pub mod Actions
