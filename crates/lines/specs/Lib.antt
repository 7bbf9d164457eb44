pub mod Lines
pub mod Out
