pub mod Rule
pub mod Rows
