pub mod Test
pub mod Occurs
