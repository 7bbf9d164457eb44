pub mod Test
pub mod Occurs
pub mod Sum
