pub mod Laws
pub mod Highest
