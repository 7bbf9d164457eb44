pub mod Rates
pub mod Laws
