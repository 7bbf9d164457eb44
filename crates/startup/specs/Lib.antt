pub mod Machine
pub mod SetUp
