pub mod Records
pub mod Card
pub mod Way
