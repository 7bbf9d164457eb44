pub mod Held
pub mod Desk
