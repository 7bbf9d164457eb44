pub mod Le
pub mod Slots
pub mod Datasheet
