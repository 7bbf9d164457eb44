pub mod Registers
pub mod Masks
