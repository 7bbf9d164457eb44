pub mod Takable
