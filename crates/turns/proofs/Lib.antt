pub mod Turning
pub mod Serving
