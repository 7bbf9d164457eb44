pub mod Text
pub mod Width
