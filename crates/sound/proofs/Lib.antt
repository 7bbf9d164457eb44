pub mod Marks
mod Chains
mod Round
mod Numbered
