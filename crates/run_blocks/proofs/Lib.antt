pub mod Weights
pub mod Takes
