pub mod Paths
pub mod Survivors
pub mod Rows
pub mod Choices
