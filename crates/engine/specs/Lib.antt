pub mod Matrices
pub mod Blocks
pub mod Plain
pub mod Runs
pub mod Targets
pub mod Vectors
pub mod Letters
pub mod Deliveries
