pub mod Survivors
pub mod Formulas
pub mod Paths
pub mod Rows
