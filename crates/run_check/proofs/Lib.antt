pub mod Questions
pub mod Shifts
pub mod Places
pub mod Weights
