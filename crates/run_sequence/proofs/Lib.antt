pub mod Questions
pub mod Places
pub mod Columns
pub mod Shifts
pub mod Stages
