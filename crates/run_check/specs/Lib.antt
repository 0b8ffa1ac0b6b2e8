pub mod Check
pub mod Shift
