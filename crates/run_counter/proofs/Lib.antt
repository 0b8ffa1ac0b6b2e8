pub mod Begins
pub mod Takes
pub mod Numbers
