pub mod Plans
pub mod Asks
pub mod Letters
pub mod Tallies
