pub mod Totals
pub mod Runs
pub mod Counts
pub mod Lists
