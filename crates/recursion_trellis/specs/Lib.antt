pub mod Counts
pub mod Survivors
pub mod SurvivorsLemmas
