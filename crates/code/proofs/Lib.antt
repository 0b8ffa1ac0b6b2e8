pub mod Codes
pub mod Sizes
pub mod Branches
pub mod Next
pub mod Costs
