pub mod Totals
pub mod Offers
pub mod Metrics
