pub mod Lines
pub mod Fields
pub mod Columns
pub mod Deliveries
pub mod Follows
pub mod Report
