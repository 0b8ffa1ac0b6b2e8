pub mod Traces
pub mod Turns
pub mod Questions
pub mod Walks
