pub mod Plain
pub mod Frames
pub mod Histories
