pub mod Lowest
pub mod Walks
pub mod Blocks
pub mod Trace
pub mod Ties
pub mod Holds
pub mod Frames
pub mod Decodes
