pub mod Stored
pub mod Feeds
pub mod Follows
pub mod Decodes
pub mod Wholes
