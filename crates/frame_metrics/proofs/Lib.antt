pub mod Turns
pub mod Bests
pub mod Rooms
pub mod Offers
pub mod Parts
pub mod Walks
pub mod Selects
