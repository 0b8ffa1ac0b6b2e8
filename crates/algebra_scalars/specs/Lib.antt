pub mod Bits
pub mod Counts
pub mod BitsLemmas
pub mod CountsLemmas
