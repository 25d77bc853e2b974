pub mod Bits
pub mod Heaps
pub mod Ranks
pub mod Groups
