pub mod Paths
pub mod Bits
pub mod Closure
