pub mod Euclid
pub mod Scaling
pub mod Uniting
pub mod Between
pub mod Solved
