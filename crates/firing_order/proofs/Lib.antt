pub mod Adjacency
pub mod Counting
pub mod Remaining
pub mod Progress
