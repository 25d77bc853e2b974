pub mod Writing
pub mod Searching
pub mod Ordering
pub mod GroupSteps
