pub mod LinkByLink
pub mod OneAnswer
pub mod Passed
pub mod Searching
pub mod Repetitions
pub mod Orders
pub mod Existing
