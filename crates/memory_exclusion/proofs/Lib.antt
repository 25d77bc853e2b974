pub mod Words
pub mod Chains
pub mod Closing
pub mod Ranking
pub mod Turning
pub mod Reached
pub mod Neither
