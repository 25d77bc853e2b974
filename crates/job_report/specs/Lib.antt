pub mod Names
pub mod Rows
pub mod Plan
pub mod Schedule
pub mod Memory
pub mod Told
pub mod Holding
