pub mod Starting
pub mod Ending
pub mod OneAnswer
pub mod Rows
pub mod Runs
pub mod Making
pub mod Groups
