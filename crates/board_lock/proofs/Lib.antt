pub mod Entries
pub mod Phases
pub mod Views
pub mod Steps
pub mod Parts
