pub mod Schedules
pub mod Causes
pub mod Ends
pub mod Laws
