pub mod Given
pub mod Holding
pub mod Ends
