pub mod Placing
pub mod Progress
