pub mod Bins
pub mod Firings
pub mod Middles
pub mod Windows
pub mod Near
pub mod Steps
