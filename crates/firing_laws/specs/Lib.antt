pub mod Moving
pub mod Alike
pub mod Runs
