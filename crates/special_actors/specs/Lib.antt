pub mod Copying
pub mod Fitting
pub mod Writing
