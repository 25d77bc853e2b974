pub mod Fitting
pub mod Placed
