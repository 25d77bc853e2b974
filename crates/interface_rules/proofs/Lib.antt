pub mod Grouping
pub mod Needs
pub mod Serving
pub mod Multiplied
