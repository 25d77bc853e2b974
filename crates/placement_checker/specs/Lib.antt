pub mod Placed
pub mod Clashes
pub mod Rows
