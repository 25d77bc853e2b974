pub mod Gathered
pub mod Spread
pub mod Rounds
pub mod Shapes
