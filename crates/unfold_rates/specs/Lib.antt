pub mod Multiplied
pub mod Exact
pub mod Fits
pub mod Components
pub mod Cut
pub mod InTurn
pub mod Spans
