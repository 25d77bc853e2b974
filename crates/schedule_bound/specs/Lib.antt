pub mod Slots
pub mod Feasible
pub mod Listed
pub mod Critical
