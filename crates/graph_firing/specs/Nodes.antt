-- The nodes of a compiled firing.
pub mod View
pub mod Calls
pub mod Stages
pub mod Told
pub mod Sizes
pub mod Parts
pub mod Invariants
pub mod Leases
pub mod Starting
