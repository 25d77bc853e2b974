pub mod View
pub mod Invariants
pub mod History
pub mod Journals
