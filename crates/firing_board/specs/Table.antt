-- The table of open jobs.
pub mod View
pub mod Slots
pub mod Lending
pub mod Suits
pub mod Calls
pub mod Closing
pub mod Asked
pub mod AskedRows
pub mod Laws
pub mod LiveFirings
pub mod Images
