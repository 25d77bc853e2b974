pub mod Compilation
pub mod Keys
pub mod Entries
pub mod Rows
pub mod Ends
pub mod Wired
pub mod Ranked
