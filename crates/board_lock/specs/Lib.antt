pub mod Meant
pub mod Passes
pub mod Rule
pub mod Plays
