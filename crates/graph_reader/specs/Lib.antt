pub mod Counted
pub mod Gives
pub mod Lent
pub mod Place
pub mod Resolves
pub mod Setting
pub mod Told
