pub mod Lasting
pub mod Answering
pub mod Claiming
pub mod Starting
pub mod Playing
