pub mod Outs
pub mod Returns
