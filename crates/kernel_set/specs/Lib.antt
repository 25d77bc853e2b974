pub mod Written
pub mod Near
