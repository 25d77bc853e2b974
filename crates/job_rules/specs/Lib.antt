pub mod Words
pub mod Doing
pub mod Items
pub mod Meant
pub mod Fitting
