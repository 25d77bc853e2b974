pub mod Passes
pub mod Worked
pub mod Asked
pub mod Alone
pub mod Small
pub mod Laws
pub mod Lent
