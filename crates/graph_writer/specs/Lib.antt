pub mod ChildPorts
pub mod ReadAgain
pub mod Upgraded
