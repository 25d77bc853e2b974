pub mod Pair
pub mod Scaled
pub mod Joined
