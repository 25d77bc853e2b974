pub mod Placed
pub mod Puts
pub mod AtPorts
pub mod Leaves
