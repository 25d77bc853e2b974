pub mod HeldFrames
pub mod HeldSteps
pub mod Lasting
