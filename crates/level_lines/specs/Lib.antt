pub mod AtActors
pub mod Lines
