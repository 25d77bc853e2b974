pub mod Graphs
pub mod Frames
pub mod Events
pub mod Outcomes
pub mod Renamed
pub mod GraphLaws
pub mod Laws
