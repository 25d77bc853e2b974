pub mod CountFacts
pub mod Sent
