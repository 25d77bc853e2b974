pub mod OneReport
pub mod OneOrdering
