pub mod Answers
pub mod Adjacent
pub mod Lacking
