pub mod Token
pub mod Records
pub mod Streams
pub mod Rows
pub mod Plain
