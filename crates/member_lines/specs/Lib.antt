pub mod Claims
pub mod HostLines
pub mod Answers
pub mod Ahead
