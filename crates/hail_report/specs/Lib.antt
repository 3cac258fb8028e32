pub mod Pool
pub mod Votes
pub mod Storm
pub mod Reading
pub mod Writing
pub mod Text
pub mod Exits
pub mod Answers
