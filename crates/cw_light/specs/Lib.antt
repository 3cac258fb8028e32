pub mod Believing
pub mod Checking
