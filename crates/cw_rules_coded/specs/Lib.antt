pub mod Coded
pub mod Sums
