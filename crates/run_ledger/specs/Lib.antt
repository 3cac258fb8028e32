pub mod Ledgers
pub mod Giving
pub mod Text
