pub mod Countable
pub mod Heights
pub mod Keys
pub mod Verified
