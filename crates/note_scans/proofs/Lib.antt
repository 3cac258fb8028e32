pub mod Countable
pub mod Folds
pub mod Keys
pub mod Least
