pub mod Kept
pub mod Index
pub mod Verdicts
pub mod Standing
pub mod Enough
