pub mod Believed
pub mod Moments
mod Walks
