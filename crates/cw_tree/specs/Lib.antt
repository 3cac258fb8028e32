pub mod Chunks
pub mod Tree
pub mod Widths
pub mod Formats
pub mod Sizes
pub mod Fits
