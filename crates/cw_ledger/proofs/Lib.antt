pub mod Entries
pub mod Sets
pub mod Moving
pub mod Holders
pub mod Reading
pub mod Loading
pub mod Adding
pub mod Applying
