pub mod Archived
pub mod Keys
pub mod Showing
