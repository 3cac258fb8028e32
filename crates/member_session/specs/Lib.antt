pub mod Serving
pub mod Told
pub mod Talk
pub mod Programs
