pub mod RealCoder
pub mod Committed
pub mod Told
