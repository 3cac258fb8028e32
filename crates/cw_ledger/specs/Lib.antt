pub mod Transfers
pub mod Ledger
pub mod Frames
pub mod Kept
pub mod Loading
