pub mod Texts
pub mod Acks
pub mod Orders
pub mod Worlds
pub mod Chains
pub mod Ends
pub mod Meaning
