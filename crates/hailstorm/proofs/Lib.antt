pub mod Merging
pub mod Laned
pub mod Cursoring
pub mod Prefixed
pub mod LanesMeaning
pub mod Shared
pub mod Between
pub mod LanesChain
