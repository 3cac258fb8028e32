pub mod KeyLemmas
pub mod OrderLemmas
pub mod RoomLemmas
pub mod IndexLemmas
pub mod CheckLemmas
pub mod DecodeLemmas
pub mod ShowLemmas
pub mod PutLemmas
