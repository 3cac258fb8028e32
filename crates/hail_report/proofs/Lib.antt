pub mod Pieces
pub mod Rounds
pub mod Tops
pub mod Numbered
pub mod Voted
pub mod StormWords
pub mod StormLines
pub mod Answering
