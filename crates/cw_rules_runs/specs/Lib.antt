pub mod Toy
pub mod Scenes
pub mod Scripts
pub mod Faults
