pub mod Reports
pub mod Headline
pub mod Lanes
pub mod Turns
pub mod LanesProgram
