pub mod Uncuts
