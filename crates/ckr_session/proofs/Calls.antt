pub mod Stops
pub mod Halts
