pub mod Earlier
pub mod Starts
pub mod Entries
