pub mod Starts
pub mod Entries
pub mod Stands
