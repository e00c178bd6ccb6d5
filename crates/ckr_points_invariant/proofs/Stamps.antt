pub mod Beginnings
pub mod Outputs
pub mod Events
pub mod Starts
pub mod Steps
pub mod Tables
pub mod Sameness
