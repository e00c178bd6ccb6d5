pub mod Events
pub mod Sameness
pub mod Conditions
pub mod Counts
