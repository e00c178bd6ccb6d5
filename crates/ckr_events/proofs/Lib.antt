pub mod Fields
pub mod Events
pub mod Sizes
