pub mod Streams
pub mod Texts
pub mod Formats
pub mod Cards
pub mod Installation
