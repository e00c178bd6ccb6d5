pub mod Answering
pub mod Operators
pub mod Scripts
