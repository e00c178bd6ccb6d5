pub mod Events
pub mod Answers
pub mod Halts
pub mod Order
pub mod Staff
pub mod Tellings
pub mod Tallies
pub mod Turns
