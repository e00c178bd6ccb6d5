pub mod Events
pub mod Steps
pub mod Checkpoints
pub mod Points
pub mod Turns
pub mod Desks
