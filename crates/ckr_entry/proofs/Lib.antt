pub mod Checkpoints
pub mod Entries
mod Examples
pub mod Forms
pub mod Heads
pub mod Loops
pub mod Sets
pub mod States
