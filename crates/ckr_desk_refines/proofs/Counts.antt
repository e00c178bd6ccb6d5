pub mod Bytes
pub mod Sets
pub mod Events
pub mod Runs
