pub mod Outputs
pub mod Sets
