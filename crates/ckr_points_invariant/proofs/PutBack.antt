pub mod Sets
pub mod Likeness
