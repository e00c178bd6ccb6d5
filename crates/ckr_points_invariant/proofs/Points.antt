pub mod Sets
pub mod Rows
pub mod Events
pub mod Places
pub mod Lists
