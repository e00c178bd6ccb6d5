pub mod Pieces
pub mod Views
pub mod Calls
