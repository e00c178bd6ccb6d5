pub mod CodeNames
pub mod Digits
pub mod Pieces
