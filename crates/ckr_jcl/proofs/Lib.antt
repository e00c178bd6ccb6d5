pub mod Numbers
pub mod Pieces
pub mod Items
pub mod ListItems
pub mod Words
