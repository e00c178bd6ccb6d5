pub mod Grammar
pub mod CodeText
pub mod RoomyLists
pub mod Words
pub mod Columns
pub mod Digits
