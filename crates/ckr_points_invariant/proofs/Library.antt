pub mod Likeness
pub mod Entries
pub mod Extents
pub mod PassedList
