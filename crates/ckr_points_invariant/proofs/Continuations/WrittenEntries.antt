pub mod Marks
pub mod Offices
pub mod Entries
