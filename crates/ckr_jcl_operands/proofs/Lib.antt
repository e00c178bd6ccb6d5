pub mod Serials
pub mod DcbParts
pub mod Joins
