pub mod Headers
pub mod Allocation
pub mod Holes
pub mod PackedHoles
pub mod Walks
pub mod HeaderSpelling
pub mod HeaderParts
pub mod HeaderReads
mod Rows
