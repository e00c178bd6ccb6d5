pub mod LineEnds
pub mod SourceBytes
pub mod Codes
pub mod Volumes
pub mod Soundness
