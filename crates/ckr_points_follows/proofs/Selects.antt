pub mod Conflicts
pub mod Initiators
