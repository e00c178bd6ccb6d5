pub mod Entries
pub mod Trusted
pub mod Plans
