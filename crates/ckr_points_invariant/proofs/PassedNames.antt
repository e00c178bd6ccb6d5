pub mod Dispositions
pub mod Walks
