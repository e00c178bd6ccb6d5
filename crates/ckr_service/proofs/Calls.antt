pub mod Ends
pub mod OpenStops
pub mod Texts
pub mod Completeness
