pub mod Format
pub mod Event
pub mod Jobs
