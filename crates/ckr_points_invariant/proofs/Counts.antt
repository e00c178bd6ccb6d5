pub mod Lists
pub mod Events
