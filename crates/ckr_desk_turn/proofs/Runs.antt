pub mod Restarts
pub mod Rows
pub mod Events
pub mod Continuations
pub mod Ends
pub mod Lists
