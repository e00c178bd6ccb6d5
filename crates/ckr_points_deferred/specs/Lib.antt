pub mod Latest
pub mod Numbers
pub mod Runs
pub mod Wanted
