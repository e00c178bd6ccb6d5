pub mod Events
pub mod Layouts
pub mod EventReads
pub mod FormatStops
