pub mod JobValues
pub mod DdValues
pub mod DcbValues
pub mod Keywords
