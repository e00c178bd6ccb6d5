pub mod Growth
pub mod Roles
pub mod Likeness
