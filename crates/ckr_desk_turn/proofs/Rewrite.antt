pub mod UnitWrites
pub mod Places
pub mod Masters
pub mod Event
pub mod Invariant
pub mod UpdateUnit
