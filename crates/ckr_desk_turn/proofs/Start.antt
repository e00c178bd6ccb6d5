pub mod Sets
pub mod Clearance
pub mod NewParts
pub mod Items
pub mod Decks
pub mod Invariant
