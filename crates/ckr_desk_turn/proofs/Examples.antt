-- Worked decks, computed: what their jobs leave, the tables of their events, and their turns.
pub mod Decks
pub mod Jobs
pub mod Tables
pub mod Desks
pub mod Turns
pub mod Stints
pub mod Checkpoints
pub mod Restarts
pub mod Operators
pub mod Deferred
