pub use Rattle.ckr_cards.proofs.Sessions
pub use Rattle.ckr_desk.proofs.Openings.FreshDisks
pub mod Cards
pub mod Tellings
pub mod Service
pub mod Calls
pub mod Lists
mod Records
mod JobNames
