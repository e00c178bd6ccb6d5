-- What the cards of a deck are, or why they are refused.
pub use Rattle.ckr_jcl_decks.specs.Deck
pub use Rattle.ckr_jcl_faults.specs.declared.faults.Fault
