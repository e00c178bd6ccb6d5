-- The definitions below this crate that its clauses and those of the crate above cite, handed on: the cards of a stream, and the desk.
pub use Rattle.ckr_cards.specs.Cut
pub use Rattle.ckr_cards.specs.Session
pub use Rattle.ckr_desk.specs.FirstSync
pub use Rattle.ckr_desk.specs.Model.Layout
pub use Rattle.ckr_desk.specs.Model.OpenImages
pub use Rattle.ckr_desk.specs.Opening
pub use Rattle.ckr_desk.specs.Replay
pub use Rattle.ckr_desk.specs.Soundness
pub use Rattle.ckr_desk.specs.State
pub use Rattle.ckr_desk.specs.declared.error.OpenError
