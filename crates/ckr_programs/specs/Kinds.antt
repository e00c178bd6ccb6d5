-- The kinds of programs as a deck names them, handed on to the crates that keep what a program has come to.
pub use Rattle.ckr_jcl.specs.declared.deck.Kind
