-- The definitions below this crate that its own cite, handed on to the crates above: what is said of one statement and of its operands.
pub use Rattle.ckr_jcl_faults.specs.DdFaults
pub use Rattle.ckr_jcl_faults.specs.DeckText
pub use Rattle.ckr_jcl_faults.specs.Faults
pub use Rattle.ckr_jcl_faults.specs.declared.dd_faults.DdRule
pub use Rattle.ckr_jcl_faults.specs.declared.deck_text.DdText
pub use Rattle.ckr_jcl_faults.specs.declared.deck_text.JobText
pub use Rattle.ckr_jcl_faults.specs.declared.deck_text.StepText
pub use Rattle.ckr_jcl_faults.specs.declared.faults.Fault
pub use Rattle.ckr_jcl_faults.specs.declared.faults.MetFaults
pub use Rattle.ckr_jcl_operands.specs.DcbValues
pub use Rattle.ckr_jcl_operands.specs.DdValues
pub use Rattle.ckr_jcl_operands.specs.Keywords
pub use Rattle.ckr_jcl_operands.specs.declared.dd_values.DsnText
pub use Rattle.ckr_jcl_operands.specs.declared.dd_values.VolText
