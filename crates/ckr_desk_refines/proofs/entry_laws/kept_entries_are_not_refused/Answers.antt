use Rattle.ckr_desk_refines.proofs.Entries.Refusal.{nothing-refused}
use Rattle.ckr_desk_refines.proofs.Entries.SoundEvents.{sound-refused}
use Rattle.ckr_desk_refines.proofs.entry_laws.kept_entries_are_not_refused.Goals as goal

pub returns : goal.returns
returns c = record { sound = sound-refused; effect = nothing-refused }
