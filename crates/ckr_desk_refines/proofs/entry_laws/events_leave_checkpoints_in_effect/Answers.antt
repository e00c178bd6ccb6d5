use Rattle.ckr_desk_refines.proofs.Entries.SoundEvents.{effects-behind}
use Rattle.ckr_desk_refines.proofs.entry_laws.events_leave_checkpoints_in_effect.Goals as goal

pub returns : goal.returns
returns c = λ layout now event deck are next within owners effects. effects-behind layout now are within owners effects event deck next
