use Rattle.ckr_desk_refines.proofs.Entries.Written.{has-behind}
use Rattle.ckr_desk_refines.proofs.entry_laws.checkpoints_write_their_entry.Goals as goal

pub returns : goal.returns
returns c = λ layout office step may image set table there is at places fits has had. has-behind layout office step may image set table there is at places fits has had
