use Rattle.ckr_desk_refines.proofs.Entries.InEffect.{effect-read}
use Rattle.ckr_desk_refines.proofs.entry_laws.entries_in_effect_have_the_state_of_their_job.Goals as goal

pub returns : goal.returns
returns c = λ layout office image number row entry start kept ready are has e got starts. effect-read layout office image kept ready are has number row entry start e got starts
