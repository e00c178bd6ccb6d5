use Rattle.ckr_jcl_decks.proofs.Refusals.{job_law}
use Rattle.ckr_jcl_decks.proofs.laws.accepted_decks_are_sound.Goals as goal

pub returns : goal.returns
returns c = job_law
