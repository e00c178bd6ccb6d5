use Rattle.ckr_meaning.proofs.JobEnds.{is_place-end_of_job}
use Rattle.ckr_meaning.proofs.laws.jobs_end_at_one_of_their_places.Goals as goal

pub returns : goal.returns
returns c = is_place-end_of_job
