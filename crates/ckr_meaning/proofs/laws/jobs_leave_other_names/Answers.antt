use Rattle.ckr_meaning.proofs.OtherNames.{at-other, job_run-other}
use Rattle.ckr_meaning.proofs.laws.jobs_leave_other_names.Goals as goal

pub returns : goal.returns
returns c = record { place = at-other; job = job_run-other }
