use Rattle.ckr_meaning.proofs.NameDependence.{at-agrees, at-passes, end-agrees, job_run-agrees}
use Rattle.ckr_meaning.proofs.laws.jobs_depend_on_their_names_alone.Goals as goal

pub returns : goal.returns
returns c = record { place = at-agrees; passed = at-passes; end = end-agrees; job = job_run-agrees }
