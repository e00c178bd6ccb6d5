use Rattle.ckr_meaning.proofs.Walks.{at-bypassed, at-behind}
use Rattle.ckr_meaning.proofs.laws.jobs_go_on_from_step_to_step.Goals as goal

pub returns : goal.returns
returns c = record { bypassed = at-bypassed; behind = at-behind }
