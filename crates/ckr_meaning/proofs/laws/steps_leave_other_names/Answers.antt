use Rattle.ckr_meaning.proofs.OtherNames.{within_at-other, disposed_at-other}
use Rattle.ckr_meaning.proofs.laws.steps_leave_other_names.Goals as goal

pub returns : goal.returns
returns c = record { within = within_at-other; disposed = disposed_at-other }
