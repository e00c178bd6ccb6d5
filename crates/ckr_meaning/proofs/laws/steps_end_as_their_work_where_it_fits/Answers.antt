use Rattle.ckr_meaning.proofs.FittingWrites.{work_at-all, finish-work_at}
use Rattle.ckr_meaning.proofs.laws.steps_end_as_their_work_where_it_fits.Goals as goal

pub returns : goal.returns
returns c = record { all = work_at-all; some = finish-work_at }
