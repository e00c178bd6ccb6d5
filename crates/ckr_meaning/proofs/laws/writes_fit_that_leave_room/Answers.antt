use Rattle.ckr_meaning.proofs.FittingWrites.{fitting-all, fitting-some, fitting-front}
use Rattle.ckr_meaning.proofs.laws.writes_fit_that_leave_room.Goals as goal

pub returns : goal.returns
returns c = record { all = fitting-all; some = fitting-some; front = fitting-front }
