use Rattle.ckr_meaning.proofs.Fronts.{begin-case, begin-goes_on, begin-opened, begin-placed, begin-step, begin-walk, begin-within, begin-work}
use Rattle.ckr_meaning.proofs.laws.jobs_that_begin_alike_go_on_alike.Goals as goal

pub returns : goal.returns
returns c = record {
  step = λ count number first second one other alike. begin-step count first second one other alike number;
  walk = λ count number first second one other alike. begin-walk count first second one other alike number;
  goes = λ count number first second one other alike. begin-goes_on count first second one other alike number;
  opened = λ count number first second one other alike. begin-opened count first second one other alike number;
  within = λ count number writes first second one other alike. begin-within count first second one other alike number writes;
  placed = λ count number first second one other owned alike. begin-placed count first second one other alike number owned;
  work = λ count number first second one other owned alike. begin-work count first second one other alike number owned;
  case = λ count number first second one other owned alike. begin-case count first second one other alike number owned;
}
