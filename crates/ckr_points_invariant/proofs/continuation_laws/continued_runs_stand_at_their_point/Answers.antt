use Rattle.ckr_points_invariant.proofs.Continuations.Events.{continued-at-entry, continued-at-start}
use Rattle.ckr_points_invariant.proofs.continuation_laws.continued_runs_stand_at_their_point.Goals as goal

pub returns : goal.returns
returns c = record {
  step = λ layout now job initiator before step deck other point are next. continued-at-start layout now are job initiator before step deck other point next;
  checkpoint = λ layout now job initiator before step deck row id entry are next. continued-at-entry layout now are job initiator before step deck row id entry next;
}
