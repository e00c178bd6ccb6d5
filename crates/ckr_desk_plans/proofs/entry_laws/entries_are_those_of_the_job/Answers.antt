use Rattle.std.proofs.Common.{ap}
use Rattle.ckr_points_tables.specs.Checkpoint.{checkpoint_name}
use Rattle.ckr_desk_plans.proofs.EntryModels.{entry-same, event-same, next-same}
use Rattle.ckr_desk_plans.proofs.entry_laws.entries_are_those_of_the_job.Goals as goal

pub returns : goal.returns
returns c = record {
  entry = entry-same;
  fits = next-same;
  event = λ tables row start on progress check table far. event-same tables row start on progress far check table;
  set = λ row start root. ap (λ n. checkpoint_name n start.owned) root;
}
