use Rattle.ckr_desk_refines.proofs.Durable.Extents.{checkpointed-lie, rewritten-lie}
use Rattle.ckr_desk_refines.proofs.shared_sets.own_events_keep_where_data_sets_lie.Goals as goal

pub returns : goal.returns
returns c = record {
  checkpointed = λ layout now job taken writes place bytes id lengths deck kept may carried. checkpointed-lie layout now job taken writes place bytes id lengths deck kept may carried;
  rewritten = rewritten-lie;
}
