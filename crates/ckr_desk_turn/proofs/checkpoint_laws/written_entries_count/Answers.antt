use Rattle.ckr_desk_turn.specs.Checkpoints.{entry_end}
use Rattle.ckr_desk_turn.proofs.Checkpoints.Bytes.{ending-size}
use Rattle.ckr_desk_turn.proofs.Checkpoints.Events.{cancel-count, counts-one}
use Rattle.ckr_desk_turn.proofs.checkpoint_laws.written_entries_count.Goals as goal

pub returns : goal.returns
returns c = record {
  count = counts-one;
  left = cancel-count;
  bytes = λ layout office step may. ending-size office.tables.sets may.going.row may.going.start step.progress (entry_end office.tables.sets may.going.row may.going.start step.progress) 0;
}
