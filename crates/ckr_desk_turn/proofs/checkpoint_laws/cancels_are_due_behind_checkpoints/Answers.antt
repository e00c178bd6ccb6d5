use Rattle.std.proofs.Common.{◌&&◌, not, ap}
use Rattle.std.proofs.lemmas.Bool.{and_from}
use Rattle.ckr_programs.specs.Due.{is_cancel_count, is_checkpoint_count}
use Rattle.ckr_desk_turn.proofs.Checkpoints.Due.{cancel-behind, cancel-due, cancel-once, cancel-only}
use Rattle.ckr_desk_turn.proofs.checkpoint_laws.cancels_are_due_behind_checkpoints.Goals as goal

pub returns : goal.returns
returns c = record {
  due = cancel-due;
  only = λ start progress e.
      and_from (is_cancel_count start.owned.step.parm progress.taken) (not (is_checkpoint_count start.owned.step.parm progress.taken && not progress.checkpointed))
      (cancel-only start progress e).count (ap not (cancel-only start progress e).behind);
  behind = cancel-behind;
  once = cancel-once;
}
