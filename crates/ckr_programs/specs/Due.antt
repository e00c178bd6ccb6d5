-- What a step is to do next: checkpoints, and their cancelling, come at counts of records.
use Rattle.std.specs.Prelude.{ℕ, ◌%◌, ◌==◌, ◌&&◌, not, Bool, if◌then◌else◌}
use Rattle.ckr_base.specs.declared.programs.NextDue.{NextDue}
use Rattle.ckr_base.specs.declared.programs.NextDue.TheVariants.{Unit as OneUnit, Checkpoint, Cancel, Finished}
use Rattle.ckr_jcl.specs.declared.deck.Parm.{Parm}
use Rattle.ckr_programs.specs.declared.counts.DueState.{DueState}

-- with `CHK=n` at each multiple of n, once a record is taken
abbrev pub is_checkpoint_count : Parm → ℕ → Bool
is_checkpoint_count parm taken = not (parm.chk == 0) && not (taken == 0) && taken % parm.chk == 0

-- with `CANCEL=m` at m
abbrev pub is_cancel_count : Parm → ℕ → Bool
is_cancel_count parm taken = not (parm.cancel == 0) && taken == parm.cancel

-- a closed program has ended; a checkpoint comes before a cancel, and both come before the next unit
abbrev pub due_at : Parm → DueState → NextDue
due_at parm state =
    if state.closed then Finished state.return_code
    else (if is_checkpoint_count parm state.taken && not state.checkpointed then Checkpoint
    else (if is_cancel_count parm state.taken && not state.cancelled then Cancel
    else OneUnit))
