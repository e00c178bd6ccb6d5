-- What a running step is to do next, by its PARM and by how far it has come.
use Rattle.std.specs.Prelude.{ℕ}
use Rattle.ckr_base.specs.declared.programs.Finish.{Finish}
use Rattle.ckr_base.specs.declared.programs.Finish.TheVariants.{Returned, Abend}
use Rattle.ckr_base.specs.declared.programs.NextDue.{NextDue}
use Rattle.ckr_meaning.specs.StepRun.{StepStart, work_at}
use Rattle.ckr_programs.specs.Due.{due_at}
use Rattle.ckr_desk_turn.specs.Units.{StepProgress}

-- the return code of a program that has returned
abbrev pub rc_by : Finish → ℕ
rc_by (Returned rc) = rc
rc_by (Abend code) = 0

abbrev pub next_due : StepStart → StepProgress → NextDue
next_due start progress = due_at start.owned.step.parm (record {
  taken = progress.taken;
  checkpointed = progress.checkpointed;
  cancelled = progress.cancelled;
  closed = progress.closed;
  return_code = rc_by (work_at start).finish;
})
