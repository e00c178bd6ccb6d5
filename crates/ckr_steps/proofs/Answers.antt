-- What the code does of a unit is what the unit for its heads asks for.
use Rattle.std.proofs.Common.{◌≡◌, ℕ, ◌+◌, ap, ◌∙◌}
use Rattle.ckr_base.specs.declared.programs.Heads.{Heads}
use Rattle.ckr_base.specs.declared.programs.UnitDone.{UnitDone}
use Rattle.ckr_entry.specs.declared.point.State.{State}
use Rattle.ckr_library.specs.Catalog.{Catalog}
use Rattle.ckr_steps.specs.declared.step_run.StepRun.{StepRun}
use Rattle.ckr_steps.specs.Units.{unit_of, state_of, taken_of}
use Rattle.ckr_steps.specs.Writes.{answer_of, done_of, count_of}
use Rattle.ckr_steps.specs.StepUnit.{worked_for, behind_unit, done_for}

module _ (catalog : Catalog) (step : StepRun) (heads : Heads) (done : UnitDone) (state : State)
    (done_is : done ≡ unit_of step.parm step.state heads) (state_is : state ≡ state_of step.parm step.state heads) where
  pub answer_is : answer_of catalog step.files done.writes.items (taken_of state) done.finish ≡ worked_for catalog step heads
  unfolding worked_for
  answer_is =
      ap (λ (d : UnitDone). answer_of catalog step.files d.writes.items (taken_of state) d.finish) done_is
      ∙ ap (λ s. answer_of catalog step.files (unit_of step.parm step.state heads).writes.items (taken_of s) (unit_of step.parm step.state heads).finish) state_is

  abbrev stepped : State → ℕ → StepRun
  stepped s count = record { state = s; parm = step.parm; files = step.files; writes = step.writes + count }

  pub behind_is : (now : State) (count : ℕ) → now ≡ state → count ≡ count_of catalog step.files done.writes.items → stepped now count ≡ behind_unit catalog step heads
  unfolding behind_unit
  behind_is now count now_is is =
      ap (λ s. stepped s count) (now_is ∙ state_is)
      ∙ ap (λ n. stepped (state_of step.parm step.state heads) n) (is ∙ ap (λ (d : UnitDone). count_of catalog step.files d.writes.items) done_is)

  pub done_are : done_of catalog step.files done.writes.items ≡ done_for catalog step heads
  unfolding done_for
  done_are = ap (λ (d : UnitDone). done_of catalog step.files d.writes.items) done_is
