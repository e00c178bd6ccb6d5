-- What is due at a count of records: a checkpoint once at each multiple of CHK, and a cancel behind a checkpoint that is due there.
use Rattle.std.proofs.Common.{◌≡◌, ℕ, Bool, true, false, ◌&&◌, not, refl, ap, sym, ◌∙◌, true≢false}
use Rattle.std.specs.Prelude.{if◌then◌else◌}
use Rattle.ckr_base.specs.declared.programs.NextDue.{NextDue}
use Rattle.ckr_base.specs.declared.programs.NextDue.TheVariants.{Unit as OneUnit, Checkpoint, Cancel, Finished}
use Rattle.ckr_meaning.specs.StepRun.{StepStart, work_at}
use Rattle.ckr_points.specs.Rows.{RunRow, TablesModel}
use Rattle.ckr_points.specs.RuleCases.{rd_in_effect}
use Rattle.ckr_programs.specs.Due.{is_cancel_count, is_checkpoint_count}
use Rattle.ckr_rules.specs.RuleTables.{suppresses}
use Rattle.ckr_desk_turn.specs.Checkpoints.{checkpoint_fits, checkpoint_try, checkpoint_turn, checkpoint_unless}
use Rattle.ckr_desk_turn.specs.Desk.{cancel_done, checkpoint_done}
use Rattle.ckr_desk_turn.specs.Due.{next_due, rc_by}
use Rattle.ckr_desk_turn.specs.Units.{StepProgress}

-- what is due where the step is closed or not, by whether a checkpoint comes at the count and is done, and a cancel
abbrev due_by : Bool → Bool → Bool → Bool → Bool → ℕ → NextDue
due_by closed comes done ends cancelled rc =
    if closed then Finished rc else (if comes && not done then Checkpoint else (if ends && not cancelled then Cancel else OneUnit))

pub record IsCheckpoint (closed comes done : Bool) : Type 0 where
  pub unclosed : closed ≡ false
  pub count : comes ≡ true
  pub undone : done ≡ false

is-checkpoint : (closed comes done ends cancelled : Bool) (rc : ℕ) → due_by closed comes done ends cancelled rc ≡ Checkpoint → IsCheckpoint closed comes done
is-checkpoint true comes done ends cancelled rc e = cc
is-checkpoint false true false ends cancelled rc e = record { unclosed = refl; count = refl; undone = refl }
is-checkpoint false true true true true rc e = cc
is-checkpoint false true true true false rc e = cc
is-checkpoint false true true false cancelled rc e = cc
is-checkpoint false false done true true rc e = cc
is-checkpoint false false done true false rc e = cc
is-checkpoint false false done false cancelled rc e = cc

from-checkpoint : (closed comes done ends cancelled : Bool) (rc : ℕ) → closed ≡ false → comes ≡ true → done ≡ false → due_by closed comes done ends cancelled rc ≡ Checkpoint
from-checkpoint true comes done ends cancelled rc unclosed count undone = cc
from-checkpoint false false done ends cancelled rc unclosed count undone = cc
from-checkpoint false true true ends cancelled rc unclosed count undone = cc
from-checkpoint false true false ends cancelled rc unclosed count undone = refl

pub record IsCancel (closed comes done ends cancelled : Bool) : Type 0 where
  pub unclosed : closed ≡ false
  pub count : ends ≡ true
  pub undone : cancelled ≡ false
  pub behind : (comes && not done) ≡ false

is-cancel : (closed comes done ends cancelled : Bool) (rc : ℕ) → due_by closed comes done ends cancelled rc ≡ Cancel → IsCancel closed comes done ends cancelled
is-cancel true comes done ends cancelled rc e = cc
is-cancel false true false ends cancelled rc e = cc
is-cancel false true true true true rc e = cc
is-cancel false true true true false rc e = record { unclosed = refl; count = refl; undone = refl; behind = refl }
is-cancel false true true false cancelled rc e = cc
is-cancel false false done true true rc e = cc
is-cancel false false done true false rc e = record { unclosed = refl; count = refl; undone = refl; behind = refl }
is-cancel false false done false cancelled rc e = cc

from-cancel : (closed comes done ends cancelled : Bool) (rc : ℕ) → closed ≡ false → (comes && not done) ≡ false → ends ≡ true → cancelled ≡ false → due_by closed comes done ends cancelled rc ≡ Cancel
from-cancel true comes done ends cancelled rc unclosed behind count undone = cc
from-cancel false true false ends cancelled rc unclosed behind count undone = cc
from-cancel false true true true true rc unclosed behind count undone = cc
from-cancel false true true true false rc unclosed behind count undone = refl
from-cancel false true true false cancelled rc unclosed behind count undone = cc
from-cancel false false done true true rc unclosed behind count undone = cc
from-cancel false false done true false rc unclosed behind count undone = refl
from-cancel false false done false cancelled rc unclosed behind count undone = cc

-- the next unit comes where the step isn't closed
is-open : (closed comes done ends cancelled : Bool) (rc : ℕ) → due_by closed comes done ends cancelled rc ≡ OneUnit → closed ≡ false
is-open true comes done ends cancelled rc e = cc
is-open false comes done ends cancelled rc e = refl

-- and its end with a return code where it is
pub record IsFinished (closed : Bool) (rc finished : ℕ) : Type 0 where
  pub closed_so : closed ≡ true
  pub code : rc ≡ finished

is-finished : (closed comes done ends cancelled : Bool) (rc finished : ℕ) → due_by closed comes done ends cancelled rc ≡ Finished finished → IsFinished closed rc finished
is-finished true comes done ends cancelled rc finished e = record { closed_so = refl; code = cc }
is-finished false true false ends cancelled rc finished e = cc
is-finished false true true true true rc finished e = cc
is-finished false true true true false rc finished e = cc
is-finished false true true false cancelled rc finished e = cc
is-finished false false done true true rc finished e = cc
is-finished false false done true false rc finished e = cc
is-finished false false done false cancelled rc finished e = cc

done-none : (comes : Bool) → (comes && not true) ≡ false
done-none true = refl
done-none false = refl

module _ (start : StepStart) where
  abbrev comes_at : StepProgress → Bool
  comes_at progress = is_checkpoint_count start.owned.step.parm progress.taken

  abbrev ends_at : StepProgress → Bool
  ends_at progress = is_cancel_count start.owned.step.parm progress.taken

  abbrev rc : ℕ
  rc = rc_by (work_at start).finish

  pub checkpoint-due : (progress : StepProgress) → progress.closed ≡ false → progress.checkpointed ≡ false → comes_at progress ≡ true → next_due start progress ≡ Checkpoint
  checkpoint-due progress unclosed undone count = from-checkpoint progress.closed (comes_at progress) progress.checkpointed (ends_at progress) progress.cancelled rc unclosed count undone

  pub checkpoint-only : (progress : StepProgress) → next_due start progress ≡ Checkpoint → IsCheckpoint progress.closed (comes_at progress) progress.checkpointed
  checkpoint-only progress e = is-checkpoint progress.closed (comes_at progress) progress.checkpointed (ends_at progress) progress.cancelled rc e

  pub cancel-due : (progress : StepProgress) → progress.closed ≡ false → progress.cancelled ≡ false → ends_at progress ≡ true → (comes_at progress && not progress.checkpointed) ≡ false → next_due start progress ≡ Cancel
  cancel-due progress unclosed undone count behind = from-cancel progress.closed (comes_at progress) progress.checkpointed (ends_at progress) progress.cancelled rc unclosed behind count undone

  pub cancel-only : (progress : StepProgress) → next_due start progress ≡ Cancel → IsCancel progress.closed (comes_at progress) progress.checkpointed (ends_at progress) progress.cancelled
  cancel-only progress e = is-cancel progress.closed (comes_at progress) progress.checkpointed (ends_at progress) progress.cancelled rc e

  pub unit-only : (progress : StepProgress) → next_due start progress ≡ OneUnit → progress.closed ≡ false
  unit-only progress e = is-open progress.closed (comes_at progress) progress.checkpointed (ends_at progress) progress.cancelled rc e

  pub finished-only : (progress : StepProgress) (finished : ℕ) → next_due start progress ≡ Finished finished → IsFinished progress.closed rc finished
  finished-only progress finished e = is-finished progress.closed (comes_at progress) progress.checkpointed (ends_at progress) progress.cancelled rc finished e

  -- whatever a checkpoint comes to, it is done then
  pub checkpoint-behind : (tables : TablesModel) (row : RunRow) (progress : StepProgress) → (checkpoint_turn tables row start progress).progress ≡ checkpoint_done progress
  checkpoint-behind tables row progress =
      elim (suppresses (rd_in_effect row start.number)) as (λ b. (checkpoint_unless b tables row start progress).progress ≡ checkpoint_done progress) [
        | true ↦ refl
        | false ↦
            elim (checkpoint_fits tables.sets row start progress) as (λ b. (checkpoint_try b tables row start progress).progress ≡ checkpoint_done progress) [
              | true ↦ refl
              | false ↦ refl
            ]
      ]

  pub checkpoint-once : (tables : TablesModel) (row : RunRow) (progress : StepProgress) → next_due start (checkpoint_turn tables row start progress).progress ≡ Checkpoint → ⊥
  checkpoint-once tables row progress e =
      let done : (checkpoint_turn tables row start progress).progress.checkpointed ≡ true = ap (λ (p : StepProgress). p.checkpointed) (checkpoint-behind tables row progress) in
      let its = checkpoint-only (checkpoint_turn tables row start progress).progress e in
      let undone : (checkpoint_turn tables row start progress).progress.checkpointed ≡ false = its.undone in
      true≢false (sym done ∙ undone)

  pub cancel-behind : (tables : TablesModel) (row : RunRow) (progress : StepProgress) → next_due start progress ≡ Checkpoint → ends_at progress ≡ true → progress.cancelled ≡ false → next_due start (checkpoint_turn tables row start progress).progress ≡ Cancel
  cancel-behind tables row progress e count undone =
      ap (next_due start) (checkpoint-behind tables row progress)
      ∙ cancel-due (checkpoint_done progress) (checkpoint-only progress e).unclosed undone count (done-none (comes_at progress))

  pub cancel-once : (progress : StepProgress) → next_due start (cancel_done progress) ≡ Cancel → ⊥
  cancel-once progress e =
      let its = cancel-only (cancel_done progress) e in
      let undone : true ≡ false = its.undone in
      true≢false undone
