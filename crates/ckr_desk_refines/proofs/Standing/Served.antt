-- A running step of which what is due is served, with no entry written, stands for that of the desk with the checkpoint or the cancel done.
use Rattle.std.proofs.Common.{◌≡◌, ◌&&◌, ℕ, Bool, true, false, not, if◌then◌else◌, List, ◌∷◌, find, refl, ap, sym, ◌∙◌, Option, Some, None}
use Rattle.std.specs.Prelude.{◌==◌}
use Rattle.std.specs.Option.{option_map_or}
use Rattle.std.proofs.lemmas.Bool.{false≢true}
use Rattle.ckr_base.specs.declared.programs.NextDue.{NextDue}
use Rattle.ckr_base.specs.declared.programs.NextDue.TheVariants.{Unit as OneUnit, Checkpoint, Cancel, Finished}
use Rattle.ckr_base.proofs.Options.{some-not-none}
use Rattle.ckr_base.proofs.Bools.{and-false}
use Rattle.ckr_desk_memory.specs.EventChanges.{is_of_run, served_in, served_step, without_first}
use Rattle.ckr_desk_memory.specs.View.{RunningStepView}
use Rattle.ckr_meaning.specs.StepRun.{StepStart, work_at}
use Rattle.ckr_points.specs.Office.{Office}
use Rattle.ckr_programs.specs.Due.{is_cancel_count, is_checkpoint_count}
use Rattle.ckr_steps.specs.Units.{AreServed, due_of, is_cancelled, is_checkpointed, served_of}
use Rattle.ckr_steps.proofs.Served.{cancel-served, checkpoint-served}
use Rattle.ckr_steps.proofs.Start.{served_stands}
use Rattle.ckr_desk_turn.specs.Desk.{DeskStep, cancel_done, checkpoint_done, with_change, without_run}
use Rattle.ckr_desk_turn.specs.Due.{next_due, rc_by}
use Rattle.ckr_desk_turn.specs.Units.{StepProgress}
use Rattle.ckr_volumes.specs.declared.layout.Layout.{Layout}
use Rattle.ckr_desk_refines.specs.Standing.{StandsForStep}
use Rattle.ckr_desk_refines.proofs.Standing.StepViews.{place-due}

-- ---- what comes before what

abbrev pub is_checkpoint_due : NextDue → Bool
is_checkpoint_due Checkpoint = true
is_checkpoint_due _ = false

abbrev is_cancel_due : NextDue → Bool
is_cancel_due Cancel = true
is_cancel_due _ = false

-- what is due, by whether the step is closed, and whether its checkpoint and its cancel are to come
abbrev due_by : ℕ → Bool → Bool → Bool → NextDue
due_by rc closed checkpoint cancel = if closed then Finished rc else (if checkpoint then Checkpoint else (if cancel then Cancel else OneUnit))

none-due : (rc : ℕ) (closed checkpoint cancel : Bool) → checkpoint ≡ false → is_checkpoint_due (due_by rc closed checkpoint cancel) ≡ true → ⊥
none-due rc true checkpoint cancel none due = false≢true due
none-due rc false true cancel none due = false≢true (sym none)
none-due rc false false true none due = false≢true due
none-due rc false false false none due = false≢true due

cancel-due : (rc : ℕ) (closed checkpoint cancel : Bool) → is_cancel_due (due_by rc closed checkpoint cancel) ≡ true → checkpoint ≡ false
cancel-due rc true checkpoint cancel due = absurd (false≢true due)
cancel-due rc false true cancel due = absurd (false≢true due)
cancel-due rc false false cancel due = refl

-- a checkpoint that is done isn't due
pub checkpoint-once : (start : StepStart) (progress : StepProgress) → next_due start (checkpoint_done progress) ≡ Checkpoint → ⊥
checkpoint-once start progress again =
    none-due (rc_by (work_at start).finish) progress.closed (is_checkpoint_count start.owned.step.parm progress.taken && false) (is_cancel_count start.owned.step.parm progress.taken && not progress.cancelled)
    (and-false (is_checkpoint_count start.owned.step.parm progress.taken)) (ap is_checkpoint_due again)

-- nor is one due behind a cancel
cancel-once : (start : StepStart) (progress : StepProgress) → next_due start progress ≡ Cancel → next_due start (cancel_done progress) ≡ Checkpoint → ⊥
cancel-once start progress due again =
    none-due (rc_by (work_at start).finish) progress.closed (is_checkpoint_count start.owned.step.parm progress.taken && not progress.checkpointed) (is_cancel_count start.owned.step.parm progress.taken && false)
    (cancel-due (rc_by (work_at start).finish) progress.closed (is_checkpoint_count start.owned.step.parm progress.taken && not progress.checkpointed) (is_cancel_count start.owned.step.parm progress.taken && not progress.cancelled) (ap is_cancel_due due))
    (ap is_checkpoint_due again)

-- ---- the step in memory

module _ (layout : Layout) (office : Office) (image : List ℕ) (on : RunningStepView) (step : DeskStep) (stands : StandsForStep layout office image on step) (none : on.code ≡ None) where
  served-so : (checkpointed cancelled : Bool) → AreServed checkpointed cancelled (served_of on.step.parm false on.step.state)
      → (next_due stands.start (record step.progress { checkpointed = checkpointed; cancelled = cancelled }) ≡ Checkpoint → cancelled ≡ false) → StandsForStep layout office image (served_step on) (record { run = step.run; progress = record step.progress { checkpointed = checkpointed; cancelled = cancelled }; code = None })
  served-so checkpointed cancelled served ordered = record {
    row = stands.row;
    row_at = stands.row_at;
    start = stands.start;
    start_at = stands.start_at;
    run = stands.run;
    code = none;
    stands = λ _. served_stands stands.start step.progress.taken step.progress.closed false on.step on.sets (stands.stands none);
    served = λ _. served;
    ordered = λ _. ordered;
    writes = stands.writes;
    stopped = λ code some. absurd (some-not-none code (sym some ∙ none));
    sets = stands.sets;
    named = stands.named;
    shows = stands.shows;
    checked = stands.checked;
  }

  pub checkpoint-stands : due_of on.step.parm on.step.state ≡ Checkpoint → StandsForStep layout office image (served_step on) (record { run = step.run; progress = checkpoint_done step.progress; code = None })
  checkpoint-stands due =
      let served : AreServed true (is_cancelled on.step.state) (served_of on.step.parm false on.step.state) = checkpoint-served on.step.parm false on.step.state due in
      served-so true step.progress.cancelled (record { checkpoint = served.checkpoint; cancel = served.cancel ∙ (stands.served none).cancel }) (λ again. absurd (checkpoint-once stands.start step.progress again))

  pub cancel-stands : due_of on.step.parm on.step.state ≡ Cancel → StandsForStep layout office image (served_step on) (record { run = step.run; progress = cancel_done step.progress; code = None })
  cancel-stands due =
      let served : AreServed (is_checkpointed on.step.state) true (served_of on.step.parm false on.step.state) = cancel-served on.step.parm false on.step.state due in
      served-so step.progress.checkpointed true (record { checkpoint = served.checkpoint ∙ (stands.served none).checkpoint; cancel = served.cancel })
      (λ again. absurd (cancel-once stands.start step.progress (sym (place-due stands.start step.progress on (stands.stands none) (stands.served none)) ∙ due) again))

-- ---- it stands before the others

pub served-first : (run : ℕ) (on : RunningStepView) (seen : List RunningStepView) → find (is_of_run run) seen ≡ Some on → served_in run seen ≡ served_step on ∷ without_first run seen
served-first run on seen found = ap (λ (o : Option RunningStepView). option_map_or (λ on. served_step on ∷ without_first run seen) o seen) found

pub changed-first : (run : ℕ) (change : StepProgress → StepProgress) (step : DeskStep) (running : List DeskStep) → find (λ (step : DeskStep). step.run == run) running ≡ Some step
    → with_change run change running ≡ record { run = run; progress = change step.progress; code = None } ∷ without_run run running
changed-first run change step running found =
    ap (λ (o : Option DeskStep). option_map_or (λ (step : DeskStep). record { run = run; progress = change step.progress; code = None } ∷ without_run run running) o running) found
