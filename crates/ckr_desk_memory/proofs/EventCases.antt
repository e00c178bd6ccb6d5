-- What is to be shown so that something holds of the tables behind each event that follows: a case for each thing that an event makes of its run.
use Rattle.std.proofs.Common.{◌≡◌, ◌||◌, ℕ, zero, suc, Bool, true, false, List, refl, sym, Option, Some, None}
use Rattle.std.proofs.lemmas.Bool.{false≢true}
use Rattle.ckr_base.specs.declared.code.Code.{Code}
use Rattle.ckr_events.specs.declared.event.Event.{Event}
use Rattle.ckr_events.specs.declared.event.Event.TheVariants.{Cancelled, Checkpointed, Denied, Ended, Held, Purged, Released, Restarted, Rewritten, Selected, Started, StepEnded, Submitted}
use Rattle.ckr_events.specs.declared.event.Made.{Made}
use Rattle.ckr_events.specs.Jobs.{job_of}
use Rattle.ckr_jcl.specs.declared.deck.Job.{Job}
use Rattle.ckr_library.specs.NameMaps.{Name}
use Rattle.ckr_meaning.specs.EffectiveJob.{OwnedStep}
use Rattle.ckr_points.specs.declared.run.RunState.{RunState}
use Rattle.ckr_points.specs.declared.run.RunState.TheVariants.{Queued, Held as HeldRun, Released as ReleasedRun, Denied as DeniedRun, Purged as PurgedRun}
use Rattle.ckr_points.specs.Follows.{follows, is_in_state, is_running, own_step}
use Rattle.ckr_points.specs.Marks.{point_at, with_point}
use Rattle.ckr_points.specs.Office.{is_holder}
use Rattle.ckr_points.specs.Restart.{after_event, after_passed_ended, after_put_back, after_restarted, back_to_entry, back_to_start, by_step, effect_restarted, kept_at, place_of, point_restarted, row_on, step_in}
use Rattle.ckr_points.specs.Rows.{EffectPoint, KeptEntry, RunRow, StartPoint, TablesModel, run_of, with_run}
use Rattle.ckr_points.specs.Tables.{after_cancelled, after_checkpointed, after_held, after_rewritten, after_selected, after_started, after_step_ended}
use Rattle.ckr_points_invariant.specs.EarlierRuns.{continues}
use Rattle.ckr_points_tables.specs.Invariant.{is_submission}
use Rattle.ckr_volumes.specs.declared.layout.Layout.{Layout}
use Rattle.ckr_desk_memory.proofs.EventRows.{IsAtHand, IsBetween, IsChecking, IsRefused, IsRestarting, IsRewriting, IsSelected, IsStarting, IsStepDone, after_end_with, after_end_within, by-cancelled, by-checkpointed, by-denied, by-ended, by-held, by-purged, by-released, by-restarted, by-rewritten, by-selected, by-started, by-step_ended}
use Rattle.ckr_desk_memory.proofs.Runs.{by-step}

-- whether an event holds its run with this code
abbrev pub HoldsWith : Event → Code → Type 0
HoldsWith (Held job code writes lengths) held = held ≡ code
HoldsWith _ held = ⊥

-- a run that is restarted was running, or was released
abbrev pub IsHand : RunRow → Type 0
IsHand row = (is_running row || is_in_state ReleasedRun row) ≡ true

-- of a run that is there
pub record RunCases (layout : Layout) (tables : TablesModel) (event : Event) (Q : TablesModel → Type 0) : Type 0 where
  -- one that waits comes to an initiator, is purged, or its restart is denied
  pub selected : (initiator : ℕ) (row : RunRow) → IsSelected tables (job_of event) row → Q (after_selected row initiator tables)
  pub gone :
      (row : RunRow) (state : RunState) → run_of tables (job_of event) ≡ Some row → is_in_state Queued row ≡ true → is_holder state ≡ false → is_in_state Queued (record row { state = state }) ≡ false
      → Q (with_run (record row { state = state }) tables)
  -- a step starts, a record is rewritten, a checkpoint is taken, and the request for restarts is withdrawn
  pub started : (step : ℕ) (items : List Made) (row : RunRow) (owned : OwnedStep) → IsStarting layout tables (job_of event) step items row owned → Q (after_started row owned step items tables)
  pub rewritten :
      (writes place : ℕ) (lengths image : List ℕ) (row : RunRow) (owned : OwnedStep) → IsRewriting tables (job_of event) row owned place lengths image → Q (after_rewritten row owned (step_in (place_of row)) writes lengths tables)
  pub checkpointed :
      (taken writes place bytes : ℕ) (id : Name) (lengths : List ℕ) (row : RunRow) (owned : OwnedStep) → IsChecking tables (job_of event) row owned id place bytes lengths
      → Q (after_checkpointed row owned (step_in (place_of row)) (record { id = id; run = job_of event; place = place; bytes = bytes }) taken writes lengths tables)
  pub withdrawn : (row : RunRow) → run_of tables (job_of event) ≡ Some row → is_running row ≡ true → Q (after_cancelled row tables)
  -- the step ends, and the next one is ahead
  pub step_done : (rc writes : ℕ) (lengths : List ℕ) (row : RunRow) (owned : OwnedStep) → IsStepDone tables (job_of event) row owned lengths → Q (after_step_ended row owned (step_in (place_of row)) rc writes lengths tables)
  -- the operator holds it in its step, and releases it
  pub held :
      (code : Code) (writes : ℕ) (lengths : List ℕ) (row : RunRow) (owned : OwnedStep) → HoldsWith event code → IsAtHand tables (job_of event) row owned lengths
      → Q (after_held row owned (step_in (place_of row)) code writes lengths tables)
  pub released : (row : RunRow) → run_of tables (job_of event) ≡ Some row → is_in_state HeldRun row ≡ true → Q (with_run (record row { state = ReleasedRun }) tables)
  -- it goes back to the start of its step, or to the checkpoint in effect, unless there is none
  pub restarted :
      (initiator : ℕ) (row : RunRow) (owned : OwnedStep) (point : StartPoint) → run_of tables (job_of event) ≡ Some row → IsHand row → own_step row ≡ Some owned → point_at row.points (step_in (place_of row)) ≡ Some point
      → Q (after_put_back (record (row_on initiator row) { points = with_point (point_restarted point) row.points; in_effect = None }) owned (back_to_start row owned (step_in (place_of row)) point) tables)
  pub goes_back :
      (initiator : ℕ) (row : RunRow) (owned : OwnedStep) (effect : EffectPoint) (entry : KeptEntry) → run_of tables (job_of event) ≡ Some row → IsHand row → own_step row ≡ Some owned → row.in_effect ≡ Some effect → kept_at tables.sets effect.set effect.kept.id ≡ Some entry
      → Q (after_put_back (record (row_on initiator row) { in_effect = Some (effect_restarted effect) }) owned (back_to_entry row owned (step_in (place_of row)) entry.point) tables)
  pub unmoved : (row : RunRow) → run_of tables (job_of event) ≡ Some row → IsHand row → Q tables
  -- it ends: between its steps, with a code, and since its step isn't allocated
  pub ended : (row : RunRow) → IsBetween tables (job_of event) row → Q (after_passed_ended row tables)
  pub coded : (writes : ℕ) (lengths : List ℕ) (row : RunRow) (owned : OwnedStep) → IsAtHand tables (job_of event) row owned lengths → Q (after_end_with row owned writes lengths tables)
  pub refused : (row : RunRow) (owned : OwnedStep) → IsRefused tables (job_of event) row owned → Q (after_end_within row owned (step_in (place_of row)) tables)

module _ (Q : TablesModel → Type 0) (layout : Layout) (tables : TablesModel) where
  by-restart : (job initiator : ℕ) (code : Code) (checkpoint : Bool) → RunCases layout tables (Restarted job initiator code checkpoint) Q → (row : RunRow) → IsRestarting tables job row checkpoint
      → Q (by_step (λ owned step. after_restarted row owned step initiator checkpoint tables) row tables)
  by-restart job initiator code true cases row its =
      by-step Q tables (own_step row) _ (cases.unmoved row its.row_at its.hand)
      (λ owned found.
      by-step Q tables row.in_effect _ (cases.unmoved row its.row_at its.hand)
      (λ effect now.
      by-step Q tables (kept_at tables.sets effect.set effect.kept.id) _ (cases.unmoved row its.row_at its.hand)
      (λ entry kept. cases.goes_back initiator row owned effect entry its.row_at its.hand found now kept)))
  by-restart job initiator code false cases row its =
      by-step Q tables (own_step row) _ (cases.unmoved row its.row_at its.hand)
      (λ owned found.
      by-step Q tables (point_at row.points (step_in (place_of row))) _ (cases.unmoved row its.row_at its.hand) (λ point began. cases.restarted initiator row owned point its.row_at its.hand found began))

  -- it holds behind one more event of a run, which continues no other one by it
  pub by-run-cases : (event : Event) (deck : Option Job) → is_submission event ≡ false → continues event ≡ false → follows layout tables event deck ≡ true → RunCases layout tables event Q → Q (after_event event deck tables)
  by-run-cases (Submitted job cards) deck other plain follow cases = absurd (false≢true (sym other))
  by-run-cases (Selected job initiator zero step id) deck other plain follow cases = by-selected Q layout tables job deck initiator step id follow (cases.selected initiator)
  by-run-cases (Selected job initiator (suc before) step id) deck other plain follow cases = absurd (false≢true (sym plain))
  by-run-cases (Denied job rule name) deck other plain follow cases = by-denied Q layout tables job deck rule name follow (λ row at queued. cases.gone row DeniedRun at queued refl refl)
  by-run-cases (Started job step items) deck other plain follow cases = by-started Q layout tables job deck step items follow (cases.started step items.items)
  by-run-cases (Rewritten job taken writes lengths place image) deck other plain follow cases = by-rewritten Q layout tables job deck taken writes place lengths image follow (cases.rewritten writes place lengths.items image)
  by-run-cases (Checkpointed job id taken writes lengths place bytes) deck other plain follow cases =
      by-checkpointed Q layout tables job deck taken writes place bytes id lengths follow (cases.checkpointed taken writes place bytes id lengths.items)
  by-run-cases (Cancelled job) deck other plain follow cases = by-cancelled Q layout tables job deck follow cases.withdrawn
  by-run-cases (StepEnded job step rc writes lengths) deck other plain follow cases = by-step_ended Q layout tables job deck step rc writes lengths follow (cases.step_done rc writes lengths.items)
  by-run-cases (Restarted job initiator code checkpoint) deck other plain follow cases = by-restarted Q layout tables job deck initiator code checkpoint follow (by-restart job initiator code checkpoint cases)
  by-run-cases (Held job code writes lengths) deck other plain follow cases = by-held Q layout tables job deck code writes lengths follow (λ row owned its. cases.held code writes lengths.items row owned refl its)
  by-run-cases (Released job) deck other plain follow cases = by-released Q layout tables job deck follow cases.released
  by-run-cases (Ended job ending) deck other plain follow cases = by-ended Q layout tables job deck ending follow cases.ended cases.coded cases.refused
  by-run-cases (Purged job) deck other plain follow cases = by-purged Q layout tables job deck follow (λ row at queued. cases.gone row PurgedRun at queued refl refl)
