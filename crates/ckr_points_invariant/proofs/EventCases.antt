-- What is to be shown so that something holds behind each event by which no run goes back: a case for each thing that an event makes of its run.
use Rattle.std.proofs.Common.{◌≡◌, ℕ, zero, suc, true, false, List, length, refl, sym, Option, Some, None}
use Rattle.std.proofs.lemmas.Bool.{false≢true}
use Rattle.arrayvec.specs.ArrayVec.{ArrayVec}
use Rattle.ckr_base.specs.declared.code.Code.{Code}
use Rattle.ckr_events.specs.declared.event.Event.{Event}
use Rattle.ckr_events.specs.declared.event.Event.TheVariants.{Cancelled, Checkpointed, Denied, Ended, Held, Purged, Released, Restarted, Rewritten, Selected, Started, StepEnded, Submitted}
use Rattle.ckr_events.specs.declared.event.Ending.TheVariants.{Allocation, Coded, Completed}
use Rattle.ckr_events.specs.declared.event.Made.{Made}
use Rattle.ckr_jcl.specs.declared.deck.Job.{Job}
use Rattle.ckr_library.specs.NameMaps.{Name, taken_over}
use Rattle.ckr_meaning.specs.EffectiveJob.{OwnedStep}
use Rattle.ckr_meaning.specs.JobRun.{job_run}
use Rattle.ckr_volumes.specs.declared.layout.Layout.{Layout}
use Rattle.ckr_points.specs.declared.run.RunState.{RunState}
use Rattle.ckr_points.specs.declared.run.RunState.TheVariants.{Queued, Released as ReleasedRun, Denied as DeniedRun, Purged as PurgedRun}
use Rattle.ckr_points.specs.Events.{IsNext}
use Rattle.ckr_points.specs.Follows.{is_in_state, is_within, may_hold}
use Rattle.ckr_points.specs.Office.{Leg, Office, cut_of, is_holder, office_after}
use Rattle.ckr_points.specs.Payload.{is_orderly}
use Rattle.ckr_points.specs.Restart.{after_ended, place_of}
use Rattle.ckr_points.specs.Rows.{RunRow, run_of, with_run}
use Rattle.ckr_points.specs.Tables.{after_cancelled, after_checkpointed, after_held, after_rewritten, after_started, after_step_ended}
use Rattle.ckr_points_invariant.specs.Continuations.{goes_back}
use Rattle.ckr_points_invariant.specs.Invariant.{IsAgreed, IsHolder, step_now}
use Rattle.ckr_points_invariant.proofs.EventRows.{IsChecking, IsCommitting, IsHeld, IsRefused, IsRewriting, IsStepDone, IsThrough, by-allocation, by-cancelled, by-checkpointed, by-coded, by-completed, by-denied, by-held, by-purged, by-released, by-rewritten, by-step_ended, by-submitted, submitted}
use Rattle.ckr_points_invariant.proofs.OtherRuns.Sets.{LeavesApart, apart-allocation, apart-checkpointed, apart-coded, apart-completed, apart-held, apart-rewritten, apart-started, apart-step_ended}
use Rattle.ckr_points_invariant.proofs.Select.Invariant.{chosen}
use Rattle.ckr_points_invariant.proofs.Start.Event.{StartsNow, by-start}
use Rattle.ckr_points_invariant.proofs.WaitingRuns.{by-selected}

-- of a run that is there
pub record RunCases (layout : Layout) (now : Office) (kept : IsAgreed layout now) (Q : Office → Type 0) : Type 0 where
  -- one that waits is purged, or its restart is denied
  pub gone :
      (job : ℕ) (row : RunRow) (state : RunState) → run_of now.tables job ≡ Some row → is_in_state Queued row ≡ true → is_holder state ≡ false → is_in_state Queued (record row { state = state }) ≡ false
      → Q (record now { tables = with_run (record row { state = state }) now.tables })
  -- it comes to an initiator
  pub selected :
      (row : RunRow) (initiator : ℕ) (row_at : run_of now.tables row.number ≡ Some row) (queued : is_in_state Queued row ≡ true) (plain : row.deck.restart ≡ None) (free : may_hold now.tables row ≡ true)
      → Q (chosen layout now row initiator kept row_at queued plain free)
  -- a step starts, a record is rewritten, a checkpoint is taken, and the request for restarts is withdrawn
  pub started :
      (job step : ℕ) (items : List Made) (row : RunRow) (leg : Leg) (owned : OwnedStep) → StartsNow layout now job row leg owned step items → LeavesApart now job (after_started row owned step items now.tables).sets
      → Q (record now { tables = after_started row owned step items now.tables })
  pub rewritten :
      (job taken writes place : ℕ) (lengths image : List ℕ) (row : RunRow) (leg : Leg) (owned : OwnedStep) → IsRewriting now job row leg owned taken writes place lengths image → LeavesApart now job (after_rewritten row owned (step_now row) writes lengths now.tables).sets
      → Q (record now { tables = after_rewritten row owned (step_now row) writes lengths now.tables })
  pub checkpointed :
      (job taken writes place bytes : ℕ) (id : Name) (lengths : List ℕ) (row : RunRow) (leg : Leg) (owned : OwnedStep) → IsChecking now job row leg owned id taken writes place bytes lengths
      → LeavesApart now job (after_checkpointed row owned (step_now row) (record { id = id; run = job; place = place; bytes = bytes }) taken writes lengths now.tables).sets
      → Q (record now { tables = after_checkpointed row owned (step_now row) (record { id = id; run = job; place = place; bytes = bytes }) taken writes lengths now.tables })
  pub withdrawn : (job : ℕ) (row : RunRow) (leg : Leg) → IsHolder now job row leg → is_within (place_of row) ≡ true → Q (record now { tables = after_cancelled row now.tables })
  -- the step ends, and the next one is ahead
  pub step_done :
      (job rc writes : ℕ) (lengths : List ℕ) (row : RunRow) (leg : Leg) (owned : OwnedStep) → IsStepDone now job row leg owned rc writes lengths → LeavesApart now job (after_step_ended row owned (step_now row) rc writes lengths now.tables).sets
      → Q (record now { tables = after_step_ended row owned (step_now row) rc writes lengths now.tables })
  -- the operator holds it in its step, and releases it
  pub held :
      (job writes : ℕ) (code : Code) (lengths : List ℕ) (row : RunRow) (leg : Leg) (owned : OwnedStep) → IsCommitting now job row leg owned writes lengths → LeavesApart now job (after_held row owned (step_now row) code writes lengths now.tables).sets
      → Q (record now { tables = after_held row owned (step_now row) code writes lengths now.tables })
  pub released : (job : ℕ) (row : RunRow) (leg : Leg) → IsHeld now job row leg → Q (record now { tables = with_run (record row { state = ReleasedRun }) now.tables })
  -- it ends: behind its last step, with a code, and since its step isn't allocated
  pub through :
      (job : ℕ) (row : RunRow) (leg : Leg) → IsThrough now job row leg → LeavesApart now job (after_ended row Completed now.tables).sets
      → Q (record now { tables = after_ended row Completed now.tables; library = taken_over leg.reach (job_run leg.job leg.start None) now.library })
  pub coded :
      (job rule writes : ℕ) (code : Code) (lengths : ArrayVec ℕ) (row : RunRow) (leg : Leg) (owned : OwnedStep) → IsCommitting now job row leg owned writes lengths.items → LeavesApart now job (after_ended row (Coded code rule writes lengths) now.tables).sets
      → Q (record now { tables = after_ended row (Coded code rule writes lengths) now.tables; library = taken_over leg.reach (job_run leg.job leg.start (cut_of row (Coded code rule writes lengths))) now.library })
  pub refused :
      (job dd cause first second : ℕ) (row : RunRow) (leg : Leg) (owned : OwnedStep) → IsRefused now job row leg owned → LeavesApart now job (after_ended row (Allocation dd cause first second) now.tables).sets
      → Q (record now { tables = after_ended row (Allocation dd cause first second) now.tables; library = taken_over leg.reach (job_run leg.job leg.start (Some (place_of row))) now.library })

-- and of one that comes
pub record EventCases (layout : Layout) (now : Office) (kept : IsAgreed layout now) (Q : Office → Type 0) : Type 0 where
  pub comes : (deck : Job) → is_orderly (suc (length now.tables.runs)) deck ≡ true → Q (submitted now deck)
  pub runs : RunCases layout now kept Q

-- an event of a run that is there
abbrev pub IsOfRun : Event → Type 0
IsOfRun (Submitted job cards) = ⊥
IsOfRun _ = Unit {0}

-- it holds behind one more event
module _ (Q : Office → Type 0) (layout : Layout) (now : Office) (kept : IsAgreed layout now) (cases : RunCases layout now kept Q) where
  pub by-run-cases : (event : Event) (deck : Option Job) → IsOfRun event → goes_back event ≡ false → IsNext layout now (event, deck) → Q (office_after (event, deck) now)
  by-run-cases (Submitted job cards) deck there on next = absurd there
  by-run-cases (Selected job initiator zero step id) deck there on next = by-selected Q layout now job initiator step id deck kept next.may (λ row row_at queued plain free. cases.selected row initiator row_at queued plain free)
  by-run-cases (Selected job initiator (suc before) step id) deck there on next = absurd (false≢true (sym on))
  by-run-cases (Denied job rule name) deck there on next = by-denied Q layout now kept job rule name deck next (λ row e queued. cases.gone job row DeniedRun e queued refl refl)
  by-run-cases (Started job step items) deck there on next =
      by-start Q layout now job step items deck kept next.may next.carried
      (λ row leg owned starts. cases.started job step items.items row leg owned starts (apart-started layout now kept job step items.items row leg owned starts))
  by-run-cases (Rewritten job taken writes lengths place image) deck there on next =
      by-rewritten Q layout now kept job taken writes place lengths image deck next
      (λ row leg owned its. cases.rewritten job taken writes place lengths.items image row leg owned its (apart-rewritten layout now kept job taken writes place lengths.items image row leg owned its))
  by-run-cases (Checkpointed job id taken writes lengths place bytes) deck there on next =
      by-checkpointed Q layout now kept job taken writes place bytes id lengths deck next
      (λ row leg owned its. cases.checkpointed job taken writes place bytes id lengths.items row leg owned its (apart-checkpointed layout now kept job taken writes place bytes id lengths.items row leg owned its))
  by-run-cases (Cancelled job) deck there on next = by-cancelled Q layout now kept job deck next (λ row leg holder within. cases.withdrawn job row leg holder within)
  by-run-cases (StepEnded job step rc writes lengths) deck there on next =
      by-step_ended Q layout now kept job step rc writes lengths deck next
      (λ row leg owned its. cases.step_done job rc writes lengths.items row leg owned its (apart-step_ended layout now kept job rc writes lengths.items row leg owned its))
  by-run-cases (Restarted job initiator code checkpoint) deck there on next = absurd (false≢true (sym on))
  by-run-cases (Held job code writes lengths) deck there on next =
      by-held Q layout now kept job writes code lengths deck next
      (λ row leg owned its. cases.held job writes code lengths.items row leg owned its (apart-held layout now kept job writes code lengths.items row leg owned its))
  by-run-cases (Released job) deck there on next = by-released Q layout now kept job deck next (λ row leg its. cases.released job row leg its)
  by-run-cases (Ended job Completed) deck there on next =
      by-completed Q layout now kept job deck next (λ row leg its. cases.through job row leg its (apart-completed layout now kept job row leg its))
  by-run-cases (Ended job (Coded code rule writes lengths)) deck there on next =
      by-coded Q layout now kept job rule writes code lengths deck next
      (λ row leg owned its. cases.coded job rule writes code lengths row leg owned its (apart-coded layout now kept job rule writes code lengths row leg owned its))
  by-run-cases (Ended job (Allocation dd cause first second)) deck there on next =
      by-allocation Q layout now kept job dd cause first second deck next
      (λ row leg owned its. cases.refused job dd cause first second row leg owned its (apart-allocation layout now kept job dd cause first second row leg owned its))
  by-run-cases (Purged job) deck there on next = by-purged Q layout now kept job deck next (λ row e queued. cases.gone job row PurgedRun e queued refl refl)

pub by-cases : (Q : Office → Type 0) (layout : Layout) (now : Office) (kept : IsAgreed layout now) → EventCases layout now kept Q → (event : Event) (deck : Option Job) → goes_back event ≡ false → IsNext layout now (event, deck) → Q (office_after (event, deck) now)
by-cases Q layout now kept cases (Submitted job cards) deck on next = by-submitted Q layout now job cards deck next cases.comes
by-cases Q layout now kept cases event deck on next = by-run-cases Q layout now kept cases.runs event deck tt on next
