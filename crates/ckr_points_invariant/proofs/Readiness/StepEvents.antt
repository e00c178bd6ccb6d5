-- One more event of a run in its step leaves all runs ready to restart.
use Rattle.std.proofs.Common.{◌≡◌, ℕ, suc, true, false, List, ◌∷◌, ◌++◌, refl, sym, ◌∙◌, subst, Option, Some, None, []}
use Rattle.std.proofs.lemmas.Bool.{false≢true}
use Rattle.ckr_base.specs.declared.code.Code.{Code}
use Rattle.ckr_base.proofs.Bools.{and-first}
use Rattle.ckr_base.proofs.Options.{some-one}
use Rattle.ckr_events.specs.declared.event.Event.TheVariants.{Restarted}
use Rattle.ckr_events.specs.declared.event.Made.{Made}
use Rattle.ckr_jcl.specs.declared.deck.Job.{Job}
use Rattle.ckr_library.specs.NameMaps.{Name, Named}
use Rattle.ckr_meaning.specs.EffectiveJob.{OwnedStep, names_of}
use Rattle.ckr_meaning.specs.declared.place.Place.TheVariants.{Before, Opened, Within}
use Rattle.ckr_volumes.specs.declared.layout.Layout.{Layout}
use Rattle.ckr_points_library.specs.Commit.{output_names}
use Rattle.ckr_points.specs.declared.run.RunState.TheVariants.{Queued, Held as HeldRun}
use Rattle.ckr_points.specs.Follows.{is_in_state, is_update}
use Rattle.ckr_points.specs.Marks.{point_at, put_back}
use Rattle.ckr_points.specs.Office.{Leg, Office, is_holder, leg_of, office_after}
use Rattle.ckr_points.specs.Payload.{carries}
use Rattle.ckr_points.specs.Restart.{kept_at}
use Rattle.ckr_points.specs.Rows.{KeptEntry, RunRow, StartPoint, TableSet, TablesModel, step_of_run, with_run, run_of}
use Rattle.ckr_points.specs.Soundness.{may_come}
use Rattle.ckr_points.specs.Tables.{after_checkpointed, after_dispositions, after_held, after_rewritten, after_step_ended, committed, after_started}
use Rattle.ckr_points_invariant.specs.Invariant.{IsAgreed, IsHolder, step_now}
use Rattle.ckr_points_invariant.specs.Points.{ArePointed}
use Rattle.ckr_points_invariant.proofs.Holders.Rows.{holder-waits, run-other, run-same}
use Rattle.ckr_points_invariant.specs.Readiness.{AreReady, IsCheck, IsReady}
use Rattle.ckr_points_invariant.proofs.OtherRuns.Sets.{LeavesApart}
use Rattle.ckr_points_invariant.proofs.Readiness.Checkpoints.{checked-ready, checked_row, checked_sets}
use Rattle.ckr_points_invariant.proofs.Readiness.Commits.{committed-ready}
use Rattle.ckr_points_invariant.proofs.Readiness.Office.{entries-restorable, step-point, steps-restorable}
use Rattle.ckr_points_invariant.proofs.Readiness.Runs.{kept-entry, ready-outside}
use Rattle.ckr_points_invariant.proofs.Readiness.Restarts.{restarted-ready}
use Rattle.ckr_points_invariant.proofs.Readiness.Rewrites.{rewritten-ready, rewritten_row, rewritten_sets}
use Rattle.ckr_points_invariant.proofs.Readiness.Rows.{ready-moved, ready-with}
use Rattle.ckr_points_invariant.proofs.Readiness.Starts.{started-ready, started_row, started_sets}
use Rattle.ckr_points_invariant.proofs.Restart.Event.{by-run, entry-by, entry-left, row_back, row_then, sets_then, sets_then_back, start-by, start-left}
use Rattle.ckr_points_invariant.proofs.Restart.Verdicts.{check-unwritten}
use Rattle.ckr_points_invariant.specs.Restorability.{HasPoint}
use Rattle.ckr_points_invariant.proofs.EventRows.{IsChecking, IsCommitting, IsRewriting}
use Rattle.ckr_points_invariant.proofs.Start.Event.{StartsNow}

module _ (layout : Layout) (now : Office) (kept : IsAgreed layout now) (pointed : ArePointed now) (ready : AreReady now) where
  -- what holds of a run's leg holds of any that it has
  its-leg : (job : ℕ) (row : RunRow) (leg : Leg) (P : Leg → Type 0) → IsHolder now job row leg → P leg → (its : Leg) → leg_of now job ≡ Some its → P its
  its-leg job row leg P holder it its led = subst P (some-one leg its (leg_of now job) holder.leg_at led) it

  -- a holder isn't queued
  not-queued : {A : Type 0} (next : RunRow) → is_holder next.state ≡ true → is_in_state Queued next ≡ true → A
  not-queued next holds queued = absurd (false≢true (sym (holder-waits next.state holds) ∙ queued))

  points-of : (job : ℕ) (row : RunRow) (leg : Leg) → IsHolder now job row leg → (point : StartPoint) → point_at row.points (step_now row) ≡ Some point → HasPoint leg (Opened (step_now row)) point.marks point.passed
  points-of job row leg holder point got = step-point layout now job row leg point kept pointed holder got

  -- ---- a step starts

  pub ready-started : (job step : ℕ) (items : List Made) (row : RunRow) (leg : Leg) (owned : OwnedStep) → StartsNow layout now job row leg owned step items → LeavesApart now job (after_started row owned step items now.tables).sets → AreReady (record now { tables = after_started row owned step items now.tables })
  ready-started job step items row leg owned starts apart =
      let next : RunRow = started_row layout now job row leg owned step items kept starts (ready.runs job row leg starts.holder) in
      let sets : Named TableSet = started_sets layout now job row leg owned step items kept starts (ready.runs job row leg starts.holder) in
      ready-moved layout now kept pointed ready job row next sets now.library starts.holder.row_at refl apart
      (λ its there. its-leg job row leg (IsReady sets next) starts.holder (started-ready layout now job row leg owned step items kept starts (ready.runs job row leg starts.holder)) its there.leg_at)
      (not-queued next starts.holds)

  -- ---- lengths are committed

  pub ready-held : (job writes : ℕ) (code : Code) (lengths : List ℕ) (row : RunRow) (leg : Leg) (owned : OwnedStep) → IsCommitting now job row leg owned writes lengths → LeavesApart now job (after_held row owned (step_now row) code writes lengths now.tables).sets → AreReady (record now { tables = after_held row owned (step_now row) code writes lengths now.tables })
  ready-held job writes code lengths row leg owned its apart =
      let holder = its.at.running.holder in
      let next : RunRow = record row { state = HeldRun; initiator = None; code = Some code; place = Some (Within (step_now row) writes) } in
      let sets : Named TableSet = committed (output_names row.job.root owned) lengths now.tables.sets in
      ready-moved layout now kept pointed ready job row next sets now.library holder.row_at refl apart
      (λ one there. its-leg job row leg (IsReady sets next) holder
      (committed-ready layout now job row leg owned writes lengths kept its.at.running its.commit its.at.are HeldRun None (Some code) (ready.runs job row leg holder)) one there.leg_at)
      (not-queued next refl)

  pub ready-rewritten : (job taken writes place : ℕ) (lengths image : List ℕ) (row : RunRow) (leg : Leg) (owned : OwnedStep) → IsRewriting now job row leg owned taken writes place lengths image → LeavesApart now job (after_rewritten row owned (step_now row) writes lengths now.tables).sets → AreReady (record now { tables = after_rewritten row owned (step_now row) writes lengths now.tables })
  ready-rewritten job taken writes place lengths image row leg owned its apart =
      let running = its.at.running in
      let updates : is_update owned.step.program ≡ true = and-first (is_update owned.step.program) _ its.rewrite in
      let next : RunRow = rewritten_row layout now job row leg owned writes lengths kept running updates its.at.are (ready.runs job row leg running.holder) in
      let sets : Named TableSet = rewritten_sets layout now job row leg owned writes lengths kept running updates its.at.are (ready.runs job row leg running.holder) in
      ready-moved layout now kept pointed ready job row next sets now.library running.holder.row_at refl apart
      (λ one there. its-leg job row leg (IsReady sets next) running.holder (rewritten-ready layout now job row leg owned writes lengths kept running updates its.at.are (ready.runs job row leg running.holder)) one there.leg_at)
      (not-queued next running.holder.holds)

  pub ready-checkpointed : (job taken writes place bytes : ℕ) (id : Name) (lengths : List ℕ) (row : RunRow) (leg : Leg) (owned : OwnedStep) → IsChecking now job row leg owned id taken writes place bytes lengths
      → LeavesApart now job (after_checkpointed row owned (step_now row) (record { id = id; run = job; place = place; bytes = bytes }) taken writes lengths now.tables).sets
      → AreReady (record now { tables = after_checkpointed row owned (step_now row) (record { id = id; run = job; place = place; bytes = bytes }) taken writes lengths now.tables })
  ready-checkpointed job taken writes place bytes id lengths row leg owned its apart =
      let running = its.committing.at.running in
      let commit = its.committing.commit in
      let are = its.committing.at.are in
      let its_ready = ready.runs job row leg running.holder in
      let next : RunRow = checked_row layout now job row leg owned writes taken place bytes id lengths kept running commit its.told are its.check its_ready in
      let sets : Named TableSet = checked_sets layout now job row leg owned writes taken place bytes id lengths kept running commit its.told are its.check its_ready in
      ready-moved layout now kept pointed ready job row next sets now.library running.holder.row_at refl apart
      (λ one there. its-leg job row leg (IsReady sets next) running.holder
      (checked-ready layout now job row leg owned writes taken place bytes id lengths kept running commit its.told are its.check its_ready) one there.leg_at)
      (not-queued next running.holder.holds)

  -- ---- a step ends

  pub ready-step_done : (job rc writes : ℕ) (lengths : List ℕ) (row : RunRow) (owned : OwnedStep) → run_of now.tables job ≡ Some row → LeavesApart now job (after_step_ended row owned (step_now row) rc writes lengths now.tables).sets → AreReady (record now { tables = after_step_ended row owned (step_now row) rc writes lengths now.tables })
  ready-step_done job rc writes lengths row owned e apart =
      let sets : Named TableSet = committed (output_names row.job.root owned) lengths now.tables.sets in
      let row_then : RunRow = record row { place = Some (Within (step_now row) writes) } in
      let done : TablesModel = with_run row_then (record now.tables { sets = sets }) in
      let next : RunRow = record row { place = Some (Before (suc (step_now row))); rcs = row.rcs ++ (step_now row, rc) ∷ []; in_effect = None; passed = (after_dispositions row owned (step_now row) false done).passed } in
      ready-with layout now kept pointed ready job row_then next done (after_dispositions row owned (step_now row) false done).sets now.library
      (run-same (record now.tables { sets = sets }) row_then row job e (kept.numbered job row e)) (kept.numbered job row e)
      (λ number differs. run-other (record now.tables { sets = sets }) row_then number (λ same. differs (same ∙ kept.numbered job row e))) apart
      (λ its there. ready-outside (after_dispositions row owned (step_now row) false done).sets next its refl refl)
      (λ queued. refl)

  -- ---- a run goes back

  pub ready-start : (job initiator : ℕ) (code : Code) (deck : Option Job) → may_come layout now (Restarted job initiator code false, deck) ≡ true → carries layout now (Restarted job initiator code false) deck ≡ true → AreReady (office_after (Restarted job initiator code false, deck) now)
  ready-start job initiator code deck may carried =
      by-run layout now job initiator code deck kept pointed false AreReady may carried
      (λ row leg its.
      let can = steps-restorable now ready in
      start-by layout now job initiator code deck kept pointed can AreReady row leg its ready
      (λ owned found point got.
      let next : RunRow = row_then layout now job initiator code deck kept pointed can row leg its owned found point got in
      let sets : Named TableSet = sets_then layout now job initiator code deck kept pointed can row leg its owned found point got in
      ready-moved layout now kept pointed ready job row next sets now.library its.holder.row_at refl
      (λ name apart. start-left layout now job initiator code deck kept pointed can row leg its owned found point got name (apart row leg its.holder))
      (λ fellow there. ready-outside sets next fellow refl refl)
      (λ queued. refl)))

  pub ready-entry : (job initiator : ℕ) (code : Code) (deck : Option Job) → may_come layout now (Restarted job initiator code true, deck) ≡ true → carries layout now (Restarted job initiator code true) deck ≡ true → AreReady (office_after (Restarted job initiator code true, deck) now)
  ready-entry job initiator code deck may carried =
      by-run layout now job initiator code deck kept pointed true AreReady may carried
      (λ row leg its.
      let can = entries-restorable now ready in
      entry-by layout now job initiator code deck kept pointed can AreReady row leg its ready
      (λ owned found effect got entry there.
      let next : RunRow = row_back layout now job initiator code deck kept pointed can row leg its owned found effect got entry there in
      let sets : Named TableSet = sets_then_back layout now job initiator code deck kept pointed can row leg its owned found effect got entry there in
      let check : IsCheck now.tables.sets row leg effect = (ready.runs job row leg its.holder).check effect its.within got in
      let back = restarted-ready row leg effect now.tables.sets its.within (check-unwritten row (step_now row) layout.eligible.items code effect got its.verdict) (ready.runs job row leg its.holder) check initiator next.count next.passed in
      let mine : IsReady sets next leg =
      subst (λ (e : KeptEntry). IsReady (put_back e.point.marks (output_names row.job.root owned) (names_of row.job.root owned) now.tables.sets) (record next { place = Some (Within (step_now row) e.point.writes) }) leg)
      (some-one check.entry entry (kept_at now.tables.sets effect.set effect.kept.id) (kept-entry now.tables.sets effect.set effect.kept.id check.entry check.keeps) there)
      (subst (λ (step : OwnedStep). IsReady (put_back check.entry.point.marks (output_names row.job.root step) (names_of row.job.root step) now.tables.sets) (record next { place = Some (Within (step_now row) check.entry.point.writes) }) leg)
      (some-one check.owned owned (step_of_run row (step_now row)) check.found_step found) back) in
      ready-moved layout now kept pointed ready job row next sets now.library its.holder.row_at refl
      (λ name apart. entry-left layout now job initiator code deck kept pointed can row leg its owned found effect got entry there name (apart row leg its.holder))
      (λ fellow later. its-leg job row leg (IsReady sets next) its.holder mine fellow later.leg_at)
      (not-queued next refl)))
