-- One more event keeps what the points hold.
use Rattle.std.proofs.Common.{◌≡◌, ◌≢◌, ℕ, suc, true, false, if◌then◌else◌, List, ◌∷◌, map, refl, ap, sym, ◌∙◌, Some, None, length, []}
use Rattle.std.specs.Prelude.{◌==◌}
use Rattle.std.specs.Option.{option_map}
use Rattle.ckr_base.specs.declared.code.Code.{Code}
use Rattle.ckr_base.proofs.Options.{some-not-none}
use Rattle.ckr_base.proofs.Sequences.{each-append, each-implies}
use Rattle.ckr_entry.specs.declared.point.Mark.{Mark}
use Rattle.ckr_entry.specs.declared.point.Passed.{Passed}
use Rattle.ckr_events.specs.declared.event.Ending.{Ending}
use Rattle.ckr_events.specs.declared.event.Made.{Made}
use Rattle.ckr_jcl.specs.declared.deck.Job.{Job}
use Rattle.ckr_library.specs.declared.sets.Kept.{Kept}
use Rattle.ckr_library.specs.NameMaps.{Name, Named, entry_at, with_changed}
use Rattle.ckr_library.proofs.Named.{each-with_changed}
use Rattle.ckr_meaning.specs.Allotments.{DdAllotment}
use Rattle.ckr_meaning.specs.Dispositions.{Stock}
use Rattle.ckr_meaning.specs.EffectiveJob.{OwnedStep, stamp_of}
use Rattle.ckr_meaning.specs.LibrarySet.{LibrarySet, Library}
use Rattle.ckr_meaning.specs.declared.place.Place.{Place}
use Rattle.ckr_meaning.specs.declared.place.Place.TheVariants.{Opened, Within}
use Rattle.ckr_points_library.specs.Commit.{output_names}
use Rattle.ckr_points.specs.declared.run.RunState.TheVariants.{Held as HeldRun, Queued}
use Rattle.ckr_points.specs.Follows.{are_lengths, is_in_state, may_hold}
use Rattle.ckr_points.specs.Marks.{marks_now, with_point}
use Rattle.ckr_points.specs.Office.{Leg, Office, leg_of}
use Rattle.ckr_points.specs.Payload.{commits, writes_in}
use Rattle.ckr_points.specs.Restart.{after_ended, place_of}
use Rattle.ckr_points.specs.Rows.{KeptEntry, RunRow, StartPoint, TableSet, TablesModel, run_of, with_run}
use Rattle.ckr_points.specs.Tables.{after_checkpointed, after_commit, after_held, after_rewritten, after_step_ended, committed, entry_point, fresh_effect, is_checkpoints, is_updates, kept_entry, made_tables, name_with_role, point_rewritten, queued_run, row_rewritten, start_point, with_kept_entry, after_started}
use Rattle.ckr_volumes.specs.declared.layout.Layout.{Layout}
use Rattle.ckr_points_invariant.specs.Invariant.{IsAgreed, IsHolder, PointsHold, set_shape, step_now}
use Rattle.ckr_points_invariant.specs.Points.{AreEntryPoints, ArePointed, AreStepPoints, IsPointAt}
use Rattle.ckr_points_invariant.specs.RunningSteps.{IsRunning, its_start}
use Rattle.ckr_points_invariant.proofs.Holders.Moves.{standing-is}
use Rattle.ckr_points_invariant.proofs.Holders.Rows.{run-same}
use Rattle.ckr_points_invariant.proofs.Points.Places.{point-now}
use Rattle.ckr_points_invariant.proofs.Points.Rows as rows
use Rattle.ckr_points_invariant.proofs.Points.Sets as sets
use Rattle.ckr_points_invariant.proofs.Select.Invariant.{chosen, led_there, next, waits}
use Rattle.ckr_points_invariant.proofs.Stamps.Tables.{each-weaker}
use Rattle.ckr_points_invariant.proofs.Start.Invariant as starting
use Rattle.ckr_points_invariant.proofs.Steps.Events.{kept-commit}
use Rattle.ckr_points_invariant.proofs.Steps.Walks.{at-opened}
use Rattle.ckr_points_invariant.proofs.Restart.Points.{fewer, points-with}
use Rattle.ckr_points_invariant.proofs.Start.Event.{StartsNow}
use Rattle.ckr_points_invariant.proofs.EventRows.{submitted}

-- ---- points of one run

points-rewritten : (legs : List Leg) (run step : ℕ) (points : List StartPoint) → AreStepPoints legs run points → AreStepPoints legs run (map (point_rewritten step) points)
points-rewritten legs run step [] each = tt
points-rewritten legs run step (first ∷ rest) each =
    elim (first.step == step) as (λ b. AreStepPoints legs run ((if b then record first { rewritten = true } else first) ∷ map (point_rewritten step) rest)) [
      | true ↦ (each.0, points-rewritten legs run step rest each.1)
      | false ↦ (each.0, points-rewritten legs run step rest each.1)
    ]

module _ (layout : Layout) (now : Office) (kept : IsAgreed layout now) (pointed : ArePointed now) where
  abbrev R : ℕ → ℕ → List StartPoint → Type 0
  R run count = AreStepPoints now.legs run

  abbrev E : List KeptEntry → Type 0
  E = AreEntryPoints now.legs

  mine : (job : ℕ) (row : RunRow) → run_of now.tables job ≡ Some row → rows.RowHolds R E tt (fewer now.legs) row
  mine job row e = rows.row-holds R E tt (fewer now.legs) now.tables job row pointed e

  -- a row that keeps its points
  pub pointed-row : (job : ℕ) (row next : RunRow) → run_of now.tables job ≡ Some row → (rows.RowHolds R E tt (fewer now.legs) row → rows.RowHolds R E tt (fewer now.legs) next) → ArePointed (record now { tables = with_run next now.tables })
  pointed-row job row next e keeps = rows.run-holds R E tt (fewer now.legs) next now.tables (keeps (mine job row e)) pointed

  pub pointed-comes : (deck : Job) → ArePointed (submitted now deck)
  pointed-comes deck = record {
    rows = each-append (λ (row : RunRow). AreStepPoints now.legs row.number row.points) now.tables.runs (queued_run (suc (length now.tables.runs)) deck ∷ []) pointed.rows (tt, tt);
    entries = pointed.entries;
  }

  pub pointed-held : (job writes : ℕ) (code : Code) (lengths : List ℕ) (row : RunRow) (owned : OwnedStep) → run_of now.tables job ≡ Some row → ArePointed (record now { tables = after_held row owned (step_now row) code writes lengths now.tables })
  pointed-held job writes code lengths row owned e =
      rows.commit-holds R E tt (fewer now.legs) now.tables (record row { state = HeldRun; initiator = None; code = Some code }) owned (step_now row) writes lengths pointed (mine job row e)

  pub pointed-rewritten : (job writes : ℕ) (lengths : List ℕ) (row : RunRow) (owned : OwnedStep) → run_of now.tables job ≡ Some row → ArePointed (record now { tables = after_rewritten row owned (step_now row) writes lengths now.tables })
  pointed-rewritten job writes lengths row owned e =
      let done : TablesModel = after_commit (row_rewritten (step_now row) row) owned (step_now row) writes lengths now.tables in
      let so : PointsHold R E done =
      rows.commit-holds R E tt (fewer now.legs) now.tables (row_rewritten (step_now row) row) owned (step_now row) writes lengths pointed (points-rewritten now.legs row.number (step_now row) row.points (mine job row e)) in
      rows.sets-hold R E tt (fewer now.legs) done _ (sets.rewritten-holds E tt (fewer now.legs) (name_with_role row.job.root owned is_updates) owned.owner (step_now row) done.sets so.entries) so

  pub pointed-step_done : (job rc writes : ℕ) (lengths : List ℕ) (row : RunRow) (owned : OwnedStep) → run_of now.tables job ≡ Some row → ArePointed (record now { tables = after_step_ended row owned (step_now row) rc writes lengths now.tables })
  pointed-step_done job rc writes lengths row owned e =
      rows.step_ended-holds R E tt (fewer now.legs) now.tables row owned (step_now row) rc writes lengths pointed (mine job row e)

  pub pointed-ended : (job : ℕ) (ending : Ending) (row : RunRow) (library : Library) → run_of now.tables job ≡ Some row → ArePointed (record now { tables = after_ended row ending now.tables; library = library })
  pointed-ended job ending row library e = rows.ended-holds R E tt (fewer now.legs) row ending now.tables pointed (mine job row e)

  -- ---- a step starts: its point is taken

  pub pointed-started : (job step : ℕ) (items : List Made) (row : RunRow) (leg : Leg) (owned : OwnedStep) → StartsNow layout now job row leg owned step items → ArePointed (record now { tables = after_started row owned step items now.tables })
  pointed-started job step items row leg owned starts =
      let opened : Named TableSet = starting.opened layout now job row leg owned step items kept starts.holder starts.stands starts.found in
      let placed : List DdAllotment = starting.placed layout now job row leg owned step items kept starts.holder starts.stands starts.found in
      let point : StartPoint = start_point row step opened in
      let taken : IsPointAt now.legs row.number (Opened step) (marks_now row opened) row.passed =
      point-now layout now job row leg kept starts.holder (Opened step) opened
      (sym (starting.now layout now job row leg owned step items kept starts.holder starts.stands starts.found))
      (λ name among.
      starting.opened_so layout now job row leg owned step items kept starts.holder starts.stands starts.found name among
      ∙ ap (λ library. option_map set_shape (entry_at library name))
      (sym (at-opened leg.job leg.start step owned (starting.found_leg layout now job row leg owned step items kept starts.holder starts.stands starts.found)))) in
      rows.run-holds R E tt (fewer now.legs) (record row { place = Some (Within step 0); points = with_point point row.points })
      (record now.tables { sets = made_tables (stamp_of owned step) items placed opened })
      (points-with now.legs row.number point row.points taken (mine job row starts.holder.row_at))
      (rows.sets-hold R E tt (fewer now.legs) now.tables _
      (sets.made_all-holds E tt (fewer now.legs) (stamp_of owned step) items placed opened
      (sets.opened_all-holds E tt (fewer now.legs) (stamp_of owned step) placed now.tables.sets pointed.entries)) pointed)

  -- ---- a checkpoint is taken: its entry has its point

  module _ (job : ℕ) (row : RunRow) (leg : Leg) (owned : OwnedStep) (taken writes : ℕ) (lengths : List ℕ) (entry : Kept) (holder : IsHolder now job row leg)
      (running : IsRunning now job row leg owned (step_now row) (writes_in (place_of row)))
      (carried : commits now.tables.sets row writes lengths (its_start leg owned (step_now row)) ≡ true)
      (are : are_lengths now.tables.sets (output_names row.job.root owned) lengths ≡ true) where
    abbrev set : Name
    set = name_with_role row.job.root owned is_checkpoints

    abbrev counted_row : RunRow
    counted_row = record row { count = suc row.count; in_effect = Some (fresh_effect set entry) }

    abbrev row_then : RunRow
    row_then = record counted_row { place = Some (Within (step_now row) writes) }

    abbrev done : TablesModel
    done = after_commit counted_row owned (step_now row) writes lengths now.tables

    abbrev behind : Office
    behind = record now { tables = done }

    agreed : IsAgreed layout behind
    agreed =
        kept-commit layout now job row row_then leg owned writes lengths kept running
        (record { number = refl; deck = refl; job = refl; own_from = refl; rcs = refl; passed = refl; lost = refl; stands = refl; holds = running.holder.holds; made = λ owned step. refl; carried = refl }) carried are

    holds_then : IsHolder behind job row_then leg
    holds_then = record {
      row_at = run-same (record now.tables { sets = committed (output_names row.job.root owned) lengths now.tables.sets }) row_then row job holder.row_at (kept.numbered job row holder.row_at);
      holds = holder.holds;
      leg_at = holder.leg_at;
    }

    point : IsPointAt now.legs row.number (Within (step_now row) writes) (marks_now row done.sets) row.passed
    point =
        point-now layout now job row leg kept holder (Within (step_now row) writes) done.sets refl
        (λ name among.
        agreed.held job row_then leg name holds_then among
        ∙ ap (λ (standing : Stock LibrarySet). option_map set_shape (entry_at standing.sets name)) (standing-is behind job row_then leg holds_then.row_at holds_then.leg_at))

    abbrev new_entry : KeptEntry
    new_entry = kept_entry entry (entry_point row owned (step_now row) taken writes done.sets)

    pub pointed-taken : PointsHold R E (after_checkpointed row owned (step_now row) entry taken writes lengths now.tables)
    pointed-taken =
        let mine = rows.row-holds R E tt (fewer now.legs) now.tables job row pointed holder.row_at in
        let so : PointsHold R E done = rows.commit-holds R E tt (fewer now.legs) now.tables counted_row owned (step_now row) writes lengths pointed mine in
        rows.sets-hold R E tt (fewer now.legs) done (with_changed set (with_kept_entry new_entry) done.sets)
        (each-with_changed (λ (table : TableSet). AreEntryPoints now.legs table.entries) set (with_kept_entry new_entry) done.sets
        (λ table its. each-append (λ (entry : KeptEntry). IsPointAt now.legs entry.point.run (Within entry.point.step entry.point.writes) entry.point.marks entry.point.passed) table.entries (new_entry ∷ []) its (point, tt)) so.entries) so

  -- ---- a run is selected: it has no point yet

  module _ (row : RunRow) (initiator : ℕ) (row_at : run_of now.tables row.number ≡ Some row) (queued : is_in_state Queued row ≡ true) (plain : row.deck.restart ≡ None) (free : may_hold now.tables row ≡ true) where
    abbrev later : Office
    later = chosen layout now row initiator kept row_at queued plain free

    point-there : (run : ℕ) (place : Place) (marks : List Mark) (passed : List Passed) → IsPointAt now.legs run place marks passed → IsPointAt later.legs run place marks passed
    point-there run place marks passed its = record {
      leg = its.leg;
      led = led_there layout now row initiator kept row_at queued plain free run apart ∙ its.led;
      covers = its.covers;
      marked = its.marked;
      passed_on = its.passed_on;
    }
      where
        apart : run ≢ row.number
        apart same = some-not-none its.leg (sym its.led ∙ ap (leg_of now) same ∙ (waits layout now row initiator kept row_at queued plain free).alone)

    pointed-there : PointsHold (λ run count. AreStepPoints later.legs run) (AreEntryPoints later.legs) now.tables
    pointed-there = record {
      rows = each-implies (λ (row : RunRow). AreStepPoints now.legs row.number row.points) (λ (row : RunRow). AreStepPoints later.legs row.number row.points) now.tables.runs
          (λ one. each-implies
          (λ (point : StartPoint). IsPointAt now.legs one.number (Opened point.step) point.marks point.passed)
          (λ (point : StartPoint). IsPointAt later.legs one.number (Opened point.step) point.marks point.passed) one.points
          (λ point its. point-there one.number (Opened point.step) point.marks point.passed its)) pointed.rows;
      entries = each-weaker (λ (table : TableSet). AreEntryPoints now.legs table.entries) (λ (table : TableSet). AreEntryPoints later.legs table.entries) now.tables.sets
          (λ table. each-implies
          (λ (entry : KeptEntry). IsPointAt now.legs entry.point.run (Within entry.point.step entry.point.writes) entry.point.marks entry.point.passed)
          (λ (entry : KeptEntry). IsPointAt later.legs entry.point.run (Within entry.point.step entry.point.writes) entry.point.marks entry.point.passed) table.entries
          (λ entry its. point-there entry.point.run (Within entry.point.step entry.point.writes) entry.point.marks entry.point.passed its)) pointed.entries;
    }

    pub pointed-chosen : ArePointed later
    pointed-chosen =
        rows.run-holds (λ run count. AreStepPoints later.legs run) (AreEntryPoints later.legs) tt (fewer later.legs) (next layout now row initiator kept row_at queued plain free) now.tables
        (rows.row-holds (λ run count. AreStepPoints later.legs run) (AreEntryPoints later.legs) tt (fewer later.legs) now.tables row.number row pointed-there row_at) pointed-there
