-- A call on the tables that goes on by an automatic restart: what it needs, and what it leaves.
use Rattle.std.proofs.Common.{◌≡◌, ◌⊎◌, inl, inr, ◌&&◌, ◌||◌, ℕ, ◌-◌, ◌<◌, true, false, Bool, nat_eq, nat_lt, not, List, [], map, slice_get, slice_set, slice_index_or, refl, ap, sym, ◌∙◌, subst, arith, Some, None, Option}
use Rattle.std.specs.List.{list_all}
use Rattle.std.specs.Option.{option_and_then, option_eq, option_map, option_map_or}
use Rattle.std.proofs.lemmas.Option.{slice_get-map, slice_get_within}
use Rattle.ckr_base.specs.declared.code.Code.{Code}
use Rattle.ckr_base.proofs.Bools.{and-first, and-second, or-cases}
use Rattle.ckr_base.proofs.Numbers.{nat_lt-true}
use Rattle.ckr_base.proofs.Options.{some-not-none}
use Rattle.ckr_base.proofs.Sequences.{get-from, get-there}
use Rattle.ckr_entry.specs.declared.point.Mark.{Mark}
use Rattle.ckr_events.specs.declared.event.Event.TheVariants.{Restarted}
use Rattle.ckr_jcl.specs.declared.deck.Job.{Job}
use Rattle.ckr_library.specs.Catalog.{Holding}
use Rattle.ckr_library.specs.NameMaps.{Named}
use Rattle.ckr_points.specs.declared.run.Run.{Run}
use Rattle.ckr_points.specs.declared.run.RunState.TheVariants.{Released as ReleasedRun}
use Rattle.ckr_points.specs.Follows.{is_free, is_in_state, is_running, may_restart_again}
use Rattle.ckr_points.specs.Restart.{after_event, after_restarted, by_step}
use Rattle.ckr_points.specs.Rows.{EffectPoint, RunRow, StartPoint, TablesModel, run_of}
use Rattle.ckr_volumes.specs.declared.layout.Layout.{Layout}
use Rattle.ckr_points_runs.specs.declared.run_table.RunTable.{RunTable}
use Rattle.ckr_points_tables.specs.declared.tables.Tables.TheInside.{Inside}
use Rattle.ckr_points_tables.specs.Invariant.{AreKept, CanRestart, IsIndexOf, IsWide, MayFollow, initiator_at, put_at, room_at}
use Rattle.ckr_points_runs.specs.PutBack.{IsFilled}
use Rattle.ckr_points_tables.specs.Parts.{tables_seen, IsKept}
use Rattle.ckr_points_tables.specs.Restart.{HasFewRestarts, HasPassedFor, passed_for, restarted}
use Rattle.ckr_points_runs.specs.RunChange.{Going, desk_with, going}
use Rattle.ckr_points_runs.specs.RunJobs.{IsFitting, effective}
use Rattle.ckr_points_tables.specs.View.{RoomyTables, Writings, room_of, row_of, rows_of, seen_under, table_in}
use Rattle.ckr_points_runs.specs.View.{RunTableView, facts_of, row_with, written_of}
use Rattle.ckr_points_tables.proofs.Events.{none_on}
use Rattle.ckr_points_runs.proofs.PutBack.{cut-back-filled}
use Rattle.ckr_points_tables.proofs.PutBack.{cut-back-wide}
use Rattle.ckr_points_tables.proofs.RecordWidths.{AreFilled, AreWide}
use Rattle.ckr_points_tables.proofs.Restarts.Views.{IsLeft, passed-there, restarted-each, restarted-left, restarted-row}
use Rattle.ckr_points_tables.proofs.RunChanges.{run-in}
use Rattle.ckr_points_tables.proofs.RunMoves.{IsPlaced, desk_moved, index_moved, is_run, kept_moved, number_is, of_run-row, only-on, placed_so, run_fits, run_found}
use Rattle.ckr_points_tables.proofs.Runs.{at_true, length-rows, rows-at}
use Rattle.ckr_points_tables.proofs.SetViews.{going_viewed}

-- what a restart asks of its run
abbrev pub may_go_back : Layout → TablesModel → ℕ → Bool → RunRow → Bool
may_go_back layout tables initiator checkpoint row =
    (is_running row && option_eq nat_eq row.initiator (Some initiator) || is_in_state ReleasedRun row && is_free layout tables initiator) && may_restart_again checkpoint row

few-restarts : (checkpoint : Bool) (line : Run) (facts : RunTableView) → may_restart_again checkpoint (row_with line facts) ≡ true → HasFewRestarts checkpoint facts
few-restarts true line facts may = λ effect is. less effect.restarts (ap (λ found. option_map_or (λ (one : EffectPoint). nat_lt one.restarts 3) found false) (sym is) ∙ may)
  where
    less : (n : ℕ) → nat_lt n 3 ≡ true → n < 255
    less n e = omega (arith, nat_lt-true n 3 e)
few-restarts false line facts may = λ point is. less point.restarts (ap (λ found. option_map_or (λ (one : StartPoint). nat_lt one.restarts 3) found false) (sym is) ∙ may)
  where
    less : (n : ℕ) → nat_lt n 3 ≡ true → n < 255
    less n e = omega (arith, nat_lt-true n 3 e)

module _ (a : Inside) (self : RoomyTables) (view : tables_seen a ≡ self) (kept : IsKept a) (job initiator : ℕ) (checkpoint : Bool) (may : (code : Code) → MayFollow self.desk (Restarted job initiator code checkpoint) None) (code : Code) where
  may_in : MayFollow (tables_seen a).desk (Restarted job initiator code checkpoint) None
  may_in = subst (λ v. MayFollow v.desk (Restarted job initiator code checkpoint) None) (sym view) (may code)

  pub placed : IsPlaced job a.lines.items a.tables.items
  placed = placed_so a (tables_seen a) refl kept job (may_go_back may_in.0 (tables_seen a).desk initiator checkpoint) may_in.1

  module _ (line : Run) (table : RunTable) (line_read : line ≡ slice_index_or a.lines.items (job - 1) line) (table_read : table ≡ slice_index_or a.tables.items (job - 1) table) where
    abbrev facts : RunTableView
    facts = facts_of table

    abbrev now : Going Holding
    now = going line facts a.library.sets

    abbrev writings : Writings
    writings = map written_of a.writings.items

    abbrev desk : TablesModel
    desk = (tables_seen a).desk

    lined : slice_get a.lines.items (job - 1) ≡ Some line
    lined = get-from a.lines.items (job - 1) line placed.lined line_read

    tabled : slice_get a.tables.items (job - 1) ≡ Some table
    tabled = get-from a.tables.items (job - 1) table placed.tabled table_read

    found : run_of desk line.number ≡ Some (row_with line facts)
    found = run_found a.library.sets a.lines.items a.tables.items a.index a.spare.marks.items a.writings.items kept (job - 1) line table lined tabled

    numbered : line.number ≡ job
    numbered = number_is a.library.sets a.lines.items a.tables.items a.index a.spare.marks.items a.writings.items kept (job - 1) line table lined tabled ∙ sym placed.next

    row_found : run_of desk job ≡ Some (row_with line facts)
    row_found = ap (run_of desk) (sym numbered) ∙ found

    goes_back : may_go_back may_in.0 desk initiator checkpoint (row_with line facts) ≡ true
    goes_back = of_run-row desk job (may_go_back may_in.0 desk initiator checkpoint) (row_with line facts) row_found may_in.1

    pub fits_ok : IsFitting (effective line.number table.job)
    fits_ok = run_fits a.library.sets a.lines.items a.tables.items a.index a.spare.marks.items a.writings.items kept (job - 1) line table lined tabled

    pub few_ok : HasFewRestarts checkpoint facts
    few_ok = few-restarts checkpoint line facts (and-second _ (may_restart_again checkpoint (row_with line facts)) goes_back)

    pub room_ok : CanRestart self job checkpoint → HasPassedFor table.passed.room (passed_for checkpoint writings a.library.sets facts)
    room_ok has =
        let here : CanRestart (tables_seen a) job checkpoint = subst (λ v. CanRestart v job checkpoint) (sym view) has in
        subst (HasPassedFor table.passed.room) (passed-there writings line facts a.library.sets checkpoint)
        (here (row_with line facts) (room_of table) row_found (ap (room_at (tables_seen a).room) placed.next ∙ slice_get-map room_of a.tables.items (job - 1) ∙ ap (option_map room_of) tabled))

    -- ---- what it leaves

    left : IsLeft initiator now (restarted writings checkpoint initiator now)
    left = restarted-left now initiator (is_run a.library.sets a.lines.items a.tables.items a.index a.spare.marks.items a.writings.items kept (job - 1) line table lined tabled).free writings checkpoint

    -- no other run is on a free initiator
    none_there : is_free may_in.0 desk initiator ≡ true → (k : ℕ) → initiator_at a.lines.items k ≡ Some initiator → ⊥
    none_there free k on = by (slice_get a.lines.items k) refl on
      where
        by : (there : Option Run) → slice_get a.lines.items k ≡ there → option_and_then (λ (l : Run). l.initiator) there ≡ Some initiator → ⊥
        by None is on = some-not-none _ (sym on)
        by (Some l) is on =
            let long = length-rows 1 a.lines.items a.tables.items kept.runs in
            let there = get-there a.tables.items k (omega (arith, long.0, slice_get_within a.lines.items k l is)) in
            none_on desk.runs initiator (and-second _ (list_all (λ (one : RunRow). not (option_eq nat_eq one.initiator (Some initiator))) desk.runs) free) k (row_of l there.0) (rows-at a.lines.items a.tables.items k l there.0 is there.1) on

    only-there : (k : ℕ) → initiator_at a.lines.items k ≡ Some initiator → k ≡ job - 1
    only-there k there =
        or-cases (is_running (row_with line facts) && option_eq nat_eq line.initiator (Some initiator)) (is_in_state ReleasedRun (row_with line facts) && is_free may_in.0 desk initiator)
        (and-first _ (may_restart_again checkpoint (row_with line facts)) goes_back)
        (λ on. only-on a.library.sets a.lines.items a.tables.items a.index a.spare.marks.items a.writings.items kept (job - 1) line table lined tabled initiator k (at_true line.initiator initiator (and-second (is_running (row_with line facts)) _ on)) there)
        (λ free. absurd (none_there (and-second (is_in_state ReleasedRun (row_with line facts)) _ free) k there))

    only : (i k : ℕ) → (restarted writings checkpoint initiator now).line.initiator ≡ Some i → initiator_at a.lines.items k ≡ Some i → k ≡ job - 1
    only i k on there = by (left.1 i on)
      where
        by : (line.initiator ≡ Some i) ⊎ (initiator ≡ i) → k ≡ job - 1
        by (inl before) = only-on a.library.sets a.lines.items a.tables.items a.index a.spare.marks.items a.writings.items kept (job - 1) line table lined tabled i k before there
        by (inr same) = only-there k (there ∙ ap Some (sym same))

    module _ (new : Run) (after : RunTable) (sets : Named Holding) (goes : going new (facts_of after) sets ≡ restarted writings checkpoint initiator now) where
      pub kept_restarted : (marks : List Mark) → marks ≡ [] → ((i : ℕ) → new.initiator ≡ Some i → i < 256) → (index : List ℕ) → index ≡ put_at new.initiator job (put_at line.initiator 0 a.index)
          → AreKept sets (slice_set a.lines.items (job - 1) new) (slice_set a.tables.items (job - 1) after) index marks a.writings.items
      kept_restarted marks empty fits index is =
          let stays = subst (λ all. IsLeft initiator now all) (sym goes) left in
          kept_moved a.library.sets a.lines.items a.tables.items a.index a.spare.marks.items a.writings.items kept (job - 1) line table lined tabled new after sets stays.0 index marks
          (subst AreWide (ap (λ (all : Going Holding). all.sets) (sym goes)) (restarted-each IsWide cut-back-wide (λ on holding is. is) writings checkpoint initiator now kept.wide))
          (subst AreFilled (ap (λ (all : Going Holding). all.sets) (sym goes)) (restarted-each IsFilled cut-back-filled (λ on holding is. is) writings checkpoint initiator now kept.filled))
          (subst (λ all. IsIndexOf all (slice_set a.lines.items (job - 1) new)) (ap (λ n. put_at new.initiator n (put_at line.initiator 0 a.index)) (sym placed.next) ∙ sym is)
          (index_moved a.library.sets a.lines.items a.tables.items a.index a.spare.marks.items a.writings.items kept (job - 1) line table lined tabled new after sets stays.0 fits
          (λ i k on there. only i k (ap (λ (all : Going Holding). all.line.initiator) (sym goes) ∙ on) there)))
          empty

      pub desk_restarted : (other : Code) (deck : Option Job) → (let all : TablesModel = record { sets = seen_under (table_in (map written_of a.writings.items)) sets; runs = rows_of (slice_set a.lines.items (job - 1) new) (slice_set a.tables.items (job - 1) after) } in all) ≡ after_event (Restarted job initiator other checkpoint) deck self.desk
      desk_restarted other deck =
          let stays = subst (λ all. IsLeft initiator now all) (sym goes) left in
          desk_moved a.library.sets a.lines.items a.tables.items a.index a.spare.marks.items a.writings.items kept (job - 1) line table lined tabled new after sets stays.0
          ∙ ap (λ seen. desk_with seen desk) (ap (going_viewed (table_in writings)) goes)
          ∙ sym (
          run-in desk line facts found job (λ row. by_step (λ own at. after_restarted row own at initiator checkpoint desk) row desk) numbered
          ∙ restarted-row writings line facts a.library.sets desk refl found initiator checkpoint
          )
          ∙ ap (λ v. after_event (Restarted job initiator other checkpoint) deck v.desk) view
