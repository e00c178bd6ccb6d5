-- The tables in code go on by the end of a run's hold as the tables do.
use Rattle.std.proofs.Common.{◌≡◌, ℕ, ◌-◌, map, slice_get, slice_set, slice_index_or, refl, ap, sym, ◌∙◌, subst, Some, None, Option}
use Rattle.std.specs.Option.{option_map_or}
use Rattle.std.proofs.lemmas.Bool.{false≢true}
use Rattle.ckr_base.proofs.Sequences.{get-from, get-there, set-same}
use Rattle.ckr_events.specs.declared.event.Event.TheVariants.{Released}
use Rattle.ckr_jcl.specs.declared.deck.Job.{Job}
use Rattle.ckr_points.specs.declared.run.Run.{Run}
use Rattle.ckr_points.specs.declared.run.RunState.TheVariants.{Held as HeldRun, Released as ReleasedRun}
use Rattle.ckr_points.specs.Follows.{is_in_state}
use Rattle.ckr_points.specs.Restart.{after_event}
use Rattle.ckr_points.specs.Rows.{RunRow, TablesModel, run_of, with_run}
use Rattle.ckr_points_runs.specs.declared.run_table.RunTable.{RunTable}
use Rattle.ckr_points_tables.specs.declared.tables.Tables.TheInside.{Inside}
use Rattle.ckr_points_tables.specs.Invariant.{AreKept, MayFollow}
use Rattle.ckr_points_tables.specs.Parts.{tables_seen, IsKept}
use Rattle.ckr_points_tables.specs.Release.{released_line}
use Rattle.ckr_points_runs.specs.RunChange.{going}
use Rattle.ckr_points_tables.specs.View.{RoomyTables, rows_of, seen_under, table_in}
use Rattle.ckr_points_runs.specs.View.{facts_of, written_of}
use Rattle.ckr_points_tables.proofs.RunMoves.{IsPlaced, StaysRun, desk_moved, index_stays, kept_moved, placed_so, run_there}

module _ (a : Inside) (self : RoomyTables) (view : tables_seen a ≡ self) (kept : IsKept a) (job : ℕ) (may : MayFollow self.desk (Released job) None) where
  pub placed : IsPlaced job a.lines.items a.tables.items
  placed = placed_so a self view kept job (is_in_state HeldRun) may.1

  module _ (line : Run) (read : line ≡ slice_index_or a.lines.items (job - 1) line) where
    lined : slice_get a.lines.items (job - 1) ≡ Some line
    lined = get-from a.lines.items (job - 1) line placed.lined read

    there : (table : RunTable) × (slice_get a.tables.items (job - 1) ≡ Some table)
    there = get-there a.tables.items (job - 1) placed.tabled

    stays : StaysRun (going line (facts_of there.0) a.library.sets) (going (released_line line) (facts_of there.0) a.library.sets)
    stays = record { number = refl; name = refl; job = refl; free = λ e. absurd (false≢true e) }

    tables_same : slice_set a.tables.items (job - 1) there.0 ≡ a.tables.items
    tables_same = set-same a.tables.items (job - 1) there.0 there.1

    pub kept_released : AreKept a.library.sets (slice_set a.lines.items (job - 1) (released_line line)) a.tables.items a.index a.spare.marks.items a.writings.items
    kept_released =
        subst (λ tables. AreKept a.library.sets (slice_set a.lines.items (job - 1) (released_line line)) tables a.index a.spare.marks.items a.writings.items) tables_same
        (kept_moved a.library.sets a.lines.items a.tables.items a.index a.spare.marks.items a.writings.items kept (job - 1) line there.0 lined there.1 (released_line line) there.0 a.library.sets stays a.index a.spare.marks.items kept.wide kept.filled
        (index_stays a.library.sets a.lines.items a.tables.items a.index a.spare.marks.items a.writings.items kept (job - 1) line there.0 lined there.1 (released_line line) there.0 a.library.sets stays refl) kept.spare)

    pub desk_released : (deck : Option Job) → (let all : TablesModel = record { sets = seen_under (table_in (map written_of a.writings.items)) a.library.sets; runs = rows_of (slice_set a.lines.items (job - 1) (released_line line)) a.tables.items } in all) ≡ after_event (Released job) deck self.desk
    desk_released deck =
        ap (λ tables. let all : TablesModel = record { sets = seen_under (table_in (map written_of a.writings.items)) a.library.sets; runs = rows_of (slice_set a.lines.items (job - 1) (released_line line)) tables } in all) (sym tables_same)
        ∙ desk_moved a.library.sets a.lines.items a.tables.items a.index a.spare.marks.items a.writings.items kept (job - 1) line there.0 lined there.1 (released_line line) there.0 a.library.sets stays
        ∙ sym (ap (λ found. option_map_or (λ (row : RunRow). with_run (record row { state = ReleasedRun }) (tables_seen a).desk) found (tables_seen a).desk)
        (ap (run_of (tables_seen a).desk) placed.next ∙ run_there a.library.sets a.lines.items a.tables.items a.index a.spare.marks.items a.writings.items kept (job - 1) line there.0 lined there.1))
        ∙ ap (λ v. after_event (Released job) deck v.desk) view
