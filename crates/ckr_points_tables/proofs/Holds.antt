-- The tables in code go on by the hold of a run as the tables do.
use Rattle.std.proofs.Common.{◌≡◌, ◌&&◌, ◌||◌, ℕ, ◌-◌, ◌<◌, true, List, [], map, slice_get, slice_set, slice_index_or, refl, ap, sym, ◌∙◌, subst, Some, None, Option}
use Rattle.std.specs.Option.{option_map_or}
use Rattle.arrayvec.specs.ArrayVec.{ArrayVec}
use Rattle.ckr_base.specs.declared.code.Code.{Code}
use Rattle.ckr_base.proofs.Bools.{and-second}
use Rattle.ckr_base.proofs.Options.{some-not-none}
use Rattle.ckr_base.proofs.Sequences.{get-from}
use Rattle.ckr_entry.specs.declared.point.Mark.{Mark}
use Rattle.ckr_events.specs.declared.event.Event.TheVariants.{Held}
use Rattle.ckr_jcl.specs.declared.deck.Job.{Job}
use Rattle.ckr_library.specs.Catalog.{Holding}
use Rattle.ckr_library.specs.NameMaps.{EachEntry, Named}
use Rattle.ckr_meaning.specs.EffectiveJob.{OwnedStep, step_at}
use Rattle.ckr_points.specs.declared.run.Run.{Run}
use Rattle.ckr_points.specs.declared.run.RunState.TheVariants.{Released as ReleasedRun}
use Rattle.ckr_points.specs.Follows.{is_in_state, is_running, lengths_follow}
use Rattle.ckr_points.specs.Restart.{after_event, by_step, step_in}
use Rattle.ckr_points.specs.Rows.{TablesModel, run_of}
use Rattle.ckr_points.specs.Tables.{after_held}
use Rattle.ckr_points_library.specs.Commit.{output_names}
use Rattle.ckr_points_runs.specs.declared.run_table.RunTable.{RunTable}
use Rattle.ckr_points_tables.specs.declared.tables.Tables.TheInside.{Inside}
use Rattle.ckr_points_tables.specs.Hold.{held, held_facts, held_line}
use Rattle.ckr_points_tables.specs.Invariant.{AreKept, IsIndexOf, IsWide, MayFollow, is_queued, put_at}
use Rattle.ckr_points_runs.specs.PutBack.{IsFilled}
use Rattle.ckr_points_tables.specs.Parts.{tables_seen, IsKept}
use Rattle.ckr_points_runs.specs.RunChange.{Going, by_step_of, desk_with, going, holding_kit, place_now, step_of, table_kit}
use Rattle.ckr_points_runs.specs.StepEnd.{AreLengthsOf}
use Rattle.ckr_points_runs.specs.RunJobs.{IsFitting, effective}
use Rattle.ckr_points_tables.specs.View.{RoomyTables, Writings, rows_of, seen_under, table_in}
use Rattle.ckr_points_runs.specs.View.{RunTableView, facts_of, row_with, written_of}
use Rattle.ckr_points_tables.proofs.Follows.{lengths_fit}
use Rattle.ckr_points_tables.proofs.EachSet.{IsKeptBy, by_step-each, committed_by-each}
use Rattle.ckr_points_tables.proofs.RecordWidths.{AreFilled, AreWide, filled-kept, wide-kept}
use Rattle.ckr_points_tables.proofs.RunChanges.{run-in, unchanged-in}
use Rattle.ckr_points_tables.proofs.RunMoves.{IsPlaced, StaysRun, desk_moved, index_moved, is_run, kept_moved, run_fits, number_is, of_run-row, only-on, placed_so, run_found}
use Rattle.ckr_points_tables.proofs.SetViews.{by_step-seen, committed-seen, going_viewed, table_view}

-- ---- what a hold makes of its run

-- a run that is held stays what it is
held-stays : (now : Going Holding) (code : Code) (writes : ℕ) (lengths : List ℕ) (step : ℕ) → (is_queued now.line.state ≡ true → now.line.initiator ≡ None) → StaysRun now (by_step_of step (held holding_kit step code writes lengths now) now)
held-stays now code writes lengths step free = by (step_of now step)
  where
    by : (found : Option OwnedStep) → StaysRun now (option_map_or (held holding_kit step code writes lengths now) found now)
    by None = record { number = refl; name = refl; job = refl; free = free }
    by (Some own) = record { number = refl; name = refl; job = refl; free = λ e. refl }

-- it is on no other initiator
held-on : (now : Going Holding) (code : Code) (writes : ℕ) (lengths : List ℕ) (step i : ℕ) → (by_step_of step (held holding_kit step code writes lengths now) now).line.initiator ≡ Some i → now.line.initiator ≡ Some i
held-on now code writes lengths step i = by (step_of now step)
  where
    by : (found : Option OwnedStep) → (option_map_or (held holding_kit step code writes lengths now) found now).line.initiator ≡ Some i → now.line.initiator ≡ Some i
    by None on = on
    by (Some own) on = absurd (some-not-none _ (sym on))

held-each : (Q : Holding → Type 0) → IsKeptBy Q → (now : Going Holding) (code : Code) (writes : ℕ) (lengths : List ℕ) (step : ℕ) → AreLengthsOf now.facts.job.root lengths now.sets (step_of now step) → EachEntry Q now.sets → EachEntry Q (by_step_of step (held holding_kit step code writes lengths now) now).sets
held-each Q by_all now code writes lengths step fits each = by_step-each Q by_all step (held holding_kit step code writes lengths now) now each (λ own is. committed_by-each Q by_all step lengths now own is fits each)

-- as the tables see it
held-seen : (writings : Writings) (now : Going Holding) (code : Code) (writes : ℕ) (lengths : List ℕ) (step : ℕ)
    → going_viewed (table_in writings) (by_step_of step (held holding_kit step code writes lengths now) now)
    ≡ by_step_of step (held table_kit step code writes lengths (going_viewed (table_in writings) now)) (going_viewed (table_in writings) now)
held-seen writings now code writes lengths step =
    by_step-seen (table_in writings) holding_kit table_kit (table_view writings) step (held holding_kit step code writes lengths now) (held table_kit step code writes lengths (going_viewed (table_in writings) now))
    (λ own. ap (going (held_line now.line) (held_facts step code writes now.facts)) (committed-seen (table_in writings) holding_kit table_kit (table_view writings) (output_names now.facts.job.root own) lengths now.sets))
    now

held-row : (desk : TablesModel) (line : Run) (facts : RunTableView) → run_of desk line.number ≡ Some (row_with line facts) → (code : Code) (writes : ℕ) (lengths : List ℕ) (step : ℕ) (there : Option OwnedStep)
    → option_map_or (λ own. after_held (row_with line facts) own step code writes lengths desk) there desk
    ≡ desk_with (option_map_or (held table_kit step code writes lengths (going line facts desk.sets)) there (going line facts desk.sets)) desk
held-row desk line facts found code writes lengths step None = unchanged-in desk line facts found
held-row desk line facts found code writes lengths step (Some own) = refl

-- ---- a call on the tables

module _ (a : Inside) (self : RoomyTables) (view : tables_seen a ≡ self) (kept : IsKept a) (job : ℕ) (code : Code) (writes : ℕ) (lengths : ArrayVec ℕ) (may : MayFollow self.desk (Held job code writes lengths) None) where
  may_in : MayFollow (tables_seen a).desk (Held job code writes lengths) None
  may_in = subst (λ v. MayFollow v.desk (Held job code writes lengths) None) (sym view) may

  pub placed : IsPlaced job a.lines.items a.tables.items
  placed = placed_so a (tables_seen a) refl kept job (λ row. (is_running row || is_in_state ReleasedRun row) && lengths_follow (tables_seen a).desk row lengths.items) may_in.1

  module _ (line : Run) (table : RunTable) (line_read : line ≡ slice_index_or a.lines.items (job - 1) line) (table_read : table ≡ slice_index_or a.tables.items (job - 1) table) where
    abbrev facts : RunTableView
    facts = facts_of table

    abbrev now : Going Holding
    now = going line facts a.library.sets

    abbrev step : ℕ
    step = step_in (place_now facts)

    abbrev writings : Writings
    writings = map written_of a.writings.items

    lined : slice_get a.lines.items (job - 1) ≡ Some line
    lined = get-from a.lines.items (job - 1) line placed.lined line_read

    tabled : slice_get a.tables.items (job - 1) ≡ Some table
    tabled = get-from a.tables.items (job - 1) table placed.tabled table_read

    found : run_of (tables_seen a).desk line.number ≡ Some (row_with line facts)
    found = run_found a.library.sets a.lines.items a.tables.items a.index a.spare.marks.items a.writings.items kept (job - 1) line table lined tabled

    numbered : line.number ≡ job
    numbered = number_is a.library.sets a.lines.items a.tables.items a.index a.spare.marks.items a.writings.items kept (job - 1) line table lined tabled ∙ sym placed.next

    pub fits_ok : IsFitting (effective line.number table.job)
    fits_ok = run_fits a.library.sets a.lines.items a.tables.items a.index a.spare.marks.items a.writings.items kept (job - 1) line table lined tabled

    pub lengths_ok : AreLengthsOf table.job.root lengths.items a.library.sets (step_at (effective line.number table.job) step)
    lengths_ok =
        lengths_fit may.0 writings line facts a.library.sets (rows_of a.lines.items a.tables.items) lengths.items
        (and-second (is_running (row_with line facts) || is_in_state ReleasedRun (row_with line facts)) _
        (of_run-row (tables_seen a).desk job (λ row. (is_running row || is_in_state ReleasedRun row) && lengths_follow (tables_seen a).desk row lengths.items) (row_with line facts) (ap (run_of (tables_seen a).desk) (sym numbered) ∙ found) may_in.1))

    module _ (new : Run) (after : RunTable) (sets : Named Holding) (goes : going new (facts_of after) sets ≡ by_step_of step (held holding_kit step code writes lengths.items now) now) where
      stays : StaysRun now (going new (facts_of after) sets)
      stays =
          subst (StaysRun now) (sym goes)
          (held-stays now code writes lengths.items step (is_run a.library.sets a.lines.items a.tables.items a.index a.spare.marks.items a.writings.items kept (job - 1) line table lined tabled).free)

      pub kept_held : (marks : List Mark) → marks ≡ [] → ((i : ℕ) → new.initiator ≡ Some i → i < 256) → (index : List ℕ) → index ≡ put_at new.initiator job (put_at line.initiator 0 a.index)
          → AreKept sets (slice_set a.lines.items (job - 1) new) (slice_set a.tables.items (job - 1) after) index marks a.writings.items
      kept_held marks empty fits index is =
          kept_moved a.library.sets a.lines.items a.tables.items a.index a.spare.marks.items a.writings.items kept (job - 1) line table lined tabled new after sets stays index marks
          (subst AreWide (ap (λ (all : Going Holding). all.sets) (sym goes)) (held-each IsWide wide-kept now code writes lengths.items step lengths_ok kept.wide))
          (subst AreFilled (ap (λ (all : Going Holding). all.sets) (sym goes)) (held-each IsFilled filled-kept now code writes lengths.items step lengths_ok kept.filled))
          (subst (λ all. IsIndexOf all (slice_set a.lines.items (job - 1) new)) (ap (λ n. put_at new.initiator n (put_at line.initiator 0 a.index)) (sym placed.next) ∙ sym is)
          (index_moved a.library.sets a.lines.items a.tables.items a.index a.spare.marks.items a.writings.items kept (job - 1) line table lined tabled new after sets stays fits
          (λ i k on there. only-on a.library.sets a.lines.items a.tables.items a.index a.spare.marks.items a.writings.items kept (job - 1) line table lined tabled i k
          (held-on now code writes lengths.items step i (ap (λ (all : Going Holding). all.line.initiator) (sym goes) ∙ on)) there)))
          empty

      pub desk_held : (deck : Option Job) → (let all : TablesModel = record { sets = seen_under (table_in (map written_of a.writings.items)) sets; runs = rows_of (slice_set a.lines.items (job - 1) new) (slice_set a.tables.items (job - 1) after) } in all) ≡ after_event (Held job code writes lengths) deck self.desk
      desk_held deck =
          desk_moved a.library.sets a.lines.items a.tables.items a.index a.spare.marks.items a.writings.items kept (job - 1) line table lined tabled new after sets stays
          ∙ ap (λ seen. desk_with seen (tables_seen a).desk) (ap (going_viewed (table_in writings)) goes ∙ held-seen writings now code writes lengths.items step)
          ∙ sym (
          run-in (tables_seen a).desk line facts found job (λ row. by_step (λ own at. after_held row own at code writes lengths.items (tables_seen a).desk) row (tables_seen a).desk) numbered
          ∙ held-row (tables_seen a).desk line facts found code writes lengths.items step (step_of now step)
          )
          ∙ ap (λ v. after_event (Held job code writes lengths) deck v.desk) view
