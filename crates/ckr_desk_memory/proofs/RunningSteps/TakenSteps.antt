-- A run that continues another one at a checkpoint: behind its selection it is within the step of the earlier run.
use Rattle.std.proofs.Common.{◌≡◌, ◌≢◌, ℕ, suc, true, List, [], refl, sym, subst, Option, Some, None, arith}
use Rattle.std.specs.Option.{option_map_or}
use Rattle.ckr_points_invariant.specs.EarlierRuns.{IsEntryOf, MayContinue}
use Rattle.ckr_events.specs.declared.event.Event.TheVariants.{Selected}
use Rattle.ckr_jcl.specs.declared.deck.Job.{Job}
use Rattle.ckr_library.specs.NameMaps.{Name, Named}
use Rattle.ckr_meaning.specs.EffectiveJob.{OwnedStep}
use Rattle.ckr_points.specs.Follows.{follows, is_within, own_step}
use Rattle.ckr_meaning.specs.declared.place.Place.TheVariants.{Within}
use Rattle.ckr_points.specs.Marks.{lost_names, put_back}
use Rattle.ckr_points.specs.Restart.{after_continued_at, after_entry_continued, after_event, continued_row, kept_at, needed_names, place_of, syschk_name}
use Rattle.ckr_points.specs.Rows.{KeptEntry, RunRow, TableSet, TablesModel, run_of, step_of_run, with_run}
use Rattle.ckr_points.specs.Tables.{fresh_effect}
use Rattle.ckr_desk_plans.specs.Model.Commit.{output_names}
use Rattle.ckr_points_invariant.proofs.Continuations.EarlierRun.{Coming, row_then}
use Rattle.ckr_points_invariant.proofs.Continuations.Follows.{after-selected, may-continue}
use Rattle.ckr_volumes.specs.declared.layout.Layout.{Layout}
use Rattle.ckr_desk_turn.proofs.AdmittedSteps.{spliced-here}
use Rattle.ckr_desk_turn.specs.Queue.{AreNumbered}
use Rattle.ckr_desk_turn.proofs.Queue.Events.{run_number}
use Rattle.ckr_desk_memory.proofs.Holders.Moves.{HasRow, row-as_is, row-next}
use Rattle.ckr_desk_memory.specs.Holders.{reached_names}

-- The run is within the step of the earlier run behind its selection, under the earlier run's root. No other run changes.
pub record IsTaken (tables after : TablesModel) (job earlier step : ℕ) : Type 0 where
  pub row : RunRow
  pub owned : OwnedStep
  pub next : RunRow
  pub row_at : run_of tables earlier ≡ Some row
  pub was : step_of_run row step ≡ Some owned
  pub next_at : run_of after job ≡ Some next
  pub others : (number : ℕ) → number ≢ job → run_of after number ≡ run_of tables number
  pub number : next.number ≡ job
  pub within : is_within (place_of next) ≡ true
  pub found : own_step next ≡ Some owned
  pub root : next.job.root ≡ row.job.root

module _ (layout : Layout) (tables : TablesModel) (job initiator before step : ℕ) (id : Name) (numbered : AreNumbered 1 tables.runs) (its : MayContinue layout tables job initiator (suc before) step (Some id)) where
  number : its.row.number ≡ job
  number = run_number tables job its.row numbered its.row_at

  abbrev first : RunRow
  first = continued_row its.row its.other step its.point initiator tables.sets

  module _ (entry : KeptEntry) where
    abbrev needed : List Name
    needed = needed_names first.job step entry.point.marks

    abbrev sets_back : Named TableSet
    sets_back = put_back entry.point.marks (output_names its.other.job.root its.owned) needed tables.sets

    abbrev coming : Coming
    coming = record {
      place = Within step entry.point.writes;
      count = entry.point.count;
      passed = entry.point.passed;
      lost = lost_names entry.point.marks (reached_names first) sets_back entry.point.passed;
      effect = Some (fresh_effect (syschk_name its.row.deck) entry.kept);
    }

    -- its row behind the entry
    abbrev then : RunRow
    then = row_then (record { tables = tables; library = []; legs = [] }) its.row its.other step its.point initiator coming

    now : HasRow tables (with_run then (record tables { sets = sets_back })) job then
    now = row-next tables tables job its.row then sets_back (row-as_is tables job its.row its.row_at) number

    taken-at : IsTaken tables (after_entry_continued first its.owned step (syschk_name its.row.deck) entry tables) job (suc before) step
    taken-at = record {
      row = its.other;
      owned = its.owned;
      next = then;
      row_at = its.other_at;
      was = its.found;
      next_at = now.now;
      others = now.others;
      number = number;
      within = refl;
      found = spliced-here its.other.job step its.row.number its.row.deck its.owned its.found;
      root = refl;
    }

  taken-continued : IsTaken tables (after_continued_at first its.owned step its.point (Some id) tables) job (suc before) step
  taken-continued = by (kept_at tables.sets (syschk_name its.row.deck) id) refl
    where
      by : (found : Option KeptEntry) → kept_at tables.sets (syschk_name its.row.deck) id ≡ found
          → IsTaken tables (option_map_or (λ entry. after_entry_continued first its.owned step (syschk_name its.row.deck) entry tables) found tables) job (suc before) step
      by None none = absurd (subst (IsEntryOf its.other step (Some id)) none its.entry)
      by (Some entry) kept = taken-at entry

pub is-taken : (layout : Layout) (tables : TablesModel) (job initiator before step : ℕ) (id : Name) (deck : Option Job) → AreNumbered 1 tables.runs → follows layout tables (Selected job initiator (suc before) step (Some id)) deck ≡ true
    → IsTaken tables (after_event (Selected job initiator (suc before) step (Some id)) deck tables) job (suc before) step
is-taken layout tables job initiator before step id deck numbered follow =
    let its : MayContinue layout tables job initiator (suc before) step (Some id) = may-continue layout tables job initiator (suc before) step (Some id) (λ none. omega (arith, none)) follow in
    subst (λ after. IsTaken tables after job (suc before) step) (sym (after-selected layout tables job initiator before step (Some id) deck its))
    (taken-continued layout tables job initiator before step id numbered its)
