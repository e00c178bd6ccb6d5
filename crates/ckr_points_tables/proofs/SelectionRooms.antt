-- What is made for a selection is what the tables have for it.
use Rattle.std.proofs.Common.{◌≡◌, ℕ, zero, suc, [], ◌∷◌, length, refl, ap, sym, ◌∙◌, subst, arith, IfSome, ◌≤◌, Option, Some, None}
use Rattle.std.specs.Option.{option_and_then, option_map}
use Rattle.std.proofs.lemmas.Option.{same_Some}
use Rattle.ckr_base.proofs.Options.{some-not-none}
use Rattle.ckr_jcl.specs.declared.deck.Job.{Job}
use Rattle.ckr_library.specs.Catalog.{Holding}
use Rattle.ckr_library.specs.NameMaps.{Name, Named}
use Rattle.ckr_meaning.specs.EffectiveJob.{OwnedStep, step_at}
use Rattle.ckr_points.specs.Marks.{mark_now, point_at}
use Rattle.ckr_points.specs.Restart.{kept_at, rcs_before, syschk_name}
use Rattle.ckr_points.specs.Rows.{RunRow, StartPoint, TableSet, TablesModel, run_of}
use Rattle.ckr_points_tables.specs.Invariant.{HasSelectionRoom}
use Rattle.ckr_points_tables.specs.Rooms.{HasNoPlace}
use Rattle.ckr_points_runs.specs.declared.run_table.RunTable.{RunTable}
use Rattle.ckr_points_runs.specs.RunJobs.{JobView, continued_view, effective}
use Rattle.ckr_points_tables.specs.Selection.{HasLostRoom, Resumption, begun_facts, entries_in, prepared, prepared_for, prepared_of, resumed, resumed_at_entry}
use Rattle.ckr_points_tables.specs.View.{NextRun, RoomyTables, Writings, next_of, table_in}
use Rattle.ckr_points_runs.specs.View.{RunTableView, facts_of, seen_by, table_of}
use Rattle.ckr_points_tables.proofs.NamedViews.{viewed}
use Rattle.ckr_points_tables.proofs.Restarts.Views.{kept-seen}
use Rattle.ckr_points_tables.proofs.RoomGrowth.{none_beyond}
use Rattle.ckr_points_tables.proofs.Selections.{carried-seen}

module _ (writings : Writings) (sets : Named Holding) (run number : ℕ) (deck : Job) (earlier : RunTableView) (step : ℕ) where
  abbrev seen : Named TableSet
  seen = viewed (table_in writings) sets

  abbrev job : JobView
  job = continued_view number deck earlier.job step

  same : (id : Option Name) (point : StartPoint) → resumed (entries_in writings sets) deck step point id ≡ resumed (kept_at seen) deck step point id
  same None point = refl
  same (Some id) point = ap (option_map (resumed_at_entry step (syschk_name deck))) (sym (kept-seen writings sets (syschk_name deck) id))

  each : (point : StartPoint) (found : Option Resumption) → option_map (begun_facts (mark_now (seen_by table_of sets)) run job (rcs_before step earlier.rcs) point) found ≡ option_map (begun_facts (mark_now seen) run job (rcs_before step earlier.rcs) point) found
  each point None = refl
  each point (Some at) = ap (λ carried. Some (record (begun_facts (mark_now seen) run job (rcs_before step earlier.rcs) point at) { points = carried ∷ [] })) (carried-seen writings sets run job point)

  at_point : (id : Option Name) (found : Option StartPoint)
      → option_and_then (λ (point : StartPoint). option_map (begun_facts (mark_now (seen_by table_of sets)) run job (rcs_before step earlier.rcs) point) (resumed (entries_in writings sets) deck step point id)) found
      ≡ option_and_then (λ (point : StartPoint). option_map (begun_facts (mark_now seen) run job (rcs_before step earlier.rcs) point) (resumed (kept_at seen) deck step point id)) found
  at_point id None = refl
  at_point id (Some point) = ap (option_map (begun_facts (mark_now (seen_by table_of sets)) run job (rcs_before step earlier.rcs) point)) (same id point) ∙ each point (resumed (kept_at seen) deck step point id)

  pub prepared-seen : (id : Option Name) → prepared (mark_now (seen_by table_of sets)) (entries_in writings sets) run number deck earlier step id ≡ prepared_of (mark_now seen) (kept_at seen) run number deck (effective number earlier.job) earlier.rcs earlier.points step id
  prepared-seen id = by (step_at (effective number earlier.job) step)
    where
      by : (own : Option OwnedStep)
          → option_and_then (λ (one : OwnedStep). option_and_then (λ (point : StartPoint). option_map (begun_facts (mark_now (seen_by table_of sets)) run job (rcs_before step earlier.rcs) point) (resumed (entries_in writings sets) deck step point id)) (point_at earlier.points step)) own
          ≡ option_and_then (λ (one : OwnedStep). option_and_then (λ (point : StartPoint). option_map (begun_facts (mark_now seen) run job (rcs_before step earlier.rcs) point) (resumed (kept_at seen) deck step point id)) (point_at earlier.points step)) own
      by None = refl
      by (Some own) = at_point id (point_at earlier.points step)

-- nothing is made for a run that isn't there
pub prepared-beyond : (desk : TablesModel) (row : RunRow) (number step : ℕ) (id : Option Name) → HasNoPlace number (length desk.runs) → None ≡ prepared_for desk row number step id
prepared-beyond desk row number step id none = by (run_of desk number) refl
  where
    by : (found : Option RunRow) → run_of desk number ≡ found → None ≡ option_and_then (λ (other : RunRow). prepared_of (mark_now desk.sets) (kept_at desk.sets) row.number other.number row.deck other.job other.rcs other.points step id) found
    by None is = refl
    by (Some other) is = absurd (none_beyond desk number other none is)

-- room for the selection of a run that was made for it
pub has-next : (now : RoomyTables) (row : RunRow) (earlier step : ℕ) (id : Option Name) (next : Option RunTable) → now.room.next ≡ option_map next_of next → option_map facts_of next ≡ prepared_for now.desk row earlier step id → IfSome next HasLostRoom
    → HasSelectionRoom now row earlier step id
has-next now row zero step id next is facts room = tt
has-next now row (suc before) step id next is facts room = record {
  facts = ap (option_map (λ (one : NextRun). one.facts)) is ∙ fused next ∙ facts;
  lost = λ one there. by one next room (sym is ∙ there);
}
  where
    fused : (found : Option RunTable) → option_map (λ (one : NextRun). one.facts) (option_map next_of found) ≡ option_map facts_of found
    fused None = refl
    fused (Some table) = refl

    by : (one : NextRun) (found : Option RunTable) → IfSome found HasLostRoom → option_map next_of found ≡ Some one → length one.facts.passed ≤ one.lost
    by one None room e = absurd (some-not-none one (sym e))
    by one (Some table) room e = subst (λ (other : NextRun). length other.facts.passed ≤ other.lost) (same_Some (next_of table) one e) (omega (arith, room))

-- a run that continues none needs none
pub needs-none : (now : RoomyTables) (row : RunRow) (earlier step : ℕ) (id : Option Name) → earlier ≡ 0 → HasSelectionRoom now row earlier step id
needs-none now row zero step id is = tt
needs-none now row (suc before) step id is = absurd (omega (arith, is))
