-- A run is ready where its step has started.
use Rattle.std.proofs.Common.{◌≡◌, inl, inr, ℕ, true, false, cond, List, [], ◌∷◌, refl, ap, sym, ◌∙◌, Some, arith}
use Rattle.std.specs.List.{AllByRecursion}
use Rattle.std.specs.Option.{is_some}
use Rattle.std.proofs.lemmas.Bool.{false≢true}
use Rattle.ckr_base.proofs.Bools.{bool-cases}
use Rattle.ckr_base.proofs.Options.{some-not-none}
use Rattle.ckr_events.specs.declared.event.Made.{Made}
use Rattle.ckr_library.specs.declared.sets.Stamp.{Stamp}
use Rattle.ckr_library.specs.NameMaps.{Name, Named, same_name, entry_at}
use Rattle.ckr_library.proofs.Named.{at-with_entry}
use Rattle.ckr_meaning.specs.Allotments.{AllotmentModel, found, made, refused, DdAllotment, is_made}
use Rattle.ckr_meaning.specs.EffectiveJob.{OwnedStep, stamp_of}
use Rattle.ckr_meaning.specs.StepRun.{StepStart, placed_at}
use Rattle.ckr_meaning.specs.declared.place.Place.TheVariants.{Within}
use Rattle.ckr_volumes.specs.declared.layout.Layout.{Layout}
use Rattle.ckr_points.specs.Follows.{is_within}
use Rattle.ckr_points.specs.Marks.{with_point}
use Rattle.ckr_points.specs.Office.{Leg, Office}
use Rattle.ckr_points.specs.Restart.{place_of}
use Rattle.ckr_points.specs.Rows.{RunRow, TableSet}
use Rattle.ckr_points.specs.Tables.{fresh_table, made_table, made_tables, parts_from, start_point}
use Rattle.ckr_points_invariant.specs.Invariant.{IsAgreed, step_now}
use Rattle.ckr_points_invariant.proofs.Holders.SharedSets.{Unmade}
use Rattle.ckr_points_invariant.proofs.Marks.Points.{point_at-new}
use Rattle.ckr_points_invariant.proofs.Start.Event.{StartsNow}
use Rattle.ckr_points_invariant.proofs.Start.Invariant as starting
use Rattle.ckr_points_invariant.specs.Readiness.{IsReady}
use Rattle.ckr_points_invariant.specs.Restorability.{IsRestorable}
use Rattle.ckr_points_invariant.specs.RunningSteps.{its_start}
use Rattle.ckr_points_invariant.proofs.Readiness.Writes.{unwritten-none}

-- ---- what a step makes, of the tables

pub made_left : (stamp : Stamp) (items : List Made) (placed : DdAllotment) (allotment : AllotmentModel) (sets : Named TableSet) (name : Name) → (same_name name placed.name ≡ true → is_made allotment ≡ false) → entry_at (made_table stamp items placed allotment sets) name ≡ entry_at sets name
made_left stamp items placed found sets name unless = refl
made_left stamp items placed made sets name unless =
    bool-cases (same_name name placed.name) (λ same. absurd (false≢true (sym (unless same))))
    (λ apart.
    at-with_entry placed.name name (fresh_table stamp placed (parts_from placed.number items)) sets
    ∙ ap (λ b. cond b (Some (fresh_table stamp placed (parts_from placed.number items))) (entry_at sets name)) apart)
made_left stamp items placed (refused flaw) sets name unless = refl

-- a name that it doesn't make is left
pub made_tables-left : (stamp : Stamp) (items : List Made) (all : List DdAllotment) (sets : Named TableSet) (name : Name) → AllByRecursion (Unmade name) all → entry_at (made_tables stamp items all sets) name ≡ entry_at sets name
made_tables-left stamp items [] sets name left = refl
made_tables-left stamp items (placed ∷ rest) sets name left =
    made_tables-left stamp items rest (made_table stamp items placed placed.allotment sets) name left.1
    ∙ made_left stamp items placed placed.allotment sets name left.0

-- ---- the run in its step

module _ (layout : Layout) (now : Office) (job : ℕ) (row : RunRow) (leg : Leg) (owned : OwnedStep) (step : ℕ) (items : List Made) (kept : IsAgreed layout now) (starts : StartsNow layout now job row leg owned step items) (ready : IsReady now.tables.sets row leg) where
  abbrev start : StepStart
  start = its_start leg owned step

  here : step_now row ≡ step
  here = starting.now layout now job row leg owned step items kept starts.holder starts.stands starts.found

  abbrev placed : List DdAllotment
  placed = starting.placed layout now job row leg owned step items kept starts.holder starts.stands starts.found

  abbrev opened : Named TableSet
  opened = starting.opened layout now job row leg owned step items kept starts.holder starts.stands starts.found

  abbrev pub started_sets : Named TableSet
  started_sets = made_tables (stamp_of owned step) items placed opened

  abbrev pub started_row : RunRow
  started_row = record row { place = Some (Within step 0); points = with_point (start_point row step opened) row.points }

  placed_so : placed ≡ placed_at start
  placed_so = starting.placed_so layout now job row leg owned step items kept starts.holder starts.stands starts.found

  point_restorable : IsRestorable started_row leg 0
  point_restorable = record {
    behind = omega arith;
    unwritten = λ its at_step. unwritten-none its 0;
  }

  outside : is_within (place_of row) ≡ false
  outside = elim starts.stands [ inl before ↦ ap is_within before | inr there ↦ ap is_within there ]

  pub started-ready : IsReady started_sets started_row leg
  started-ready = record {
    begun = λ within. ap is_some (point_at-new (start_point row step opened) row.points);
    steps = λ point within got unwritten. point_restorable;
    check = λ effect within got. absurd (some-not-none effect (sym got ∙ ready.none outside));
    none = λ out. absurd (false≢true (sym out));
  }
