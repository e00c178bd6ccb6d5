-- A step that starts has its data set for checkpoints as long as its point marks it.
use Rattle.std.proofs.Common.{◌≡◌, ◌≢◌, ◌≤◌, ℕ, true, false, ◌&&◌, inl, inr, List, refl, ap, sym, ◌∙◌, subst, Some, arith}
use Rattle.std.specs.List.{AllByRecursion}
use Rattle.std.specs.Option.{is_none}
use Rattle.std.proofs.lemmas.Bool.{false≢true}
use Rattle.std.proofs.lemmas.Option.{same_Some}
use Rattle.ckr_base.proofs.Numbers.{number-cases}
use Rattle.ckr_base.proofs.Options.{option_map-some, some-not-none, some-one}
use Rattle.ckr_entry.specs.declared.point.Present.{Present}
use Rattle.ckr_events.specs.declared.event.Made.{Made}
use Rattle.ckr_library.specs.NameMaps.{Name, Named, entry_at}
use Rattle.ckr_meaning.specs.Allotments.{DdAllotment}
use Rattle.ckr_meaning.specs.EffectiveJob.{Effective, OwnedStep, flaws_in, is_among, names_of, stamp_of}
use Rattle.ckr_meaning.specs.StepRun.{StepStart, opened_at, placed_at}
use Rattle.ckr_meaning.specs.declared.place.Place.TheVariants.{Within}
use Rattle.ckr_volumes.specs.declared.layout.Layout.{Layout}
use Rattle.ckr_points_library.specs.Commit.{output_names}
use Rattle.ckr_points.specs.Follows.{is_within, own_step}
use Rattle.ckr_points.specs.Marks.{marks_now, own_names, point_at, present_at, present_of, with_point}
use Rattle.ckr_points.specs.Office.{Leg, Office}
use Rattle.ckr_points.specs.Restart.{place_of}
use Rattle.ckr_points.specs.Rows.{RunRow, StartPoint, TableSet}
use Rattle.ckr_points.specs.Tables.{after_started, made_tables, start_point}
use Rattle.ckr_points_invariant.specs.Invariant.{IsAgreed, IsAtPlace, step_now}
use Rattle.ckr_points_invariant.specs.Points.{ArePointed}
use Rattle.ckr_points_invariant.specs.Readiness.{AreReady}
use Rattle.ckr_points_invariant.specs.WrittenEntries.{AreWrittenEntries, HasEntered, HasGrown, HasWrittenEntries, check_set}
use Rattle.ckr_points_invariant.specs.RunningSteps.{its_start}
use Rattle.ckr_points_invariant.proofs.Holders.Places.{outputs-among}
use Rattle.ckr_points_invariant.proofs.Holders.SharedSets.{Unmade}
use Rattle.ckr_points_invariant.proofs.Library.Likeness.{none-alike}
use Rattle.ckr_points_invariant.proofs.Marks.Points.{point_at-new, point_at-other, present-now}
use Rattle.ckr_points_invariant.proofs.OtherRuns.Sets.{LeavesApart}
use Rattle.ckr_points_invariant.proofs.Readiness.Starts.{made_tables-left}
use Rattle.ckr_points_invariant.proofs.Restart.Libraries.{unmade-all}
use Rattle.ckr_points_invariant.proofs.Start.Event.{StartsNow}
use Rattle.ckr_points_invariant.proofs.Start.Invariant as starting
use Rattle.ckr_points_invariant.proofs.Start.Openings.{opened-none}
use Rattle.ckr_points_invariant.proofs.StepEnd.Disposals.{names_made-placed}
use Rattle.ckr_points_invariant.proofs.WrittenEntries.Entries.{KeepsItsPoints, KeepsStep, entries-through}
use Rattle.ckr_points_invariant.proofs.WrittenEntries.Offices.{IsGrown, written-moved}
use Rattle.ckr_points_invariant.proofs.WrittenEntries.Sets.{made_all-has, opened_all-has}

module _ (layout : Layout) (now : Office) (job : ℕ) (row : RunRow) (leg : Leg) (owned : OwnedStep) (step : ℕ) (items : List Made) (kept : IsAgreed layout now) (ready : AreReady now) (starts : StartsNow layout now job row leg owned step items) where
  abbrev start : StepStart
  start = its_start leg owned step

  here : step_now row ≡ step
  here = starting.now layout now job row leg owned step items kept starts.holder starts.stands starts.found

  abbrev placed : List DdAllotment
  placed = starting.placed layout now job row leg owned step items kept starts.holder starts.stands starts.found

  abbrev opened : Named TableSet
  opened = starting.opened layout now job row leg owned step items kept starts.holder starts.stands starts.found

  abbrev sets : Named TableSet
  sets = made_tables (stamp_of owned step) items placed opened

  abbrev next : RunRow
  next = record row { place = Some (Within step 0); points = with_point (start_point row step opened) row.points }

  its_place : IsAtPlace now.tables row leg
  its_place = kept.places job row leg starts.holder

  placed_so : placed ≡ placed_at start
  placed_so = starting.placed_so layout now job row leg owned step items kept starts.holder starts.stands starts.found

  -- what is there as the step opens isn't made
  unmade_so : (name : Name) → is_none (entry_at start.standing.sets name) ≡ false → AllByRecursion (Unmade name) placed
  unfolding placed_at
  unmade_so name there =
      subst (AllByRecursion (Unmade name)) (sym placed_so)
      (unmade-all name (placed_at start)
      (names_made-placed start.standing start.root start.owned 1 start.owned.step.dds name (ap flaws_in (sym placed_so) ∙ starts.flawless)
      ∙ ap (λ b. b && is_among (names_of start.root start.owned) name) there))

  in_reach : (name : Name) → is_among (output_names row.job.root owned) name ≡ true → (is_among leg.reach name ≡ true) × (is_among (own_names row) name ≡ true)
  in_reach name among =
      its_place.ahead step owned name (subst (λ n. n ≤ step) (sym here) (omega arith))
      (starting.found_leg layout now job row leg owned step items kept starts.holder starts.stands starts.found)
      (outputs-among leg.job.root owned name (ap (λ (effective : Effective). is_among (output_names effective.root owned) name) its_place.job ∙ among))

  -- an output that is there as the step opens stays
  opened_stays : (name : Name) (table : TableSet) → is_among (output_names row.job.root owned) name ≡ true → entry_at opened name ≡ Some table → entry_at sets name ≡ Some table
  opened_stays name table among there =
      made_tables-left (stamp_of owned step) items placed opened name
      (unmade_so name
      (sym (opened-none start name)
      ∙ sym (none-alike opened (opened_at start) name (starting.opened_so layout now job row leg owned step items kept starts.holder starts.stands starts.found name (in_reach name among).0))
      ∙ ap is_none there))
      ∙ there

  long_so : (present : Present) (table : TableSet) → is_among (output_names row.job.root owned) (check_set row owned) ≡ true → present_at (marks_now row opened) (check_set row owned) ≡ Some present → entry_at sets (check_set row owned) ≡ Some table → present.length ≤ table.set.length
  long_so present table among marked there =
      let set : Name = check_set row owned in
      let was = option_map-some present_of (entry_at opened set) present (sym (present-now row opened set (in_reach set among).1) ∙ marked) in
      let same : was.0 ≡ table = some-one was.0 table (entry_at sets set) (opened_stays set was.0 among was.1) there in
      subst (λ n. n ≤ table.set.length) (ap (λ (one : TableSet). one.set.length) (sym same) ∙ ap (λ (p : Present). p.length) was.2) (omega arith)

  outside : is_within (place_of row) ≡ false
  outside = elim starts.stands [ inl before ↦ ap is_within before | inr there ↦ ap is_within there ]

  started-grown : IsGrown sets next
  started-grown inside other point found got =
      subst (λ its. HasGrown sets next its point.marks) (some-one owned other (own_step next) starts.found found)
      (subst (λ (its : StartPoint). HasGrown sets next owned its.marks) (same_Some (start_point row step opened) point (sym (point_at-new (start_point row step opened) row.points) ∙ got))
      (record {
        since = long_so;
        effect = λ effect entry in_effect. absurd (some-not-none effect (sym in_effect ∙ (ready.runs job row leg starts.holder).none outside));
      }))

  started-points : KeepsItsPoints row next
  started-points number point got =
      number-cases number step
      (λ same. (start_point row step opened, ap (point_at next.points) same ∙ point_at-new (start_point row step opened) row.points))
      (λ apart. (point, point_at-other (start_point row step opened) row.points number apart ∙ got))

  -- a step that the run entered before has its point
  entered-keeps : (number : ℕ) → HasEntered row number → KeepsStep row next number
  entered-keeps number entered =
      let under : number ≤ step_now row = entered.0 in
      let apart : number ≢ step = λ e. absurd (false≢true (sym outside ∙ entered.1 (e ∙ sym here))) in
      record {
        point = λ point got. record { later = point; has = point_at-other (start_point row step opened) row.points number apart ∙ got; marks = refl; passed = refl; told = λ e. e };
        entered = λ holds. (let is : step_now row ≡ step = here in omega (arith, under, is), λ e. refl);
      }

  pub written-step : (pointed : ArePointed now) → AreWrittenEntries now → LeavesApart now job sets → AreWrittenEntries (record now { tables = after_started row owned step items now.tables })
  written-step pointed written left =
      written-moved layout now kept pointed ready written job row next leg sets now.library starts.holder refl (record { job = refl; deck = refl; own_from = refl; selected = λ was. refl }) left
      (made_all-has (HasWrittenEntries now) (entries-through now) (stamp_of owned step) items placed opened
      (opened_all-has (HasWrittenEntries now) (entries-through now) (stamp_of owned step) placed now.tables.sets written.sets))
      started-points entered-keeps (λ holds. started-grown)
