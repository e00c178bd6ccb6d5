-- A run that is selected, and a step that starts, keep the stamps; and the events are kept with their stamps.
use Rattle.std.proofs.Common.{◌≡◌, ◌≢◌, ◌≤◌, ℕ, pred, true, List, flat_map, take, ap, sym, ◌∙◌, subst, Some, None, arith, []}
use Rattle.std.specs.List.{AllByRecursion}
use Rattle.std.specs.Option.{option_map, is_some}
use Rattle.std.proofs.lemmas.Bool.{false≢true}
use Rattle.std.proofs.lemmas.Option.{same_Some}
use Rattle.ckr_base.proofs.Bools.{bool-cases}
use Rattle.ckr_base.proofs.Numbers.{number-cases}
use Rattle.ckr_base.proofs.Options.{some-not-none}
use Rattle.ckr_events.specs.declared.event.Made.{Made}
use Rattle.ckr_library.specs.NameMaps.{Name, Named, entry_at}
use Rattle.ckr_meaning.specs.LibrarySet.{LibrarySet}
use Rattle.ckr_meaning.specs.Allotments.{DdAllotment}
use Rattle.ckr_meaning.specs.EffectiveJob.{OwnedStep, flaws_in, is_among, stamp_of, step_at}
use Rattle.ckr_meaning.specs.declared.place.Place.{Place}
use Rattle.ckr_meaning.specs.declared.place.Place.TheVariants.{Opened}
use Rattle.ckr_meaning.specs.JobRun.{all_go_on, at, walk_from}
use Rattle.ckr_meaning.specs.StepRun.{opened_at, placed_at}
use Rattle.ckr_volumes.specs.declared.layout.Layout.{Layout}
use Rattle.ckr_points.specs.declared.run.RunState.TheVariants.{Queued}
use Rattle.ckr_points.specs.Tables.{after_started, start_point}
use Rattle.ckr_points.specs.Follows.{is_in_state, may_hold}
use Rattle.ckr_points_invariant.specs.Invariant.{AreBegun, IsKept, AreStamped, IsAtPlace, HasBegun, IsMarkedShort, IsReached, IsShortMark, step_now, table_shape}
use Rattle.ckr_points_invariant.specs.RunningSteps.{start_of}
use Rattle.ckr_points.specs.Marks.{present_of}
use Rattle.ckr_points.specs.Office.{Leg, Office, leg_of, no_office}
use Rattle.ckr_points.specs.Rows.{RunRow, StartPoint, TableSet, run_of}
use Rattle.ckr_points_invariant.proofs.Stamps.Beginnings.{places-begun}
use Rattle.ckr_points_invariant.proofs.Select.Invariant.{chosen, led_here, led_there, next, owns, waits}
use Rattle.ckr_points_invariant.proofs.Marks.Changes.{holds-run, holds-sets, made_all-holds, opened_all-holds, points-with, row-holds}
use Rattle.ckr_points_invariant.proofs.Stamps.Tables.{alike_set, begun-legs, led-by-begun, marks-short, marks-weaker, short-legs, short-of, stamped-on, table-short}
use Rattle.ckr_points_invariant.proofs.Start.Invariant as starting
use Rattle.ckr_points_invariant.proofs.Start.Event.{StartsNow}
use Rattle.ckr_points_invariant.proofs.Steps.Walks.{at-opened, start_at-of}

-- ---- selected

module _ (layout : Layout) (office : Office) (row : RunRow) (initiator : ℕ) (kept : IsKept layout office) (row_at : run_of office.tables row.number ≡ Some row)
    (queued : is_in_state Queued row ≡ true) (plain : row.deck.restart ≡ None) (may : may_hold office.tables row ≡ true) where
  abbrev later : Office
  later = chosen layout office row initiator kept.events row_at queued plain may

  there : (other : ℕ) → is_some (leg_of office other) ≡ true → leg_of later other ≡ leg_of office other
  there other led = led_there layout office row initiator kept.events row_at queued plain may other (not_mine other led)
    where
      not_mine : (other : ℕ) → is_some (leg_of office other) ≡ true → other ≢ row.number
      not_mine other led here = false≢true (sym (ap is_some (ap (leg_of office) here ∙ (waits layout office row initiator kept.events row_at queued plain may).alone)) ∙ led)

  begun_later : (name : Name) (set : LibrarySet) → HasBegun office name set → HasBegun later name set
  begun_later name set begun = begun-legs office later name set (there set.stamp.run (led-by-begun office name set begun)) begun

  new : (name : Name) (set : LibrarySet) → entry_at office.library name ≡ Some set → set.stamp.run ≢ row.number
  new name set e mine =
      false≢true (sym (ap is_some (ap (leg_of office) mine ∙ (waits layout office row initiator kept.events row_at queued plain may).alone)) ∙ led-by-begun office name set (kept.stamps.begun name set e))

  places_later : (number : ℕ) (leg : Leg) (place : Place) → leg_of later number ≡ Some leg → IsReached leg place → AreBegun later (at leg.job leg.start place).sets
  places_later number leg place led reached =
      number-cases number row.number
      (λ here.
      let mine = led_here layout office row initiator kept.events row_at queued plain may in
      let so = same_Some _ leg (sym mine ∙ ap (leg_of later) (sym here) ∙ led) in
      subst (λ (l : Leg). IsReached l place → AreBegun later (at l.job l.start place).sets) so
      (places-begun later _ row.number mine (waits layout office row initiator kept.events row_at queued plain may).formed (owns layout office row initiator kept.events row_at queued plain may)
      (λ name set e. begun_later name set (kept.stamps.begun name set e)) new place) reached)
      (λ apart name set e.
      begun_later name set (kept.stamps.places number leg place (sym (led_there layout office row initiator kept.events row_at queued plain may number apart) ∙ led) reached name set e))

  pub stamped-chosen : AreStamped later
  stamped-chosen = record {
    begun = λ name set e. begun_later name set (kept.stamps.begun name set e);
    places = places_later;
    marks =
        marks-weaker (IsMarkedShort office) (IsMarkedShort later) later.tables
        (λ mark short present e. short-legs office later mark.name present (there present.stamp.run (short present e).led) (short present e))
        (holds-run (IsMarkedShort office) (next layout office row initiator kept.events row_at queued plain may) office.tables (row-holds (IsMarkedShort office) office.tables row.number row kept.stamps.marks row_at) kept.stamps.marks);
  }

-- ---- started

module _ (layout : Layout) (office : Office) (job : ℕ) (row : RunRow) (leg : Leg) (owned : OwnedStep) (step : ℕ) (items : List Made) (kept : IsKept layout office) (starts : StartsNow layout office job row leg owned step items) where
  abbrev opened : Named TableSet
  opened = starting.opened layout office job row leg owned step items kept.events starts.holder starts.stands starts.found

  abbrev placed : List DdAllotment
  placed = starting.placed layout office job row leg owned step items kept.events starts.holder starts.stands starts.found

  place : IsAtPlace office.tables row leg
  place = kept.events.places job row leg starts.holder

  now : step_now row ≡ step
  now = starting.now layout office job row leg owned step items kept.events starts.holder starts.stands starts.found

  leg_step : step_at leg.job step ≡ Some owned
  leg_step = starting.found_leg layout office job row leg owned step items kept.events starts.holder starts.stands starts.found

  reached : IsReached leg (Opened step)
  reached = record {
    begun = subst (λ n. 1 ≤ n) now place.begun;
    goes_on = ap (λ n. all_go_on leg.job.root 1 (take (pred n) leg.job.steps) (walk_from leg.start)) (sym now) ∙ place.goes_on;
    flawless = λ its behind e.
        subst (λ s. flaws_in (placed_at s) ≡ []) (same_Some (start_of leg.job leg.start step owned) its (sym (start_at-of leg.job leg.start step owned leg_step) ∙ e))
        (ap flaws_in (sym (starting.placed_so layout office job row leg owned step items kept.events starts.holder starts.stands starts.found)) ∙ starts.flawless);
    some = λ its e. omega arith;
  }

  -- what is marked now
  opened_short : (name : Name) (table : TableSet) → entry_at opened name ≡ Some table → IsShortMark office name (present_of table)
  opened_short name table e =
      bool-cases (is_among leg.reach name)
      (λ among.
      let alike = starting.opened_so layout office job row leg owned step items kept.events starts.holder starts.stands starts.found name among in
      let its = alike_set table (entry_at (opened_at (start_of leg.job leg.start step owned)) name) (ap (option_map table_shape) (sym e) ∙ alike) in
      short-of office name table its.0 its.2
      (kept.stamps.places job leg (Opened step) starts.holder.leg_at reached name its.0 (ap (λ library. entry_at library name) (at-opened leg.job leg.start step owned leg_step) ∙ its.1)))
      (λ out.
      table-short layout office name table kept
      (sym (starting.opened_out layout office job row leg owned step items kept.events starts.holder starts.stands starts.found name out) ∙ e))

  mine : AllByRecursion (IsMarkedShort office) (flat_map (λ (point : StartPoint). point.marks) row.points)
  mine = row-holds (IsMarkedShort office) office.tables job row kept.stamps.marks starts.holder.row_at

  pub stamped-starts : AreStamped (record office { tables = after_started row owned step items office.tables })
  stamped-starts =
      stamped-on office (after_started row owned step items office.tables) office.library kept.stamps kept.stamps.begun
      (holds-run (IsMarkedShort office) _ (record office.tables { sets = starting.sets layout office job row leg owned step items kept.events starts.holder starts.stands starts.found })
      (points-with (IsMarkedShort office) (start_point row step opened) row.points
      (marks-short office row opened opened_short mine) mine)
      (holds-sets (IsMarkedShort office) office.tables _ (made_all-holds (IsMarkedShort office) (stamp_of owned step) items placed opened (opened_all-holds (IsMarkedShort office) (stamp_of owned step) placed office.tables.sets kept.stamps.marks.entries)) kept.stamps.marks))

-- ---- no events

pub stamped-none : AreStamped no_office
stamped-none = record {
  begun = λ name set e. absurd (some-not-none set (sym e));
  places = λ number leg place led. absurd (some-not-none leg (sym led));
  marks = record { rows = tt; entries = tt };
}
