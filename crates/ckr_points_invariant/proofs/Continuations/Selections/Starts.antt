-- A run that may be selected to continue another one at the start of a step does continue it, in the tables behind the event.
use Rattle.std.proofs.Common.{◌≡◌, ℕ, suc, true, false, not, List, ◌++◌, refl, ap, sym, ◌∙◌, subst, Option, Some, None}
use Rattle.std.specs.Option.{is_none, is_some, option_map_or}
use Rattle.std.proofs.lemmas.Bool.{false≢true}
use Rattle.ckr_base.proofs.Bools.{and-second}
use Rattle.ckr_events.specs.declared.event.Event.TheVariants.{Selected}
use Rattle.ckr_jcl.specs.declared.deck.Job.{Job}
use Rattle.ckr_library.specs.NameMaps.{Name, entry_at}
use Rattle.ckr_meaning.specs.EffectiveJob.{OwnedStep, is_among, names_of, names_of_job}
use Rattle.ckr_meaning.specs.JobRun.{at}
use Rattle.ckr_meaning.specs.LibrarySet.{Library}
use Rattle.ckr_meaning.specs.declared.place.Place.TheVariants.{Opened}
use Rattle.ckr_volumes.specs.declared.layout.Layout.{Layout}
use Rattle.ckr_points.specs.Marks.{deck_names, is_marked_absent, lost_names, mark_at, own_names, sysout_names}
use Rattle.ckr_points.specs.Office.{Leg, Office, leg_of, continued_leg}
use Rattle.ckr_points.specs.Restart.{Back, after_event, continued_row, deferred_start, needed_names, sets_back}
use Rattle.ckr_points.specs.Rows.{RunRow}
use Rattle.ckr_points_invariant.specs.Invariant.{AreAlike, AreOrderly, IsAgreed}
use Rattle.ckr_points_invariant.specs.Points.{ArePointed}
use Rattle.ckr_points_invariant.specs.StartedSteps.{AreBegunSteps}
use Rattle.ckr_points_invariant.proofs.Continuations.Follows.{after-selected, fresh-start}
use Rattle.ckr_points_invariant.proofs.Continuations.Freshness.{DeterminesMaking}
use Rattle.ckr_points_invariant.proofs.Continuations.Needed.{needed-start}
use Rattle.ckr_points_invariant.proofs.Marks.Points.{among-filter}
use Rattle.ckr_points_invariant.proofs.Continuations.EarlierRun.{Coming, IsContinued, IsEarlier, IsPutBack, leg_from, row_then, sets_then, tables_then}
use Rattle.ckr_points_invariant.proofs.Continuations.Marks.{step-own}
use Rattle.ckr_points_invariant.proofs.Continuations.Walks.{step-here}
use Rattle.std.specs.List.{list_all}
use Rattle.ckr_entry.specs.declared.point.Mark.{Mark}
use Rattle.ckr_entry.specs.declared.point.Present.{Present}
use Rattle.ckr_meaning.specs.EffectiveJob.{flaws_in}
use Rattle.ckr_meaning.specs.LibrarySet.{LibrarySet}
use Rattle.ckr_meaning.specs.StepRun.{placed_at}
use Rattle.ckr_points.specs.Payload.{is_orderly_dd}
use Rattle.ckr_points_invariant.specs.Invariant.{IsMarkOf}
use Rattle.ckr_points_invariant.proofs.Start.Openings.{opened-none}
use Rattle.ckr_points_invariant.proofs.Steps.Walks.{at-opened}
use Rattle.ckr_points_invariant.proofs.Continuations.SysoutNames.{step-sysout, sysout-listed}
use Rattle.ckr_points_invariant.proofs.Continuations.Selections.Earlier as earlier
use Rattle.ckr_points_invariant.specs.Restorability.{HasPoint}
use Rattle.ckr_points_invariant.specs.EarlierRuns.{MayContinue}
use Rattle.ckr_points_invariant.specs.RunningSteps.{start_of}

module _ (layout : Layout) (now : Office) (job initiator before step : ℕ) (its : MayContinue layout now.tables job initiator (suc before) step None) (start : Library) (reach : List Name)
    (kept : IsAgreed layout now) (orderly : AreOrderly now.tables) (begun : AreBegunSteps now) (pointed : ArePointed now) (led : leg_of now (suc before) ≡ Some (leg_from its.other start reach))
    (covers : (name : Name) → is_some (mark_at its.point.marks name) ≡ is_among (names_of_job its.other.job) name) where
  abbrev its_leg : Leg
  its_leg = leg_from its.other start reach

  abbrev earlier-start : IsEarlier now its.row its.other its_leg step its.point
  earlier-start = earlier.earlier-start layout now job initiator before step None its start reach kept orderly begun pointed led covers

  pointed-start : HasPoint its_leg (Opened step) its.point.marks its.point.passed
  pointed-start = earlier.pointed-start layout now job initiator before step None its start reach kept orderly begun pointed led covers

  same-step : its.owned ≡ earlier-start.begun.owned
  same-step = earlier.same-step layout now job initiator before step None its start reach kept orderly begun pointed led covers

  abbrev row_before : RunRow
  row_before = continued_row its.row its.other step its.point initiator now.tables.sets

  abbrev pub back : Back
  back = deferred_start row_before its.owned step its.point

  abbrev pub named : List Name
  named = own_names row_before ++ deck_names row_before.job.root row_before.number row_before.deck

  abbrev pub coming : Coming
  coming = record {
    place = Opened step;
    count = its.point.count;
    passed = its.point.passed;
    lost = lost_names its.point.marks named (sets_back row_before its.owned back now.tables.sets) its.point.passed;
    effect = its.row.in_effect;
  }

  abbrev pub next : RunRow
  next = row_then now its.row its.other step its.point initiator coming

  -- the tables behind the event are those
  pub tables-behind : (deck : Option Job) → after_event (Selected job initiator (suc before) step None) deck now.tables ≡ tables_then now next (sets_then now its.other its.owned its.point.marks back.needed back.removed)
  tables-behind deck = after-selected layout now.tables job initiator before step None deck its

  -- the DDs of the step are those of an orderly deck
  module _ (dds : list_all is_orderly_dd its.owned.step.dds ≡ true) where
    listed : (name : Name) → is_among (sysout_names its.other.job.root its.owned) name ≡ true → is_among (names_of its.other.job.root its.owned) name ≡ true
    listed name among = sysout-listed its.other.job.root its.owned name its.owned.step.dds among

    -- so the point marks its SYSOUT names absent
    sysout : (name : Name) → is_among (sysout_names its.other.job.root its.owned) name ≡ true → is_some (mark_at its.point.marks name) ≡ true → is_marked_absent its.point.marks name ≡ true
    sysout name among has = by (mark_at its.point.marks name) has (entry_at (at its.other.job start (Opened step)).sets name) (earlier-start.marks.says name (earlier-start.marks.alone name has)) absent
      where
        absent : is_none (entry_at (at its.other.job start (Opened step)).sets name) ≡ true
        absent =
            ap (λ (library : Library). is_none (entry_at library name)) (at-opened its.other.job start step its.owned its.found)
            ∙ opened-none (start_of its.other.job start step its.owned) name
            ∙ step-sysout (start_of its.other.job start step its.owned) name dds
            (ap (λ (owned : OwnedStep). flaws_in (placed_at (start_of its.other.job start step owned))) same-step ∙ earlier-start.begun.flawless) among

        none : (present : Option Present) (set : Option LibrarySet) → IsMarkOf present set → is_none set ≡ true → is_none present ≡ true
        none None set says gone = refl
        none (Some present) None says gone = absurd says
        none (Some present) (Some set) says gone = absurd (false≢true gone)

        by : (mark : Option Mark) → is_some mark ≡ true → (set : Option LibrarySet) → IsMarkOf (option_map_or (λ (mark : Mark). mark.present) mark None) set → is_none set ≡ true → option_map_or (λ (mark : Mark). is_none mark.present) mark false ≡ true
        by None has set says gone = absurd (false≢true has)
        by (Some mark) has set says gone = none mark.present set says gone

    needed-own : (name : Name) → is_among back.needed name ≡ true → is_among (own_names next) name ≡ true
    needed-own name among =
        and-second (is_some (mark_at its.point.marks name)) _
        (sym (among-filter (λ name. is_some (mark_at its.point.marks name)) (own_names next) name)
        ∙ and-second (not (is_among (sysout_names its.other.job.root its.owned) name)) _
        (sym (among-filter (λ name. not (is_among (sysout_names its.other.job.root its.owned) name)) (needed_names row_before.job step its.point.marks) name) ∙ among))

    removed-own : (name : Name) → is_among back.removed name ≡ true → is_among (own_names next) name ≡ true
    removed-own name among =
        step-own now its.row its.other start reach step its.point earlier-start initiator coming its.owned name
        (step-here now its.row its.other start reach step its.point earlier-start initiator coming ∙ ap Some (sym same-step))
        (listed name (and-second (is_marked_absent its.point.marks name) _ (sym (among-filter (is_marked_absent its.point.marks) (sysout_names its.other.job.root its.owned) name) ∙ among)))

    pub back-start : IsPutBack now next its.other its.owned start coming its.point.marks back.needed back.removed named
    back-start = record {
      all = earlier-start.marks;
      are = needed-start row_before.job step its.point.marks (sysout_names its.other.job.root its.owned) sysout;
      judged = fresh-start layout now.tables job initiator (suc before) step its;
      needed_own = needed-own;
      removed_own = removed-own;
      lost = refl;
    }

    -- A run that may be selected continues the earlier one.
    pub continued-start : (left : (name : Name) → is_among (continued_leg now next its_leg).reach name ≡ true → AreAlike now.tables.sets now.library name)
        → (making : (name : Name) → is_among (continued_leg now next its_leg).reach name ≡ true → DeterminesMaking now.tables.sets (at its.other.job start (Opened step)).sets name)
        → IsContinued now its.row its.other start reach step its.point initiator coming its.point.marks back.needed back.removed (deck_names row_before.job.root row_before.number row_before.deck)
    continued-start left making = record {
      earlier = earlier-start;
      restart = ap is_some its.has;
      comes = refl;
      passed = pointed-start.passed_on;
      back = subst (λ (owned : OwnedStep). IsPutBack now next its.other owned start coming its.point.marks back.needed back.removed named) same-step back-start;
      left = left;
      making = making;
    }
