-- A run that continues another one at an entry is ready to restart: the entry is its checkpoint in effect, and says of the step what its job has.
use Rattle.std.proofs.Common.{◌≡◌, ◌≤◌, ◌-◌, ℕ, true, false, not, ◌&&◌, List, [], drop, take, length, refl, ap, sym, ◌∙◌, subst, Some, arith}
use Rattle.std.specs.Prelude.{◌==◌, nat_le}
use Rattle.std.specs.List.{list_all}
use Rattle.std.proofs.lemmas.Bool.{false≢true}
use Rattle.std.proofs.lemmas.Option.{same_Some}
use Rattle.ckr_base.specs.declared.programs.Write.{Write}
use Rattle.ckr_base.proofs.Options.{is_some-from, some-one}
use Rattle.ckr_entry.specs.declared.point.Mark.{Mark}
use Rattle.ckr_entry.specs.declared.point.Passed.{Passed}
use Rattle.ckr_library.specs.NameMaps.{Name, Named}
use Rattle.ckr_meaning.specs.EffectiveJob.{OwnedStep, is_among, names_of, step_at}
use Rattle.ckr_meaning.specs.JobRun.{at, start_at}
use Rattle.ckr_meaning.specs.LibrarySet.{Library}
use Rattle.ckr_meaning.specs.Program.{ProgramCase, records_taken, upto}
use Rattle.ckr_meaning.specs.StepRun.{StepStart, case_at}
use Rattle.ckr_meaning.specs.declared.place.Place.{Place}
use Rattle.ckr_meaning.specs.declared.place.Place.TheVariants.{Within}
use Rattle.ckr_meaning.proofs.Fronts.{begin-case}
use Rattle.ckr_programs.specs.Work.{Work}
use Rattle.ckr_points_library.specs.Commit.{output_names}
use Rattle.ckr_points.specs.Marks.{point_at, present_at}
use Rattle.ckr_points.specs.Office.{Leg, Office, continued_leg, leg_of}
use Rattle.ckr_points.specs.Payload.{carries_taken, is_in_place, rewrites_nothing}
use Rattle.ckr_points.specs.Restart.{carried_point, kept_at, step_in}
use Rattle.ckr_points.specs.Rows.{EffectPoint, KeptEntry, RunRow, StartPoint, TableSet}
use Rattle.ckr_points.specs.Tables.{fresh_effect}
use Rattle.ckr_points_invariant.specs.Invariant.{IsMarkOf}
use Rattle.ckr_points_invariant.specs.Readiness.{IsCheck, IsReady, KeepsEntry}
use Rattle.ckr_points_invariant.specs.Restorability.{HasPoint, IsRestorable}
use Rattle.ckr_points_invariant.specs.StartedSteps.{start_by}
use Rattle.ckr_points_invariant.specs.WrittenEntries.{AreWrittenEntries, IsEntryOf, IsWrittenEntry}
use Rattle.ckr_points_invariant.proofs.Continuations.EarlierRun.{Coming, IsEarlier, leg_from, row_then, sets_then}
use Rattle.ckr_points_invariant.proofs.Continuations.Fronts.{place-earlier, place-passed}
use Rattle.ckr_points_invariant.proofs.Continuations.Marks.{carried-is}
use Rattle.ckr_points_invariant.proofs.Continuations.Walks as walks
use Rattle.ckr_points_invariant.proofs.Continuations.WrittenEntries.Marks.{kept-so}
use Rattle.ckr_points_invariant.proofs.Readiness.Restarts.{back-keeps}
use Rattle.ckr_points_invariant.proofs.Readiness.Writes.{unwritten-none}
use Rattle.ckr_points_invariant.proofs.Select.Invariant.{among-step}
use Rattle.ckr_points_invariant.proofs.WrittenEntries.Entries.{written-by}

module _ (now : Office) (row other : RunRow) (start : Library) (reach : List Name) (step : ℕ) (point : StartPoint) (earlier : IsEarlier now row other (leg_from other start reach) step point)
    (initiator : ℕ) (coming : Coming) where
  abbrev owned_by_both : OwnedStep
  owned_by_both = walks.owned now row other start reach step point earlier initiator coming

  abbrev leg_there : Leg
  leg_there = continued_leg now (row_then now row other step point initiator coming) (leg_from other start reach)

  -- What a point of the earlier run says of the step, at a place of it, it says of the run's job too.
  pub point-there : (place : Place) (marks : List Mark) (passed : List Passed) → step_in place ≡ step → HasPoint (leg_from other start reach) place marks passed → HasPoint leg_there place marks passed
  point-there place marks passed stands has = record {
    marked = λ its name found among.
        let same : owned_by_both ≡ its = walks.step-same now row other start reach step point earlier initiator coming its (ap (step_at leg_there.job) (sym stands) ∙ found) in
        let listed : is_among (names_of other.job.root owned_by_both) name ≡ true = ap (λ (its : OwnedStep). is_among (names_of other.job.root its) name) same ∙ among in
        subst (IsMarkOf (present_at marks name))
        (sym (place-earlier other.job start now.library step row.number row.deck owned_by_both earlier.begun.found place name low (among-step other.job step owned_by_both name earlier.begun.found listed)))
        (has.marked owned_by_both name (ap (step_at other.job) stands ∙ earlier.begun.found) listed);
    passed_on = has.passed_on ∙ sym (place-passed other.job start now.library step row.number row.deck owned_by_both earlier.begun.found place low);
  }
    where
      low : step_in place ≤ step
      low = omega (arith, stands)

-- It comes to an entry that the earlier run wrote in the step, which is in effect then.
module _ (now : Office) (row other : RunRow) (start : Library) (reach : List Name) (step : ℕ) (point : StartPoint) (earlier : IsEarlier now row other (leg_from other start reach) step point)
    (initiator count : ℕ) (passed : List Passed) (lost needed : List Name) (written : AreWrittenEntries now) (led : leg_of now other.number ≡ Some (leg_from other start reach))
    (set id : Name) (entry : KeptEntry) (found : kept_at now.tables.sets set id ≡ Some entry) (run : entry.point.run ≡ other.number) (at_step : entry.point.step ≡ step)
    (has : HasPoint (leg_from other start reach) (Within step entry.point.writes) entry.point.marks entry.point.passed) where
  abbrev place : Place
  place = Within step entry.point.writes

  abbrev effect : EffectPoint
  effect = fresh_effect set entry.kept

  abbrev coming : Coming
  coming = record { place = place; count = count; passed = passed; lost = lost; effect = Some effect }

  abbrev next : RunRow
  next = row_then now row other step point initiator coming

  abbrev leg : Leg
  leg = continued_leg now next (leg_from other start reach)

  abbrev owned : OwnedStep
  owned = walks.owned now row other start reach step point earlier initiator coming

  abbrev back : Named TableSet
  back = sets_then now other owned entry.point.marks needed []

  abbrev carried : StartPoint
  carried = carried_point leg.job now.tables.sets point

  -- the step as the run's job starts it, and as the earlier run's job did
  abbrev starts : StepStart
  starts = walks.starts now row other start reach step point earlier initiator coming

  abbrev started : StepStart
  started = walks.started now row other start reach step point earlier initiator coming

  -- ---- what the earlier run has of the entry

  kept : KeepsEntry now.tables.sets set entry.kept.id entry × IsWrittenEntry now set entry
  kept = kept-so now set id entry written found

  of-other : IsEntryOf other (leg_from other start reach) set entry
  of-other = written-by now other.number other (leg_from other start reach) set entry earlier.other_at led run kept.1

  owned-is : of-other.owned ≡ owned
  owned-is = some-one of-other.owned owned (step_at other.job step) (ap (step_at other.job) (sym at_step) ∙ of-other.found) earlier.begun.found

  point-is : of-other.point ≡ point
  point-is = some-one of-other.point point (point_at other.points step) (ap (point_at other.points) (sym at_step) ∙ of-other.has) earlier.has

  started-is : start_by (leg_from other start reach) of-other.owned entry.point.step ≡ started
  started-is =
      ap (λ (its : OwnedStep). start_by (leg_from other start reach) its entry.point.step) owned-is
      ∙ ap (start_by (leg_from other start reach) owned) at_step

  output : is_among (output_names other.job.root owned) set ≡ true
  output = ap (λ (its : OwnedStep). is_among (output_names other.job.root its) set) (sym owned-is) ∙ of-other.output

  -- ---- what the run has of it

  case-same : case_at starts ≡ case_at started
  case-same =
      begin-case step leg.job other.job leg.start start (walks.alike now row other start reach step point earlier initiator coming) step owned (omega arith)
      (walks.step-here now row other start reach step point earlier initiator coming)

  taken-here : carries_taken entry.point.taken entry.point.writes starts ≡ true
  taken-here =
      ap (λ (its : ProgramCase). nat_le entry.point.taken (records_taken its) && entry.point.writes == length (upto its entry.point.taken)) case-same
      ∙ ap (carries_taken entry.point.taken entry.point.writes) (sym started-is) ∙ of-other.taken

  unwritten-here : point.rewritten ≡ false → rewrites_nothing starts 0 entry.point.writes ≡ true
  unwritten-here told =
      ap (λ (work : Work). list_all (λ (write : Write). not (is_in_place write.output)) (take (entry.point.writes - 0) (drop 0 work.writes))) (walks.work-same now row other start reach step point earlier initiator coming)
      ∙ ap (λ (its : StepStart). rewrites_nothing its 0 entry.point.writes) (sym started-is)
      ∙ of-other.stands.unwritten (ap (λ (its : StartPoint). its.rewritten) point-is ∙ told)

  -- what holds of the step as it starts holds of that of the run's job
  by-start : (P : StepStart → Type 0) → P starts → (its : StepStart) → start_at leg.job leg.start step ≡ Some its → P its
  by-start P here its at = subst P (walks.start-same now row other start reach step point earlier initiator coming its at) here

  step-since : (its : StartPoint) → point_at next.points step ≡ Some its → its.rewritten ≡ false → IsRestorable next leg 0
  step-since its got told = record {
    behind = omega arith;
    unwritten = by-start (λ s. rewrites_nothing s 0 entry.point.writes ≡ true)
        (unwritten-here
        (ap (λ (its : StartPoint). its.rewritten) (some-one carried its (point_at next.points step) (carried-is now row other start reach step point earlier initiator coming) got) ∙ told));
  }

  -- the records and the writes that the entry tells are those of the step as its job starts it
  pub taken-so : (its : StepStart) → start_at leg.job leg.start step ≡ Some its → carries_taken entry.point.taken entry.point.writes its ≡ true
  taken-so = by-start (λ s. carries_taken entry.point.taken entry.point.writes s ≡ true) taken-here

  check-so : IsCheck back next leg effect
  check-so = record {
    owned = owned;
    found_step = walks.step-here now row other start reach step point earlier initiator coming;
    among = output;
    entry = entry;
    keeps = back-keeps entry.point.marks (output_names other.job.root owned) needed now.tables.sets set entry.kept.id entry output of-other.back kept.0;
    back = of-other.back;
    point = point-there now row other start reach step point earlier initiator coming place entry.point.marks entry.point.passed refl has;
    taken = taken-so;
    since = λ told. record { behind = omega arith; unwritten = λ its at. unwritten-none its entry.point.writes };
  }

  -- It is ready.
  pub entry-own-ready : IsReady back next leg
  entry-own-ready = record {
    begun = λ within. is_some-from (point_at next.points step) carried (carried-is now row other start reach step point earlier initiator coming);
    steps = λ its within got told. step-since its got told;
    check = λ its within got. subst (IsCheck back next leg) (same_Some effect its got) check-so;
    none = λ out. absurd (false≢true (sym out));
  }
