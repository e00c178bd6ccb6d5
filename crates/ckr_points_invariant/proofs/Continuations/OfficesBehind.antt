-- The office behind the selection of a continued run, where no other holder reaches a name that it reaches: all that is proved of it.
use Rattle.std.proofs.Common.{◌≡◌, ℕ, suc, true, false, [], List, ◌++◌, ◌∙◌, sym, subst, Option, Some}
use Rattle.std.specs.Option.{is_some}
use Rattle.std.proofs.lemmas.Bool.{false≢true}
use Rattle.ckr_base.proofs.Bools.{bool-cases}
use Rattle.ckr_base.proofs.Options.{some-one}
use Rattle.ckr_entry.specs.declared.point.Mark.{Mark}
use Rattle.ckr_library.specs.NameMaps.{Name}
use Rattle.ckr_meaning.specs.EffectiveJob.{OwnedStep, is_among, names_of_job}
use Rattle.ckr_meaning.specs.JobRun.{at}
use Rattle.ckr_meaning.specs.LibrarySet.{Library}
use Rattle.ckr_volumes.specs.declared.layout.Layout.{Layout}
use Rattle.ckr_points.specs.Marks.{mark_at, own_names}
use Rattle.ckr_points.specs.Office.{Leg, Office, leg_of, continued_leg}
use Rattle.ckr_points.specs.Restart.{step_in}
use Rattle.ckr_points.specs.Rows.{RunRow}
use Rattle.ckr_points_invariant.specs.Invariant.{AreAlike, IsAgreed, IsHolder, IsKept}
use Rattle.ckr_points_invariant.specs.Points.{ArePointed}
use Rattle.ckr_points_invariant.specs.Readiness.{AreReady}
use Rattle.ckr_points_invariant.specs.StartedSteps.{AreBegunSteps}
use Rattle.ckr_points_invariant.specs.WrittenEntries.{AreWrittenEntries}
use Rattle.ckr_points_invariant.proofs.WrittenEntries.Offices.{IsGrown}
use Rattle.ckr_points_invariant.proofs.Continuations.EarlierRun.{Coming, IsContinued, IsPutBack, leg_from, row_then, sets_then, tables_then}
use Rattle.ckr_points_invariant.proofs.Decks.Events.{with-orderly}
use Rattle.ckr_points_invariant.specs.JobNames.{HasUses}
use Rattle.ckr_points_invariant.specs.EarlierRuns.{MayContinue}
use Rattle.ckr_points_invariant.proofs.Continuations.OfficeBehind.{AgreesBehind}
use Rattle.ckr_points_invariant.proofs.Continuations.Agreement as agreement
use Rattle.ckr_points_invariant.proofs.Continuations.Continued.{agrees-continued, outside-continued, place-continued}
use Rattle.ckr_points_invariant.proofs.Continuations.Offices as offices
use Rattle.ckr_points_invariant.proofs.Continuations.Places.{comes-stands, most}
use Rattle.ckr_points_invariant.proofs.Continuations.PointsBehind.{pointed-behind, stamped-behind}
use Rattle.ckr_points_invariant.proofs.Continuations.Steps as steps
use Rattle.ckr_points_invariant.proofs.Continuations.WrittenEntries.Offices.{written-behind}

module _ (layout : Layout) (now : Office) (job initiator before step : ℕ) (id : Option Name) (its : MayContinue layout now.tables job initiator (suc before) step id) (start : Library) (reach : List Name)
    (kept : IsKept layout now) (begun : AreBegunSteps now) (pointed : ArePointed now) (led : leg_of now (suc before) ≡ Some (leg_from its.other start reach))
    (covers : (name : Name) → is_some (mark_at its.point.marks name) ≡ is_among (names_of_job its.other.job) name) (coming : Coming) (marks : List Mark) (needed removed others : List Name)
    (continued : IsContinued now its.row its.other start reach step its.point initiator coming marks needed removed others) where
  abbrev next : RunRow
  next = row_then now its.row its.other step its.point initiator coming

  abbrev leg : Leg
  leg = continued_leg now next (leg_from its.other start reach)

  abbrev behind : Office
  behind = agreement.behind layout now job initiator before step id its start reach kept begun pointed led covers coming marks needed removed

  same-step : its.owned ≡ continued.earlier.begun.owned
  same-step = some-one its.owned continued.earlier.begun.owned _ its.found continued.earlier.begun.found

  stands : step_in coming.place ≡ step
  stands = comes-stands step (most now its.row its.other start reach step its.point continued.earlier initiator coming []) coming.place continued.comes

  back : IsPutBack now next its.other its.owned start coming marks needed removed (own_names next ++ others)
  back = subst (λ (owned : OwnedStep). IsPutBack now next its.other owned start coming marks needed removed (own_names next ++ others)) (sym same-step) continued.back

  alike : (name : Name) → is_among leg.reach name ≡ true → AreAlike behind.tables.sets (at leg.job leg.start coming.place).sets name
  alike name among =
      subst (λ (owned : OwnedStep). AreAlike (sets_then now its.other owned marks needed removed) (at leg.job leg.start coming.place).sets name) (sym same-step)
      (agrees-continued now its.row its.other start reach step its.point initiator coming marks needed removed others continued name among)

  new : (name : Name) → is_among (own_names next) name ≡ true → is_among (names_of_job its.other.job) name ≡ false → AreAlike now.tables.sets now.library name
  new name mine out = continued.left name (steps.own now its.row its.other start reach step its.point continued.earlier initiator coming stands behind.tables.sets name mine)

  -- entries are as they were written
  written-so : ((number : ℕ) (row : RunRow) (its_leg : Leg) (name : Name) → IsHolder now number row its_leg → is_among leg.reach name ≡ true → is_among its_leg.reach name ≡ false) → AreReady now → AreWrittenEntries now → IsGrown behind.tables.sets next → AreWrittenEntries behind
  written-so alone ready written mine =
      subst (λ (owned : OwnedStep). IsGrown (sets_then now its.other owned marks needed removed) next → AreWrittenEntries (record now { tables = tables_then now next (sets_then now its.other owned marks needed removed); legs = behind.legs })) (sym same-step)
      (written-behind now its.row its.other start reach step its.point continued.earlier initiator coming marks needed removed behind.legs
      (offices.other-legs layout now job initiator before step id its start reach kept begun pointed led covers coming behind.tables.sets) layout kept.events ready
      (offices.alone layout now job initiator before step id its start reach kept begun pointed led covers coming behind.tables.sets) written
      (λ number row its_leg apart holder name among.
      outside-continued now its.row its.other start reach step its.point initiator coming marks needed removed others continued name
      (bool-cases (is_among (own_names next) name)
      (λ own. absurd (false≢true (sym (alone number row its_leg name holder (steps.own now its.row its.other start reach step its.point continued.earlier initiator coming stands behind.tables.sets name own)) ∙ among)))
      (λ out. out))))
      mine

  module _ (alone : (number : ℕ) (row : RunRow) (its_leg : Leg) (name : Name) → IsHolder now number row its_leg → is_among leg.reach name ≡ true → is_among its_leg.reach name ≡ false)
      (named : (number : ℕ) (row : RunRow) (its_leg : Leg) → IsHolder behind number row its_leg → HasUses behind.tables row its_leg) where
    -- The tables agree with what the jobs of the selected runs give.
    pub kept-behind : IsAgreed layout behind
    kept-behind = record {
      extents = agreement.extents-behind layout now job initiator before step id its start reach kept begun pointed led covers coming marks needed removed;
      numbered = agreement.numbered-behind layout now job initiator before step id its start reach kept begun pointed led covers coming marks needed removed;
      waiting = agreement.waiting-behind layout now job initiator before step id its start reach kept begun pointed led covers coming marks needed removed;
      legs = agreement.legs-behind-known layout now job initiator before step id its start reach kept begun pointed led covers coming marks needed removed;
      led = agreement.led-behind layout now job initiator before step id its start reach kept begun pointed led covers coming marks needed removed;
      places =
          agreement.places-behind layout now job initiator before step id its start reach kept begun pointed led covers coming marks needed removed
          (place-continued now its.row its.other start reach step its.point initiator coming marks needed removed others continued behind.tables.sets);
      uses = named;
      alone = agreement.alone-behind layout now job initiator before step id its start reach kept begun pointed led covers coming marks needed removed alone;
      left = agreement.left-behind layout now job initiator before step id its start reach kept begun pointed led covers coming marks needed removed alone;
      since = agreement.since-behind layout now job initiator before step id its start reach kept begun pointed led covers coming marks needed removed;
      held = agreement.held-behind layout now job initiator before step id its start reach kept begun pointed led covers coming marks needed removed alone (own_names next ++ others) back stands alike;
      free = agreement.free-behind layout now job initiator before step id its start reach kept begun pointed led covers coming marks needed removed alone (own_names next ++ others) back stands;
    }

    pub agrees-behind : AreReady now → AreWrittenEntries now → IsGrown behind.tables.sets next → AgreesBehind layout behind
    agrees-behind ready written mine = record {
      events = kept-behind;
      stamps = stamped-behind layout now job initiator before step id its start reach kept begun pointed led covers coming marks needed removed stands;
      pointed = pointed-behind layout now job initiator before step id its start reach kept begun pointed led covers coming marks needed removed new;
      begun = offices.begun-behind layout now job initiator before step id its start reach kept begun pointed led covers coming behind.tables.sets stands;
      written = written-so alone ready written mine;
      decks = with-orderly next (record now.tables { sets = behind.tables.sets }) continued.earlier.orderly kept.decks;
    }
