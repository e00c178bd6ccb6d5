-- The rows behind the selection of a run that continues an earlier one: its steps are those of the earlier run up to its own step, and then those of its own deck.
use Rattle.std.proofs.Common.{◌≡◌, ℕ, zero, suc, List, ◌++◌, refl, sym, subst, Option, Some, None}
use Rattle.std.specs.Prelude.{◌==◌}
use Rattle.std.specs.List.{AllByRecursion}
use Rattle.std.specs.Option.{option_map_or}
use Rattle.ckr_base.proofs.Sequences.{find-holds}
use Rattle.ckr_events.specs.declared.event.Event.TheVariants.{Selected}
use Rattle.ckr_jcl.specs.declared.deck.Job.{Job}
use Rattle.ckr_entry.specs.declared.point.Passed.{Passed}
use Rattle.ckr_library.specs.NameMaps.{Name}
use Rattle.ckr_meaning.specs.EffectiveJob.{OwnedStep, names_of_job}
use Rattle.ckr_meaning.specs.LibrarySet.{AreWithinSpace}
use Rattle.ckr_meaning.specs.declared.place.Place.{Place}
use Rattle.ckr_meaning.specs.declared.place.Place.TheVariants.{Opened, Within}
use Rattle.ckr_points.specs.Events.{IsNext}
use Rattle.ckr_points.specs.Office.{Leg, Office, continued_leg, leg_by, leg_of, office_after, plain_leg, with_leg}
use Rattle.ckr_points.specs.Marks.{deck_names, lost_names, own_names}
use Rattle.ckr_points.specs.Restart.{Back, after_continued_at, after_entry_continued, after_put_back, after_taken_over, continued_row, deferred_entry, deferred_start, kept_at, sets_back, spliced, syschk_name}
use Rattle.ckr_points.specs.Rows.{EffectPoint, KeptEntry, RunRow, TablesModel, run_of}
use Rattle.ckr_points.specs.declared.run.RunState.TheVariants.{On}
use Rattle.ckr_points.specs.Tables.{fresh_effect}
use Rattle.ckr_points_invariant.specs.KeptEvents.{AreKept}
use Rattle.ckr_points_invariant.specs.EarlierRuns.{IsEntryOf, MayContinue}
use Rattle.ckr_points_invariant.proofs.Continuations.Follows.{after-selected, may-continue}
use Rattle.ckr_points_invariant.proofs.Select.Holders.{all_legs}
use Rattle.ckr_points_invariant.proofs.WaitingRuns.{follows-of}
use Rattle.ckr_volumes.specs.declared.layout.Layout.{Layout}
use Rattle.ckr_desk_turn.specs.Invariant.{IsAdmitted}
use Rattle.ckr_desk_turn.proofs.AdmittedSteps.{spliced-here, spliced-named, spliced-steps}
use Rattle.ckr_desk_turn.proofs.OtherRuns.{taken_over-within}
use Rattle.ckr_desk_turn.proofs.Runs.Events.{has-step}
use Rattle.ckr_desk_turn.proofs.Runs.Rows.{HasRow, HasRows, Renewed, has-row, runs-renewed, stands-one}

-- the library of a leg keeps to its space
leg-within : (office : Office) (row : RunRow) (earlier : ℕ) → AreWithinSpace office.library → AllByRecursion (λ (leg : Leg). AreWithinSpace leg.start) office.legs → AreWithinSpace (leg_by office row earlier).start
leg-within office row zero spaced each = spaced
leg-within office row (suc before) spaced each = by (leg_of office (suc before)) refl
  where
    by : (leg : Option Leg) → leg_of office (suc before) ≡ leg → AreWithinSpace (option_map_or (continued_leg office row) leg (plain_leg office row)).start
    by None led = spaced
    by (Some leg) led = taken_over-within (names_of_job leg.job) leg.start office.library (find-holds (λ (leg : Leg). AreWithinSpace leg.start) (λ leg. leg.number == suc before) office.legs leg each led) spaced

legs-within : (office : Office) → AreWithinSpace office.library → AllByRecursion (λ (leg : Leg). AreWithinSpace leg.start) office.legs → (row : Option RunRow)
    → AllByRecursion (λ (leg : Leg). AreWithinSpace leg.start) (option_map_or (λ row. with_leg (leg_by office row row.earlier) office.legs) row office.legs)
legs-within office spaced each None = each
legs-within office spaced each (Some row) = all_legs (λ (leg : Leg). AreWithinSpace leg.start) (leg_by office row row.earlier) office.legs (leg-within office row row.earlier spaced each) each

-- ---- the row

-- the row of a run that continues another one at a step: its job has that one's steps up to it
pub record Continues (row other : RunRow) (step : ℕ) : Type 0 where
  pub earlier : row.earlier ≡ other.number
  pub at_step : row.earlier_step ≡ step
  pub job : row.job ≡ spliced other.job step row.number row.deck

-- its row is renewed, is on an initiator, and continues the other one
pub record IsRenewedOn (tables after : TablesModel) (job : ℕ) (other : RunRow) (step : ℕ) : Type 0 where
  pub renewed : Renewed tables after job
  pub on : renewed.next.state ≡ On
  pub continues : Continues renewed.next other step

module _ (layout : Layout) (now : Office) (are : AreKept layout now) (has : HasRows now) (job initiator before step : ℕ) (id : Option Name) (its : MayContinue layout now.tables job initiator (suc before) step id) where
  abbrev row_before : RunRow
  row_before = continued_row its.row its.other step its.point initiator now.tables.sets

  numbered : its.row.number ≡ job
  numbered = are.kept.events.numbered job its.row its.row_at

  admitted-so : (place : Place) (count : ℕ) (passed : List Passed) (lost : List Name) (effect : Option EffectPoint) → IsAdmitted (record row_before { place = Some place; count = count; passed = passed; lost = lost; in_effect = effect })
  admitted-so place count passed lost effect =
      let was : HasRow its.row = has-row now has job its.row its.row_at in
      let other : HasRow its.other = has-row now has (suc before) its.other its.other_at in
      record {
        cards = was.admitted.cards;
        accepted = was.admitted.accepted;
        steps = spliced-steps was.admitted.cards its.row.number its.row.deck was.admitted.accepted its.other.job step its.owned its.found other.admitted.steps;
        named = spliced-named its.row.number its.row.deck its.other.job step its.owned its.mine its.found its.its its.same;
        lodged = refl;
      }

  -- at the start of the step it has begun none
  has-start : (count : ℕ) (passed : List Passed) (lost : List Name) (effect : Option EffectPoint) → HasRow (record row_before { place = Some (Opened step); count = count; passed = passed; lost = lost; in_effect = effect })
  has-start count passed lost effect = record { in_state = refl; admitted = admitted-so (Opened step) count passed lost effect; stepped = refl }

  -- at a checkpoint it is within the step
  has-entry : (writes count : ℕ) (passed : List Passed) (lost : List Name) (effect : Option EffectPoint) → HasRow (record row_before { place = Some (Within step writes); count = count; passed = passed; lost = lost; in_effect = effect })
  has-entry writes count passed lost effect =
      has-step (record row_before { place = Some (Within step writes); count = count; passed = passed; lost = lost; in_effect = effect }) its.owned
      (spliced-here its.other.job step its.row.number its.row.deck its.owned its.found) refl (admitted-so (Within step writes) count passed lost effect)

  -- the tables put back for it have its row
  put-back : (row : RunRow) (owned : OwnedStep) (back : Back) → row.number ≡ job → row.state ≡ On → Continues row its.other step → HasRow (record row { place = Some back.place; count = back.count; passed = back.passed })
      → IsRenewedOn now.tables (after_put_back row owned back now.tables) job its.other step
  put-back row owned back same on continues its_row =
      let next : RunRow = record row { place = Some back.place; count = back.count; passed = back.passed } in
      record {
        renewed = record { next = next; stands = stands-one now.tables (sets_back row owned back now.tables.sets) job its.row next its.row_at same; has = its_row };
        on = on;
        continues = record { earlier = continues.earlier; at_step = continues.at_step; job = continues.job };
      }

  taken-over : (row : RunRow) (owned : OwnedStep) (back : Back) → row.number ≡ job → row.state ≡ On → Continues row its.other step → ((lost : List Name) → HasRow (record row { place = Some back.place; count = back.count; passed = back.passed; lost = lost }))
      → IsRenewedOn now.tables (after_taken_over row owned back now.tables) job its.other step
  taken-over row owned back same on continues its_row =
      let named : List Name = own_names row ++ deck_names row.job.root row.number row.deck in
      let lost : List Name = lost_names back.marks named (sets_back row owned back now.tables.sets) back.passed in
      put-back (record row { lost = lost }) owned back same on (record { earlier = continues.earlier; at_step = continues.at_step; job = continues.job }) (its_row lost)

-- the tables behind the event, but for how it is told
renewed-at : (layout : Layout) (now : Office) (are : AreKept layout now) (has : HasRows now) (job initiator before step : ℕ) (id : Option Name) (its : MayContinue layout now.tables job initiator (suc before) step id)
    → IsRenewedOn now.tables (after_continued_at (continued_row its.row its.other step its.point initiator now.tables.sets) its.owned step its.point id now.tables) job its.other step
renewed-at layout now are has job initiator before step None its =
    let row : RunRow = continued_row its.row its.other step its.point initiator now.tables.sets in
    taken-over layout now are has job initiator before step None its row its.owned (deferred_start row its.owned step its.point) (numbered layout now are has job initiator before step None its) refl (record { earlier = refl; at_step = refl; job = refl })
    (λ lost. has-start layout now are has job initiator before step None its its.point.count its.point.passed lost its.row.in_effect)
renewed-at layout now are has job initiator before step (Some id) its = by (kept_at now.tables.sets (syschk_name its.row.deck) id) its.entry
  where
    by : (entry : Option KeptEntry) → IsEntryOf its.other step (Some id) entry
        → IsRenewedOn now.tables (option_map_or (λ entry. after_entry_continued (continued_row its.row its.other step its.point initiator now.tables.sets) its.owned step (syschk_name its.row.deck) entry now.tables) entry now.tables) job its.other step
    by None of_run = absurd of_run
    by (Some entry) of_run =
        let effect : Option EffectPoint = Some (fresh_effect (syschk_name its.row.deck) entry.kept) in
        let row : RunRow = record (continued_row its.row its.other step its.point initiator now.tables.sets) { in_effect = effect } in
        taken-over layout now are has job initiator before step (Some id) its row its.owned (deferred_entry row step entry.point) (numbered layout now are has job initiator before step (Some id) its) refl (record { earlier = refl; at_step = refl; job = refl })
        (λ lost. has-entry layout now are has job initiator before step (Some id) its entry.point.writes entry.point.count entry.point.passed lost effect)

-- ---- the event

module _ (layout : Layout) (now : Office) (are : AreKept layout now) (has : HasRows now) (job initiator before step : ℕ) (id : Option Name) (deck : Option Job) (its : MayContinue layout now.tables job initiator (suc before) step id) where
  -- the row of the run is another one, and the others are as they were
  pub continued-row : IsRenewedOn now.tables (office_after (Selected job initiator (suc before) step id, deck) now).tables job its.other step
  continued-row = subst (λ tables. IsRenewedOn now.tables tables job its.other step) (sym (after-selected layout now.tables job initiator before step id deck its)) (renewed-at layout now are has job initiator before step id its)

  pub continued-legs : AllByRecursion (λ (leg : Leg). AreWithinSpace leg.start) (office_after (Selected job initiator (suc before) step id, deck) now).legs
  continued-legs = legs-within now has.spaced has.spaced_legs (run_of (office_after (Selected job initiator (suc before) step id, deck) now).tables job)

-- where the event may come, the run may continue the earlier one
pub continues-so : (layout : Layout) (now : Office) (job initiator before step : ℕ) (id : Option Name) (deck : Option Job) → IsNext layout now (Selected job initiator (suc before) step id, deck) → MayContinue layout now.tables job initiator (suc before) step id
continues-so layout now job initiator before step id deck next =
    may-continue layout now.tables job initiator (suc before) step id (λ zero_is. absurd (none zero_is)) (follows-of layout now (Selected job initiator (suc before) step id) deck next.may)
  where
    none : suc before ≡ 0 → ⊥
    none e = cc

pub continued-runs : (layout : Layout) (now : Office) → AreKept layout now → HasRows now → (job initiator before step : ℕ) (id : Option Name) (deck : Option Job) → IsNext layout now (Selected job initiator (suc before) step id, deck) → HasRows (office_after (Selected job initiator (suc before) step id, deck) now)
continued-runs layout now are has job initiator before step id deck next =
    let its = continues-so layout now job initiator before step id deck next in
    runs-renewed now (office_after (Selected job initiator (suc before) step id, deck) now) job has
    (continued-row layout now are has job initiator before step id deck its).renewed has.spaced (continued-legs layout now are has job initiator before step id deck its)
