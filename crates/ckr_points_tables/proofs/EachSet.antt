-- What holds of each data set of the library is kept by an event that follows, where each change of a data set keeps it.
use Rattle.std.proofs.Common.{◌≡◌, ℕ, suc, ◌≤◌, Bool, true, false, cond, if◌then◌else◌, List, [], ◌∷◌, refl, subst, arith, Some, None, Option}
use Rattle.std.specs.Option.{option_map_or}
use Rattle.ckr_points_library.specs.Commit.{AreWithinSpace, IsWithinSpace, committed, output_names}
use Rattle.ckr_points_library.specs.Holdings.{holding_ways}
use Rattle.ckr_points_library.proofs.DdPlaces.{still_within}
use Rattle.ckr_events.specs.declared.event.Event.{Event}
use Rattle.ckr_events.specs.declared.event.Event.TheVariants.{Started, Rewritten, Checkpointed, StepEnded, Ended}
use Rattle.ckr_events.specs.declared.event.Ending.{Ending}
use Rattle.ckr_events.specs.declared.event.Ending.TheVariants.{Completed, Coded, Allocation}
use Rattle.ckr_events.specs.declared.event.Made.{Made}
use Rattle.ckr_entry.specs.declared.point.Passed.{Passed}
use Rattle.ckr_jcl.specs.declared.deck.After.{After}
use Rattle.ckr_jcl.specs.declared.deck.After.TheVariants.{Delete, Keep, Pass, Catlg, Uncatlg}
use Rattle.ckr_jcl.specs.declared.deck.Dd.{Dd}
use Rattle.ckr_jcl.specs.declared.deck.Status.{Status}
use Rattle.ckr_jcl.specs.declared.deck.Status.TheVariants.{New, Old, Shr, Mod}
use Rattle.ckr_library.specs.declared.sets.Kept.{Kept}
use Rattle.ckr_library.specs.declared.sets.Part.{Part}
use Rattle.ckr_library.specs.declared.sets.Stamp.{Stamp}
use Rattle.ckr_library.specs.Catalog.{Holding, fresh_holding, with_catalog, with_kept, with_length, with_stamp}
use Rattle.ckr_library.specs.NameMaps.{EachEntry, Name, Named, entry_at, with_change, with_changed, with_entry, without_entry}
use Rattle.ckr_library.proofs.Named.{each-at, each-with_changed, each-with_entry, each-without_entry}
use Rattle.ckr_meaning.specs.Allotments.{AllotmentModel, found, made, refused, DdAllotment, is_output, opened_all, opened_by, opened_one}
use Rattle.ckr_meaning.specs.Dispositions.{Disposal, Stock, disposed_all, disposed_one, passed_ended, sets_after}
use Rattle.ckr_meaning.specs.EffectiveJob.{OwnedStep, name_of, placed_in, stamp_of}
use Rattle.ckr_meaning.specs.declared.place.Place.{Place}
use Rattle.ckr_meaning.specs.declared.place.Place.TheVariants.{Before, Opened, Within}
use Rattle.ckr_points.specs.Tables.{is_checkpoints, is_updates, name_with_role, parts_from}
use Rattle.ckr_points.specs.Restart.{step_in}
use Rattle.ckr_points.specs.Marks.{without_passed}
use Rattle.ckr_points_runs.specs.RunChange.{Going, by_step_of, changed, checkpointed, kept_by, coded, committed_by, disposed, ended_at, ended_by, ended_in, holding_kit, opened_by as opened_in_kit, place_now, restamped, rewritten, started, step_ended, step_of, within}
use Rattle.ckr_points_runs.specs.StepEnd.{AreLengthsOf, HasLengths, disposals_at}
use Rattle.ckr_points_runs.specs.NewSets.{MayMakeAll, MayMakeNamed, has_items, made_from, made_named}
use Rattle.ckr_points_runs.specs.Start.{MayStartIn}
use Rattle.ckr_points_library.specs.Allocation.{fresh_set}

-- each change of a data set keeps it
pub record IsKeptBy (Q : Holding → Type 0) : Type 0 where
  pub cuts : (most : ℕ) (holding : Holding) → most ≤ holding.set.space → Q holding → Q (with_length most holding)
  pub marks : (on : Bool) (holding : Holding) → Q holding → Q (with_catalog on holding)
  pub stamps : (stamp : Stamp) (holding : Holding) → Q holding → Q (with_stamp stamp holding)
  pub keeps : (kept : Kept) (holding : Holding) → Q holding → Q (with_kept kept holding)
  pub makes : (stamp : Stamp) (dd : Dd) (parts : List Part) → 1 ≤ dd.lrecl → Q (fresh_holding (fresh_set stamp dd parts))

-- what an event makes may be made, and the lengths that it gives fit
abbrev pub MayMakeBy : Event → Going Holding → Type 0
MayMakeBy (Started job step items) now = MayStartIn now.line.number step items.items now.facts now.sets (step_of now step)
MayMakeBy (Rewritten job taken writes lengths place image) now = AreLengthsOf now.facts.job.root lengths.items now.sets (step_of now (step_in (place_now now.facts)))
MayMakeBy (Checkpointed job id taken writes lengths place bytes) now = AreLengthsOf now.facts.job.root lengths.items now.sets (step_of now (step_in (place_now now.facts)))
MayMakeBy (StepEnded job step rc writes lengths) now = AreLengthsOf now.facts.job.root lengths.items now.sets (step_of now (step_in (place_now now.facts)))
MayMakeBy (Ended job ending) now = HasLengths now.facts.job.root ending now.sets (step_of now (step_in (place_now now.facts)))
MayMakeBy _ now = Unit {0}

module _ (Q : Holding → Type 0) (by_all : IsKeptBy Q) where
  abbrev pub All : Named Holding → Type 0
  All sets = EachEntry Q sets

  -- ---- through the changes of the library

  opened-each : (stamp : Stamp) (placed : DdAllotment) (allotment : AllotmentModel) (output : Bool) (sets : Named Holding) → All sets → All (opened_one holding_ways stamp placed allotment output sets)
  opened-each stamp placed found true sets each = each-with_changed Q placed.name (opened_by holding_ways stamp placed.dd.disp.status) sets (by placed.dd.disp.status) each
    where
      by : (status : Status) (holding : Holding) → Q holding → Q (opened_by holding_ways stamp status holding)
      by New holding is = by_all.stamps stamp holding is
      by Old holding is = by_all.stamps stamp (with_length 0 holding) (by_all.cuts 0 holding (omega arith) is)
      by Shr holding is = by_all.stamps stamp holding is
      by Mod holding is = by_all.stamps stamp holding is
  opened-each stamp placed found false sets each = each
  opened-each stamp placed made output sets each = each
  opened-each stamp placed (refused flaw) output sets each = each

  all-opened-each : (stamp : Stamp) (placed : List DdAllotment) (sets : Named Holding) → All sets → All (opened_all holding_ways stamp placed sets)
  all-opened-each stamp [] sets each = each
  all-opened-each stamp (one ∷ rest) sets each =
      all-opened-each stamp rest (opened_one holding_ways stamp one one.allotment (is_output one.dd.role) sets) (opened-each stamp one one.allotment (is_output one.dd.role) sets each)

  length-each : (name : Name) (most : ℕ) (sets : Named Holding) → IsWithinSpace most (entry_at sets name) → All sets → All (with_changed name (with_length most) sets)
  length-each name most sets fits each = by (entry_at sets name) refl fits
    where
      by : (there : Option Holding) → entry_at sets name ≡ there → IsWithinSpace most there → All (with_change name (with_length most) sets there)
      by None is fits = each
      by (Some holding) is fits = each-with_entry Q name (with_length most holding) sets (by_all.cuts most holding fits (each-at Q sets each name holding is)) each

  pub committed-each : (names : List Name) (lengths : List ℕ) (sets : Named Holding) → AreWithinSpace names lengths sets → All sets → All (committed with_length names lengths sets)
  committed-each [] lengths sets fit each = each
  committed-each (name ∷ names) [] sets fit each = each
  committed-each (name ∷ names) (most ∷ lengths) sets fit each =
      committed-each names lengths (with_changed name (with_length most) sets) (still_within name most names lengths sets fit.1) (length-each name most sets fit.0 each)

  disposed-each : (after : After) (name : Name) (sets : Named Holding) → All sets → All (sets_after holding_ways after name sets)
  disposed-each Delete name sets each = each-without_entry Q name sets each
  disposed-each Keep name sets each = each
  disposed-each Pass name sets each = each
  disposed-each Catlg name sets each = each-with_changed Q name (with_catalog true) sets (by_all.marks true) each
  disposed-each Uncatlg name sets each = each-with_changed Q name (with_catalog false) sets (by_all.marks false) each

  all-disposed-each : (disposals : List Disposal) (standing : Stock Holding) → All standing.sets → All (disposed_all holding_ways disposals standing).sets
  all-disposed-each [] standing each = each
  all-disposed-each (one ∷ disposals) standing each =
      all-disposed-each disposals (disposed_one holding_ways one standing) (disposed-each one.after one.name standing.sets each)

  passed-each : (passed : List Passed) (sets : Named Holding) → All sets → All (passed_ended passed sets)
  passed-each [] sets each = each
  passed-each (one ∷ passed) sets each = passed-each passed (if one.made then without_entry one.name sets else sets) (by one.made)
    where
      by : (b : Bool) → All (cond b (without_entry one.name sets) sets)
      by true = each-without_entry Q one.name sets each
      by false = each

  made-each : (stamp : Stamp) (items : List Made) (named : Dd → Option Name) (number : ℕ) (dds : List Dd) (sets : Named Holding) → MayMakeAll fresh_holding stamp items named number dds sets → All sets → All (made_from fresh_holding stamp items named number dds sets)
  made-each stamp items named number [] sets may each = each
  made-each stamp items named number (dd ∷ dds) sets may each =
      made-each stamp items named (suc number) dds (made_named fresh_holding stamp items number dd (named dd) sets) may.1 (one (named dd) may.0)
    where
      one : (name : Option Name) → MayMakeNamed fresh_holding stamp items number dd name sets → All (made_named fresh_holding stamp items number dd name sets)
      one None may = each
      one (Some name) may = by (has_items number items) refl
        where
          by : (b : Bool) → has_items number items ≡ b → All (cond b (with_entry name (fresh_holding (fresh_set stamp dd (parts_from number items))) sets) sets)
          by true has = each-with_entry Q name (fresh_holding (fresh_set stamp dd (parts_from number items))) sets (by_all.makes stamp dd (parts_from number items) (may.wide has)) each
          by false has = each

  -- ---- through an event

  pub by_step-each : (step : ℕ) (change : OwnedStep → Going Holding) (now : Going Holding) → All now.sets → ((own : OwnedStep) → step_of now step ≡ Some own → All (change own).sets) → All (by_step_of step change now).sets
  by_step-each step change now each changes = by (step_of now step) refl
    where
      by : (there : Option OwnedStep) → step_of now step ≡ there → All (option_map_or change there now).sets
      by None is = each
      by (Some own) is = changes own is

  -- the lengths of the step committed
  pub committed_by-each : (step : ℕ) (lengths : List ℕ) (now : Going Holding) (own : OwnedStep) → step_of now step ≡ Some own → AreLengthsOf now.facts.job.root lengths now.sets (step_of now step) → All now.sets → All (committed_by holding_kit lengths own now).sets
  committed_by-each step lengths now own is fits each =
      let fit = subst (AreLengthsOf now.facts.job.root lengths now.sets) is fits in
      committed-each (output_names now.facts.job.root own) lengths now.sets fit.space each

  starts-each : (step : ℕ) (items : List Made) (now : Going Holding) → All now.sets → (there : Option OwnedStep) → MayStartIn now.line.number step items now.facts now.sets there → All (option_map_or (started holding_kit step items now) there now).sets
  starts-each step items now each None may = each
  starts-each step items now each (Some own) may =
      made-each (stamp_of own step) items (name_of now.facts.job.root own) 1 own.step.dds (opened_in_kit holding_kit step own now) may
      (all-opened-each (stamp_of own step) (placed_in holding_ways (record { sets = now.sets; passed = now.facts.passed }) now.facts.job.root own) now.sets each)

  disposed_of-each : (earlier : List Bool) (step : ℕ) (abnormal : Bool) (own : OwnedStep) (now : Going Holding) → All now.sets → All (disposed holding_kit earlier step abnormal own now).sets
  disposed_of-each earlier step abnormal own now each =
      all-disposed-each (disposals_at now.facts.job.root now.facts.points earlier step abnormal own) (record { sets = now.sets; passed = now.facts.passed }) each

  ended_in-each : (earlier : List Bool) (step : ℕ) (now : Going Holding) (own : OwnedStep) → All now.sets → All (ended_in holding_kit earlier step now own).sets
  ended_in-each earlier step now own each =
      let done = disposed holding_kit earlier step true own now in
      passed-each (without_passed done.facts.lost done.facts.passed) done.sets (disposed_of-each earlier step true own now each)

  ended_at-each : (earlier : List Bool) (place : Place) (now : Going Holding) → All now.sets → All (ended_at holding_kit earlier place now).sets
  ended_at-each earlier (Before step) now each = passed-each (without_passed now.facts.lost now.facts.passed) now.sets each
  ended_at-each earlier (Opened step) now each = passed-each (without_passed now.facts.lost now.facts.passed) now.sets each
  ended_at-each earlier (Within step writes) now each = by_step-each step (ended_in holding_kit earlier step now) now each (λ own is. ended_in-each earlier step now own each)

  ended_by-each : (earlier : List Bool) (ending : Ending) (now : Going Holding) → HasLengths now.facts.job.root ending now.sets (step_of now (step_in (place_now now.facts))) → All now.sets → All (ended_by holding_kit earlier ending now).sets
  ended_by-each earlier Completed now fits each = passed-each (without_passed now.facts.lost now.facts.passed) now.sets each
  ended_by-each earlier (Coded code rule writes lengths) now fits each =
      let step = step_in (place_now now.facts) in
      by_step-each step (coded holding_kit earlier step writes lengths.items now) now each
      (λ own is. ended_in-each earlier step (within holding_kit step writes (committed_by holding_kit lengths.items own now)) own (committed_by-each step lengths.items now own is fits each))
  ended_by-each earlier (Allocation dd cause first second) now fits each = ended_at-each earlier (place_now now.facts) now each

  -- an event that follows keeps it
  pub changed-each : (earlier : List Bool) (event : Event) (now : Going Holding) → MayMakeBy event now → All now.sets → All (changed holding_kit earlier event now).sets
  changed-each earlier (Started job step items) now may each = starts-each step items.items now each (step_of now step) may
  changed-each earlier (Rewritten job taken writes lengths place image) now may each =
      let running = step_in (place_now now.facts) in
      by_step-each running (rewritten holding_kit running writes lengths.items now) now each
      (λ own is. each-with_changed Q (name_with_role now.facts.job.root own is_updates) (restamped holding_kit own.owner running) _ (λ holding kept. by_all.stamps _ holding kept) (committed_by-each running lengths.items now own is may each))
  changed-each earlier (Checkpointed job id taken writes lengths place bytes) now may each =
      let running = step_in (place_now now.facts) in
      let kept = kept_by now id place bytes in
      by_step-each running (checkpointed holding_kit running kept taken writes lengths.items now) now each
      (λ own is. each-with_changed Q (name_with_role now.facts.job.root own is_checkpoints) (with_kept kept) _ (by_all.keeps kept) (committed_by-each running lengths.items now own is may each))
  changed-each earlier (StepEnded job step rc writes lengths) now may each =
      let running = step_in (place_now now.facts) in
      by_step-each running (step_ended holding_kit earlier running rc lengths.items now) now each
      (λ own is. disposed_of-each earlier running false own (committed_by holding_kit lengths.items own now) (committed_by-each running lengths.items now own is may each))
  changed-each earlier (Ended job ending) now may each = ended_by-each earlier ending now may each
  changed-each earlier _ now may each = each
