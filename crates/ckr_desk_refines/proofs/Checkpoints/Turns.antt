-- What a turn that takes a checkpoint leaves, by its event.
use Rattle.std.proofs.Common.{◌≡◌, ℕ, true, List, refl, ap, sym, ◌∙◌, subst, Option, None, Some, arith}
use Rattle.std.specs.Prelude.{option_and_then}
use Rattle.std.specs.Option.{option_map_or}
use Rattle.ckr_events.specs.declared.event.Event.{Event}
use Rattle.std.proofs.lemmas.Option.{same_Some}
use Rattle.ckr_entry.specs.Entry.{IsEntry, spelling}
use Rattle.ckr_entry.specs.Parts.{Entry}
use Rattle.ckr_library.specs.NameMaps.{Name, entry_at}
use Rattle.ckr_library.proofs.Named.{each-at}
use Rattle.ckr_meaning.specs.StepRun.{StepStart}
use Rattle.ckr_points.specs.Restart.{place_of, step_in}
use Rattle.ckr_points.specs.Rows.{RunRow, TableSet, run_of, step_of_run}
use Rattle.ckr_meaning.specs.EffectiveJob.{names_of}
use Rattle.ckr_steps.specs.EntryRecords.{HasEntry, SameRecordsOutside}
use Rattle.ckr_desk_turn.specs.Turns.{MountedTurn}
use Rattle.ckr_volumes.specs.declared.layout.Layout.{Layout}
use Rattle.ckr_volumes.specs.Layouts.{StandsIn}
use Rattle.ckr_desk_memory.specs.Checkpoints.{IsCheckpointOf}
use Rattle.ckr_desk_memory.specs.Model.Checkpoint.{Checkpoint}
use Rattle.ckr_desk_memory.specs.View.{JobsView, RunningStepView}
use Rattle.ckr_desk_turn.proofs.NextEvents.WithinStep.{by-step}
use Rattle.ckr_desk_turn.proofs.RunningSteps.{going-within}
use Rattle.ckr_desk_turn.specs.Checkpoints.{check_set, checkpoint_fits, entry_place, next_entry}
use Rattle.ckr_desk_turn.specs.Desk.{DeskModel, TurnDone, progress_of}
use Rattle.ckr_desk_turn.specs.Taken.{taken_of}
use Rattle.ckr_desk_turn.specs.Units.{StepProgress}
use Rattle.ckr_desk_refines.specs.Checkpoints.{IsStepOf, IsToTake, IsWrittenBehind}
use Rattle.ckr_desk_refines.specs.Commits.{HasCommitted}
use Rattle.ckr_desk_refines.specs.Entries.{AreWithin, HasEntries}
use Rattle.ckr_desk_refines.specs.Moves.{HasSameRecords, HaveMoved}
use Rattle.ckr_desk_refines.specs.Standing.{StandsForDesk}
use Rattle.ckr_desk_refines.proofs.Checkpoints.Desk.{check_is, committed-then, content-so, keeps-from, written-stands}
use Rattle.ckr_desk_refines.proofs.Checkpoints.NextEvent.{IsOfJob, is-of-job}
use Rattle.ckr_desk_refines.proofs.Checkpoints.Office.{may}
use Rattle.ckr_desk_refines.proofs.Checkpoints.Progress.{as-far}
use Rattle.ckr_desk_refines.proofs.Checkpoints.Turn.{event-told, fits-told, found-same, none, pair, taken-by, unclosed, uncoded}
use Rattle.ckr_desk_refines.proofs.Durable.Units.{committed-kept}
use Rattle.ckr_desk_refines.proofs.Entries.Images.{outside-kept}
use Rattle.ckr_desk_refines.proofs.Entries.There.{has-then}
use Rattle.ckr_desk_refines.proofs.Entries.Written.{has-behind}
use Rattle.ckr_desk_refines.proofs.Units.StepLists.{IsPair}

module _ (layout : Layout) (old : JobsView) (before : List ℕ) (desk : DeskModel) (turn : MountedTurn) (run : ℕ) (on : RunningStepView) (to : IsToTake layout old before desk turn run on) (event : Event) (told : (taken_of run desk).event ≡ Some event) where
  fits : checkpoint_fits desk.office.tables.sets (pair layout old before desk turn run on to).going.row (pair layout old before desk turn run on to).going.start (pair layout old before desk turn run on to).step.progress ≡ true
  fits = fits-told layout old before desk turn run on to event told

  pub stand : (new : JobsView) (written after : List ℕ) (count : ℕ) → HaveMoved event None old new → IsWrittenBehind layout desk.office run count before written → HasSameRecords desk.layout written after → StandsForDesk layout new after (taken_of run desk).desk
  stand new written after count moved behind same =
      written-stands layout old new before written after desk turn run count on to behind same fits
      (subst (λ (e : Event). HaveMoved e None old new) (event-told layout old before desk turn run on to fits event told) moved)

  -- an image with the records of the entry, and none of its event
  pub committed-before : (from image : List ℕ) (count : ℕ) → HasCommitted desk.layout desk.office from → IsWrittenBehind layout desk.office run count from image → HasCommitted desk.layout desk.office image
  committed-before from image count had behind =
      let p = pair layout old before desk turn run on to in
      committed-kept desk.layout desk.office.tables.sets (names_of p.stands.start.root p.stands.start.owned) on.sets to.stands.is_desk.kept.events.extents p.stands.sets from image
      (keeps-from layout old before desk turn run on to from image count behind
      (content-so layout old before desk turn run on to fits behind.name (check_is layout old before desk turn run on to from image count behind) behind.table behind.at)) desk.office refl had

  pub entries-before : (from image : List ℕ) (count : ℕ) → AreWithin desk.office.tables.sets → HasEntries desk.layout desk.office from → IsWrittenBehind layout desk.office run count from image → HasEntries desk.layout desk.office image
  entries-before from image count within had behind =
      let stands : StandsIn desk.layout behind.table.set = each-at (λ (table : TableSet). StandsIn desk.layout table.set) desk.office.tables.sets to.stands.is_desk.kept.events.extents.stand behind.name behind.table behind.at in
      let most = stands.length_fits in
      let space = behind.space in
      has-then desk.layout desk.office from image within
      (outside-kept desk.layout desk.office.tables.sets to.stands.is_desk.kept.events.extents from image behind.name behind.table behind.set behind.table.set.length count behind.at behind.places (omega arith) (omega (arith, most, space))
      (subst (λ (l : Layout). SameRecordsOutside l behind.set behind.table.set.length count from image) (sym to.stands.layout_is) behind.outside)) had

  -- with the records of the entry it has the entries that the event leaves
  pub entries-behind : (written image : List ℕ) (count : ℕ) (behind : IsWrittenBehind layout desk.office run count before written) (progress : StepProgress) → progress_of desk run ≡ Some progress
      → IsEntry (next_entry desk.office.tables.sets behind.row behind.start progress) → HasEntry image desk.layout behind.set behind.table.set.length (spelling (next_entry desk.office.tables.sets behind.row behind.start progress))
      → HasEntries desk.layout desk.office image → HasEntries desk.layout (taken_of run desk).desk.office image
  entries-behind written image count behind progress known is_entry there had =
      let p = pair layout old before desk turn run on to in
      let named : check_set p.going.start ≡ Some behind.name = check_is layout old before desk turn run on to before written count behind in
      let entry_is : next_entry desk.office.tables.sets behind.row behind.start progress ≡ next_entry desk.office.tables.sets p.going.row p.going.start p.step.progress =
      found-same layout old before desk turn run on to (next_entry desk.office.tables.sets) behind.row behind.start progress behind.of known in
      let place : entry_place desk.office.tables.sets p.going.start ≡ behind.table.set.length =
      ap (λ (o : Option Name). option_map_or (λ (table : TableSet). table.set.length) (option_and_then (entry_at desk.office.tables.sets) o) 0) named
      ∙ ap (λ (o : Option TableSet). option_map_or (λ (table : TableSet). table.set.length) o 0) behind.at in
      subst (λ (done : TurnDone). HasEntries desk.layout done.desk.office image) (sym (taken-by layout old before desk turn run on to true fits))
      (has-behind desk.layout desk.office p.step (may desk to.stands.is_desk p.step p.going (uncoded layout old before desk turn run on to) (unclosed layout old before desk turn run on to) fits) image behind.name behind.table behind.set named behind.at behind.places
      (subst IsEntry entry_is is_entry)
      (subst (λ n. HasEntry image desk.layout behind.set n (spelling (next_entry desk.office.tables.sets p.going.row p.going.start p.step.progress))) (sym place)
      (subst (λ (entry : Entry). HasEntry image desk.layout behind.set behind.table.set.length (spelling entry)) entry_is there)) had)

  -- an image with the event
  pub committed-behind : (written image : List ℕ) (count : ℕ) → IsWrittenBehind layout desk.office run count before written → HasSameRecords desk.layout written image → HasCommitted desk.layout (taken_of run desk).desk.office image
  committed-behind written image count behind same =
      subst (λ (done : TurnDone). HasCommitted desk.layout done.desk.office image) (sym (taken-by layout old before desk turn run on to true fits))
      (committed-then layout old old before written image desk turn run count on to behind same fits)

-- ---- the checkpoint that the jobs make

module _ (layout : Layout) (old : JobsView) (before : List ℕ) (desk : DeskModel) (turn : MountedTurn) (run : ℕ) (on : RunningStepView) (to : IsToTake layout old before desk turn run on) (made : Checkpoint) (c : IsCheckpointOf desk.office.tables on made) where
  abbrev p : IsPair desk.layout desk.office before run on desk.running
  p = pair layout old before desk turn run on to

  its : IsOfJob desk.office.tables p.going.row p.going.start p.step.progress made
  its =
      let row_is : c.row ≡ p.going.row = same_Some c.row p.going.row (sym c.row_at ∙ ap (run_of desk.office.tables) p.stands.run ∙ p.going.row_at) in
      is-of-job desk.office.tables p.going.row p.going.start on p.step.progress made c (as-far desk to.stands.is_desk before on p.step p.going p.stands (none layout old before desk turn run on to)) row_is
      (by-step desk to.stands.is_desk p.step.run p.going.row p.going.number p.going.committed p.going.start (going-within desk.office p.step p.going)
      (λ leg owned running starts spaced.
      same_Some c.own p.going.start.owned
      (sym c.found ∙ ap (λ (r : RunRow). step_of_run r (step_in (place_of r))) row_is ∙ ap (λ place. step_of_run p.going.row (step_in place)) running.stands ∙ running.found
      ∙ ap (λ (s : StepStart). Some s.owned) (sym starts))))

  pub event-made : (taken_of run desk).event ≡ Some made.event
  event-made = ap (λ (done : TurnDone). done.event) (taken-by layout old before desk turn run on to true its.fits) ∙ ap Some (sym its.event)

  pub entry-made : (row : RunRow) (start : StepStart) (progress : StepProgress) → IsStepOf desk.office run row start → progress_of desk run ≡ Some progress → made.entry.items ≡ spelling (next_entry desk.office.tables.sets row start progress)
  entry-made row start progress of known = its.entry ∙ sym (ap spelling (found-same layout old before desk turn run on to (next_entry desk.office.tables.sets) row start progress of known))
