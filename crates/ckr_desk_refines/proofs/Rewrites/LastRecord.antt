-- What is committed behind the event of a rewrite, once its record is written again.
use Rattle.std.proofs.Common.{◌≡◌, ℕ, List, refl, ap, sym, ◌∙◌, subst, Option, None, Some, slice_get, slice_set, arith}
use Rattle.std.specs.Option.{option_map_or}
use Rattle.std.proofs.lemmas.Option.{same_Some}
use Rattle.ckr_events.specs.declared.event.Event.{Event}
use Rattle.ckr_console.specs.declared.question.Answer.{Answer}
use Rattle.ckr_desk_memory.specs.View.{JobsView, RunningStepView}
use Rattle.ckr_desk_memory.specs.Rewrite.{updated_by, updated_in}
use Rattle.ckr_desk_turn.specs.Invariant.{IsDesk}
use Rattle.ckr_desk_refines.specs.Commits.{HasCommitted}
use Rattle.ckr_desk_refines.proofs.Durable.Units.{committed-kept}
use Rattle.ckr_library.specs.declared.sets.DataSet.{DataSet}
use Rattle.ckr_library.specs.Catalog.{set_of}
use Rattle.ckr_library.specs.NameMaps.{Name}
use Rattle.ckr_meaning.specs.EffectiveJob.{Effective, OwnedStep, names_of}
use Rattle.ckr_points.specs.Payload.{writes_in}
use Rattle.ckr_points.specs.Office.{Office, model_records}
use Rattle.ckr_points.specs.Restart.{place_of}
use Rattle.ckr_points.specs.Rows.{RunRow, run_of}
use Rattle.ckr_desk_refines.specs.Rewrite.{AsksToRewrite}
use Rattle.ckr_points_invariant.specs.Invariant.{step_now}
use Rattle.ckr_points_invariant.proofs.Steps.Commits.{formed_step}
use Rattle.ckr_desk_refines.specs.RewriteRecord.{HasCommittedAgain, RewriteRecord, again, rewrite_of}
use Rattle.ckr_desk_refines.specs.Moves.{DiffersAt, HasSameRecords}
use Rattle.ckr_steps.specs.declared.files.RecordSource.TheVariants.{InSet}
use Rattle.ckr_steps.specs.Writes.{Keeps}
use Rattle.ckr_desk_turn.specs.Desk.{DeskModel, TurnDone, work_of}
use Rattle.ckr_desk_turn.specs.Turns.{MountedTurn}
use Rattle.ckr_volumes.specs.Records.{records_on}
use Rattle.ckr_desk_refines.proofs.Rewrites.Requests.{IsAsked, done, event, event-is, is-asked, kept-then, name-is, office-is, still, then, work-is}
use Rattle.ckr_desk_refines.proofs.Rewrites.Office.{next, next-at}
use Rattle.ckr_desk_refines.proofs.Rewrites.Commits.{changed-committed, has-record}
use Rattle.ckr_desk_refines.proofs.Rewrites.OwnStep.{goes-in-place, same-job, updated-shown}
use Rattle.ckr_desk_refines.proofs.Rewrites.Records.{same-but}
use Rattle.ckr_desk_memory.proofs.Masters.{by-role}

abbrev record_so : ℕ → List ℕ → Name → RewriteRecord
record_so place image name = record { name = name; place = place; image = image }

module _ (old : JobsView) (before after : List ℕ) (desk : DeskModel) (turn : MountedTurn) (run : ℕ) (on moved : RunningStepView) (place : ℕ) (image : List ℕ) (taken : ℕ) (asks : AsksToRewrite desk.layout old before after desk turn run on moved place image taken) where
  is : IsDesk desk
  is = asks.stands.is_desk

  asked : IsAsked before after desk run on moved place image taken
  asked = is-asked old before after desk turn run on moved place image taken asks

  abbrev office_then : Office
  office_then = then before after desk is run on moved place image taken asked

  abbrev event_then : Event
  event_then = event before after desk is run on moved place image taken asked

  -- the event tells the record under the name of what is updated
  told_record : rewrite_of office_then.tables event_then ≡ Some (record_so place image asked.rewrite.name)
  told_record =
      ap (λ (o : Option RunRow). option_map_or (λ row. option_map_or (λ name. Some (record_so place image name)) (updated_by row) None) o None)
      (ap (run_of office_then.tables) asked.led.numbered ∙ next-at desk before on asked.step asked.led moved.step.writes moved.sets asked.same)
      ∙ ap (λ (o : Option OwnedStep). option_map_or (λ name. Some (record_so place image name)) (option_map_or (updated_in (next desk before on asked.step asked.led moved.step.writes moved.sets asked.same)) o None) None) asked.led.running.found
      ∙ ap (λ (o : Option Name). option_map_or (λ name. Some (record_so place image name)) o None)
      (subst (λ (job : Effective). updated_in (record (next desk before on asked.step asked.led moved.step.writes moved.sets asked.same) { job = job }) asked.led.owned ≡ Some asked.rewrite.name)
      (same-job desk is before on asked.step asked.led after moved taken place image asked.rewrite asked.same asked.stood)
      (by-role _ place asked.rewrite.name
      (formed_step desk.layout desk.office asked.step.run asked.led.row asked.led.leg asked.led.owned (step_now asked.led.row) (writes_in (place_of asked.led.row)) is.kept.events asked.led.running)
      asked.rewrite.program
      (goes-in-place desk is before on asked.step asked.led after moved taken place image asked.rewrite asked.same asked.stood)))

  -- what is committed once it is written again
  again_so : (told stopped : List ℕ) → HasSameRecords desk.layout after told → (set : DataSet) → set_of moved.sets asked.rewrite.name ≡ Some set → DiffersAt desk.layout set place told stopped → HasCommittedAgain desk.layout office_then (Some event_then) stopped
  again_so told stopped as_told set found differs name table e plain =
      ap (λ (o : Option RewriteRecord). again o name (records_on stopped desk.layout table.set table.set.length)) told_record
      ∙ changed-committed desk is before on asked.step asked.led after moved taken place image asked.rewrite asked.same asked.stood (kept-then before after desk is run on moved place image taken asked)
      (still before after desk is run on moved place image taken asked) asks.keeps asks.stands.committed told as_told set found stopped (λ other stands apart n le. differs.others other stands apart n le)
      (λ records. slice_set records place image) (λ n le. same-but told stopped desk.layout set place image n (λ at less other. differs.records at (omega (arith, le, less)) other)) name table e plain

  pub again-then : (answer : Answer) (other : Event) → (work_of answer run desk).event ≡ Some other → (told stopped : List ℕ) → HasSameRecords desk.layout after told → (name : Name) (set : DataSet) → moved.step.files.first ≡ InSet name
      → set_of moved.sets name ≡ Some set → DiffersAt desk.layout set place told stopped → HasCommittedAgain desk.layout (work_of answer run desk).desk.office (Some other) stopped
  again-then answer other is_event told stopped as_told name set first found differs =
      subst (λ (one : TurnDone). HasCommittedAgain desk.layout one.desk.office (Some other) stopped) (sym (work-is before after desk is run on moved place image taken asked answer))
      (subst (λ (e : Event). HasCommittedAgain desk.layout (done before after desk is run on moved place image taken asked).desk.office (Some e) stopped) (event-is before after desk is run on moved place image taken asked answer other is_event)
      (subst (λ (office : Office). HasCommittedAgain desk.layout office (Some event_then) stopped) (sym (office-is before after desk is run on moved place image taken asked))
      (again_so told stopped as_told set (ap (set_of moved.sets) (sym (name-is before after desk is run on moved place image taken asked name first)) ∙ found) differs)))

  -- the office has it
  pub record-then : (answer : Answer) (other : Event) → (work_of answer run desk).event ≡ Some other → (rewrite : RewriteRecord) → rewrite_of (work_of answer run desk).desk.office.tables other ≡ Some rewrite
      → slice_get (model_records (work_of answer run desk).desk.office rewrite.name) rewrite.place ≡ Some rewrite.image
  record-then answer other is_event rewrite told =
      subst (λ (office : Office). slice_get (model_records office rewrite.name) rewrite.place ≡ Some rewrite.image) (sym office_so)
      (subst (λ (one : RewriteRecord). slice_get (model_records office_then one.name) one.place ≡ Some one.image)
      (same_Some (record_so place image asked.rewrite.name) rewrite
      (sym told_record ∙ ap (rewrite_of office_then.tables) (event-is before after desk is run on moved place image taken asked answer other is_event) ∙ ap (λ (office : Office). rewrite_of office.tables other) (sym office_so) ∙ told))
      (let shown = updated-shown desk is before on asked.step asked.led after moved taken place image asked.rewrite asked.same asked.stood in
      has-record desk is before on asked.step asked.led after moved taken place image asked.rewrite asked.same asked.stood (kept-then before after desk is run on moved place image taken asked) shown.set shown.is))
    where
      office_so : (work_of answer run desk).desk.office ≡ office_then
      office_so = ap (λ (one : TurnDone). one.desk.office) (work-is before after desk is run on moved place image taken asked answer) ∙ office-is before after desk is run on moved place image taken asked

  -- before the event an image that keeps the step's data sets has what is committed
  pub before-then : (from stopped : List ℕ) → HasCommitted desk.layout desk.office from → Keeps desk.layout on.sets from stopped → HasCommitted desk.layout desk.office stopped
  before-then from stopped had keeps =
      committed-kept desk.layout desk.office.tables.sets (names_of asked.led.leg.job.root asked.led.owned) on.sets is.kept.events.extents asked.led.sets from stopped keeps desk.office refl had
