-- What the event of a unit brings about, where its step ends with a code, and its run ends, is held or is restarted, and where it rewrites a record.
use Rattle.std.proofs.Common.{◌≡◌, ◌≤◌, ◌<◌, ℕ, Bool, true, List, cond, refl, ap, sym, ◌∙◌, subst, slice_set, Option, Some, None}
use Rattle.std.specs.Option.{option_map, option_map_or}
use Rattle.std.proofs.lemmas.Option.{same_Some}
use Rattle.arrayvec.specs.ArrayVec.{ArrayVec}
use Rattle.ckr_base.specs.declared.code.Code.{Code}
use Rattle.ckr_base.proofs.Options.{some-not-none}
use Rattle.ckr_console.specs.declared.question.Answer.{Answer}
use Rattle.ckr_events.specs.declared.event.Ending.TheVariants.{Coded}
use Rattle.ckr_events.specs.declared.event.Event.{Event}
use Rattle.ckr_events.specs.declared.event.Event.TheVariants.{Ended, Held, Restarted}
use Rattle.ckr_desk_refines.specs.Memory.View.{JobsView, RunningStepView}
use Rattle.ckr_desk_refines.specs.Memory.Rewrite.{updated_by, updated_in}
use Rattle.ckr_desk_turn.proofs.Units.AnyUnit.{work-keeps}
use Rattle.ckr_desk_turn.specs.NextEvents.{Comes, EventComes}
use Rattle.ckr_desk_turn.specs.Invariant.{IsDesk}
use Rattle.ckr_desk_refines.specs.Commits.{HasCommitted, HasWithinRun}
use Rattle.ckr_library.specs.declared.sets.Content.TheVariants.{Plain}
use Rattle.ckr_library.specs.declared.sets.DataSet.{DataSet}
use Rattle.ckr_library.specs.NameMaps.{Name, entry_at}
use Rattle.ckr_library.proofs.Named.{at-with_changed, name-equivalence}
use Rattle.ckr_meaning.specs.EffectiveJob.{Effective, OwnedStep}
use Rattle.ckr_meaning.specs.LibrarySet.{LibrarySet}
use Rattle.ckr_meaning.specs.StepRun.{StepStart, rewritten, within_at}
use Rattle.ckr_points.specs.Payload.{writes_in}
use Rattle.ckr_points.specs.Office.{Office, office_after}
use Rattle.ckr_points.specs.Restart.{after_event, place_of}
use Rattle.ckr_points.specs.Rows.{RunRow, TableSet, TablesModel, run_of}
use Rattle.ckr_desk_refines.proofs.Rewrites.LastRecord.{again-then, record-then}
use Rattle.ckr_desk_refines.proofs.Rewrites.Requests.{IsAsked, event as event_told, event-is, is-asked, kept-then as kept-office, office-is, then, work-is}
use Rattle.ckr_desk_refines.proofs.Rewrites.Office.{IsThere, IsTheirs, lengths_now, next, next-at, own-table, running-then}
use Rattle.ckr_desk_refines.proofs.Rewrites.OwnStep.{goes-in-place, same-job, updated-among, updated-plain, updated-shown}
use Rattle.ckr_desk_refines.proofs.Rewrites.Unit.{one-more}
use Rattle.ckr_desk_refines.proofs.Rewrites.Desk.{stands-then}
use Rattle.ckr_desk_refines.proofs.Memory.Masters.{by-role}
use Rattle.ckr_desk_refines.specs.Rewrite.{AsksToRewrite}
use Rattle.ckr_points_invariant.proofs.Stamps.Tables.{alike_set}
use Rattle.ckr_points_invariant.proofs.Steps.Commits.{alike_within, formed_step, in_reach}
use Rattle.ckr_points_invariant.specs.Invariant.{IsKept, Shape, step_now, table_shape}
use Rattle.ckr_points_invariant.specs.RunningSteps.{its_start}
use Rattle.ckr_desk_refines.specs.RewriteRecord.{HasCommittedAgain, HasLast}
use Rattle.ckr_desk_refines.specs.Moves.{DiffersAt, HasSameRecords, HaveMoved, IsWritten}
use Rattle.ckr_desk_refines.specs.Standing.{StandsBut, StandsForDesk}
use Rattle.ckr_steps.specs.declared.files.Files.{Files}
use Rattle.ckr_steps.specs.declared.files.RecordSource.TheVariants.{InSet}
use Rattle.ckr_steps.specs.declared.step_run.Worked.{Worked}
use Rattle.ckr_steps.specs.declared.step_run.Worked.TheVariants.{Abend, Rewrite}
use Rattle.ckr_steps.specs.Writes.{IsShown}
use Rattle.ckr_desk_refines.proofs.Events.Turns.{code-committed, code-stands, held-stands, hold-committed, restart-committed, restarted-stands}
use Rattle.ckr_desk_turn.specs.Turns.{MountedTurn}
use Rattle.ckr_desk_turn.specs.Desk.{DeskModel, TurnDone, behind, work_of}
use Rattle.ckr_volumes.specs.declared.layout.Layout.{Layout}
use Rattle.ckr_volumes.specs.SamePlaces.{SamePlaces, same_places}
use Rattle.ckr_desk_refines.proofs.Units.Desk.{pair, progress-at, unclosed, work-kept}
use Rattle.ckr_desk_refines.proofs.Units.Codes.{coded-behind, coded-but, coded-within}
use Rattle.ckr_desk_refines.specs.Unit.{IsPutBack, StandsBehindUnit}
use Rattle.ckr_desk_refines.proofs.Durable.Units.{apart-there}
use Rattle.ckr_desk_refines.proofs.Entries.There.{same-record}
use Rattle.ckr_desk.proofs.Images.Entries.{HasNewOne}
use Rattle.ckr_desk.proofs.Images.LastRecord.{again-so}
use Rattle.ckr_desk.proofs.Images.WrittenRecord.{TellsRecord}
use Rattle.ckr_desk.proofs.Openings.LastRecord.{IsDue, due-so}
use Rattle.ckr_desk.proofs.Turns.Events.{quiet-lacks, quiet-rewrites, quiet-takes, quiet-tells, quiet-written}
use Rattle.ckr_desk.proofs.Turns.QuietEvents.{is_quiet}
use Rattle.ckr_desk.specs.Rewrite.{IsWrittenBy, LacksAtMost}

-- the event of a unit may come; the desk behind it, the jobs in memory that stand for it, and what an image of a stop has
pub record Ensues (put : JobsView) (after : List ℕ) (desk : DeskModel) (run : ℕ) (answer : Answer) (event : Event) : Type 0 where
  pub comes : Comes desk event
  pub is_desk : IsDesk (work_of answer run desk).desk
  pub layout_is : (work_of answer run desk).desk.layout ≡ desk.layout
  pub office : (work_of answer run desk).desk.office ≡ office_after (event, None) desk.office
  pub last : HasLast (work_of answer run desk).desk.office (Some event)
  pub takes : (layout : Layout) (now : Office) (image : List ℕ) → HasNewOne layout now event image
  pub record_told : TellsRecord (after_event event None desk.office.tables) event
  pub stands : (later : JobsView) → HaveMoved event None put later → (told written : List ℕ) → HasSameRecords desk.layout after told
      → IsWrittenBy desk.layout (after_event event None desk.office.tables) event told written → StandsForDesk desk.layout later written (work_of answer run desk).desk
  pub same : (stopped : List ℕ) → HasSameRecords desk.layout after stopped → HasCommittedAgain desk.layout (work_of answer run desk).desk.office (Some event) stopped
  pub lacking : (told stopped : List ℕ) → HasSameRecords desk.layout after told → LacksAtMost desk.layout (after_event event None desk.office.tables) event told stopped
      → HasCommittedAgain desk.layout (work_of answer run desk).desk.office (Some event) stopped

-- ---- data sets in the same places

turned-places : (one two : DataSet) → SamePlaces one two → SamePlaces two one
turned-places one two same = record { parts = sym same.parts; lrecl = sym same.lrecl }

written-there : (layout : Layout) (one other : DataSet) (place : ℕ) (bytes before after : List ℕ) → SamePlaces one other → other.space ≡ one.space → IsWritten layout one place bytes before after → IsWritten layout other place bytes before after
written-there layout one other place bytes before after same space wrote = record {
  written = λ n le.
      same_places after layout one other same n
      ∙ wrote.written n (subst (λ (s : ℕ). n ≤ s) space le)
      ∙ ap (λ (records : List (List ℕ)). slice_set records place bytes) (sym (same_places before layout one other same n));
  others = λ third stands apart n le. wrote.others third stands (apart-there other one third (turned-places one other same) apart) n le;
}

differs-there : (layout : Layout) (one other : DataSet) (place : ℕ) (told image : List ℕ) → SamePlaces one other → other.space ≡ one.space → DiffersAt layout one place told image → DiffersAt layout other place told image
differs-there layout one other place told image same space differs = record {
  records = λ at less apart.
      same-record image layout one other same at
      ∙ differs.records at (subst (λ (s : ℕ). at < s) space less) apart
      ∙ sym (same-record told layout one other same at);
  others = λ third stands apart n le. differs.others third stands (apart-there other one third (turned-places one other same) apart) n le;
}

-- an image differs from itself at no place
differs-nowhere : (layout : Layout) (set : DataSet) (place : ℕ) (image : List ℕ) → DiffersAt layout set place image image
differs-nowhere layout set place image = record { records = λ at less apart. refl; others = λ other stands apart n le. refl }

-- ---- the unit's event comes

module _ (old : JobsView) (before after : List ℕ) (desk : DeskModel) (turn : MountedTurn) (run : ℕ) (on moved : RunningStepView) (worked : Worked) (unit : StandsBehindUnit desk.layout old before after desk turn run on moved worked) (answer : Answer) where
  comes-so : (event : Event) → (work_of answer run desk).event ≡ Some event → Comes desk event
  comes-so event is =
      subst (EventComes desk) is
      (work-keeps answer desk unit.stands.is_desk run (pair desk.layout old before after desk turn run on moved worked unit).step.progress
      (progress-at desk.layout old before after desk turn run on moved worked unit) (unclosed desk.layout old before after desk turn run on moved worked unit)).comes

-- ---- the step ends with a code

module _ (old : JobsView) (before after : List ℕ) (desk : DeskModel) (turn : MountedTurn) (run : ℕ) (on moved : RunningStepView) (code : Code) (unit : StandsBehindUnit desk.layout old before after desk turn run on moved (Abend code))
    (put : JobsView) (back : IsPutBack run moved old put) (answer : Answer) where
  but : StandsBut run desk.layout put after desk
  but = coded-but desk.layout old before after desk turn run on moved code unit put back

  -- whatever is told of it
  module _ (event : Event) (is : (work_of answer run desk).event ≡ Some event) where
    desk-then : (work_of answer run desk).desk ≡ behind event None desk
    desk-then = coded-behind desk.layout old before after desk turn run on moved code unit answer event is

    kept-then : IsDesk (behind event None desk)
    kept-then = subst IsDesk desk-then (work-kept desk.layout old before after desk turn run on moved (Abend code) unit answer)

    comes-then : Comes desk event
    comes-then = comes-so old before after desk turn run on moved (Abend code) unit answer event is

    module _ (quiet : is_quiet event ≡ true) where
      last-then : HasLast (work_of answer run desk).desk.office (Some event)
      last-then rewrite told = absurd (some-not-none rewrite (sym told ∙ quiet-rewrites event quiet (work_of answer run desk).desk.office.tables))

      quiet-ensues : ((later : JobsView) → HaveMoved event None put later → (written : List ℕ) → HasSameRecords desk.layout after written → StandsForDesk desk.layout later written (behind event None desk))
          → ((stopped : List ℕ) → HasSameRecords desk.layout after stopped → HasCommitted desk.layout (behind event None desk).office stopped)
          → Ensues put after desk run answer event
      quiet-ensues stands committed = record {
        comes = comes-then;
        is_desk = subst IsDesk (sym desk-then) kept-then;
        layout_is = ap (λ (d : DeskModel). d.layout) desk-then;
        office = ap (λ (d : DeskModel). d.office) desk-then;
        last = last-then;
        takes = quiet-takes event quiet;
        record_told = quiet-tells event quiet (after_event event None desk.office.tables);
        stands = λ later goes told written same wrote.
            subst (StandsForDesk desk.layout later written) (sym desk-then)
            (stands later goes written
            (subst (HasSameRecords desk.layout after) (sym (quiet-written event quiet desk.layout (after_event event None desk.office.tables) told written wrote)) same));
        same = λ stopped same.
            again-so desk.layout (work_of answer run desk).desk.office (Some event) stopped last-then
            (subst (λ (d : DeskModel). HasCommitted desk.layout d.office stopped) (sym desk-then) (committed stopped same));
        lacking = λ told stopped same lacks. absurd (quiet-lacks event quiet desk.layout (after_event event None desk.office.tables) told stopped lacks);
      }

  within : HasWithinRun desk.layout desk.office run moved.step.writes after
  within = coded-within desk.layout old before after desk turn run on moved code unit

  -- its run ends
  pub ended-ensues : (rule : ℕ) (lengths : ArrayVec ℕ) → (work_of answer run desk).event ≡ Some (Ended run (Coded code rule moved.step.writes lengths)) → Ensues put after desk run answer (Ended run (Coded code rule moved.step.writes lengths))
  ended-ensues rule lengths is =
      quiet-ensues ended is refl
      (λ later goes written same. code-stands desk.layout put later after written desk run rule moved.step.writes code lengths but (comes-then ended is) (kept-then ended is) within goes same)
      (code-committed desk.layout put after desk run rule moved.step.writes code lengths but (comes-then ended is) (kept-then ended is) within)
    where
      ended : Event
      ended = Ended run (Coded code rule moved.step.writes lengths)

  -- it is held
  pub held-ensues : (lengths : ArrayVec ℕ) → (work_of answer run desk).event ≡ Some (Held run code moved.step.writes lengths) → Ensues put after desk run answer (Held run code moved.step.writes lengths)
  held-ensues lengths is =
      quiet-ensues held is refl
      (λ later goes written same. held-stands desk.layout put later after written desk run moved.step.writes code lengths but (comes-then held is) (kept-then held is) within goes same)
      (hold-committed desk.layout put after desk run moved.step.writes code lengths but (comes-then held is) (kept-then held is) within)
    where
      held : Event
      held = Held run code moved.step.writes lengths

  -- it is restarted, at the start of the step or at its checkpoint in effect
  pub restarted-ensues : (initiator : ℕ) (checkpoint : Bool) → (work_of answer run desk).event ≡ Some (Restarted run initiator code checkpoint) → Ensues put after desk run answer (Restarted run initiator code checkpoint)
  restarted-ensues initiator checkpoint is =
      quiet-ensues restarted is refl
      (λ later goes written same. restarted-stands desk.layout put later after written desk run initiator code checkpoint but (comes-then restarted is) (kept-then restarted is) goes same)
      (restart-committed desk.layout put after desk run initiator code checkpoint but (comes-then restarted is) (kept-then restarted is))
    where
      restarted : Event
      restarted = Restarted run initiator code checkpoint

-- ---- the step rewrites a record

module _ (old : JobsView) (before after : List ℕ) (desk : DeskModel) (turn : MountedTurn) (run : ℕ) (on moved : RunningStepView) (place : ℕ) (image : List ℕ) (taken : ℕ) (unit : StandsBehindUnit desk.layout old before after desk turn run on moved (Rewrite place image taken)) where
  asks : AsksToRewrite desk.layout old before after desk turn run on moved place image taken
  asks = record { stands = unit.stands; planned = unit.planned; found = unit.found; run = unit.same_run; code = unit.same_code; did = unit.did; goes = unit.goes; keeps = unit.keeps }

  is_desk : IsDesk desk
  is_desk = unit.stands.is_desk

  asked : IsAsked before after desk run on moved place image taken
  asked = is-asked old before after desk turn run on moved place image taken asks

  abbrev office_then : Office
  office_then = then before after desk is_desk run on moved place image taken asked

  abbrev event_then : Event
  event_then = event_told before after desk is_desk run on moved place image taken asked

  abbrev name : Name
  name = asked.rewrite.name

  -- the data set in memory that is updated
  shown : IsShown (Unit {0}) after desk.layout asked.rewrite.rewritten moved.sets name
  shown = updated-shown desk is_desk before on asked.step asked.led after moved taken place image asked.rewrite asked.same asked.stood

  first-is : moved.step.files.first ≡ InSet name
  first-is = ap (λ (files : Files). files.first) asked.rewrite.stands.files ∙ asked.rewrite.updates

  -- the row behind the event
  abbrev row_then : RunRow
  row_then = next desk before on asked.step asked.led moved.step.writes moved.sets asked.same

  row-at : run_of office_then.tables asked.led.row.number ≡ Some row_then
  row-at = ap (run_of office_then.tables) asked.led.numbered ∙ next-at desk before on asked.step asked.led moved.step.writes moved.sets asked.same

  updates-so : updated_by row_then ≡ Some name
  updates-so =
      ap (λ (o : Option OwnedStep). option_map_or (updated_in row_then) o None) asked.led.running.found
      ∙ subst (λ (job : Effective). updated_in (record row_then { job = job }) asked.led.owned ≡ Some name)
      (same-job desk is_desk before on asked.step asked.led after moved taken place image asked.rewrite asked.same asked.stood)
      (by-role _ place name
      (formed_step desk.layout desk.office asked.step.run asked.led.row asked.led.leg asked.led.owned (step_now asked.led.row) (writes_in (place_of asked.led.row)) is_desk.kept.events asked.led.running)
      asked.rewrite.program
      (goes-in-place desk is_desk before on asked.step asked.led after moved taken place image asked.rewrite asked.same asked.stood))

  -- its data set is that in memory
  table-there : IsThere (IsTheirs shown.set) office_then.tables.sets name
  table-there = own-table desk before on asked.step asked.led moved.step.writes moved.sets asked.same name shown.set shown.is

  abbrev table : TableSet
  table = table-there.0

  abbrev start_then : StepStart
  start_then = its_start asked.led.leg asked.led.owned (step_now asked.led.row)

  -- what the job has of it behind the rewrite
  abbrev made : LibrarySet
  made = rewritten asked.led.owned.owner (step_now asked.led.row) place asked.rewrite.write.image asked.rewrite.rewritten

  made-at : entry_at (within_at start_then moved.step.writes) name ≡ Some made
  made-at =
      ap (λ library. entry_at library name) (one-more (Unit {0}) after desk.layout start_then asked.step.progress.taken taken place image on.step moved.step moved.sets asked.rewrite)
      ∙ at-with_changed name name (rewritten asked.led.owned.owner (step_now asked.led.row) place asked.rewrite.write.image) (within_at start_then on.step.writes)
      ∙ ap (λ b. cond b (option_map (rewritten asked.led.owned.owner (step_now asked.led.row) place asked.rewrite.write.image) (entry_at (within_at start_then on.step.writes) name)) (entry_at (within_at start_then on.step.writes) name))
      (name-equivalence.refl name)
      ∙ ap (option_map (rewritten asked.led.owned.owner (step_now asked.led.row) place asked.rewrite.write.image)) asked.rewrite.stood

  -- it holds records
  table-plain : table.set.content ≡ Plain
  table-plain =
      let kept : IsKept desk.layout office_then = kept-office before after desk is_desk run on moved place image taken asked in
      let running = running-then desk before on asked.step asked.led moved.step.writes moved.sets asked.same in
      let among = updated-among desk is_desk before on asked.step asked.led after moved taken place image asked.rewrite asked.same asked.stood in
      let reach = in_reach desk.layout office_then asked.step.run row_then asked.led.leg asked.led.owned (step_now asked.led.row) moved.step.writes kept.events running name among in
      let its = alike_set table (entry_at (within_at start_then moved.step.writes) name)
      (ap (option_map table_shape) (sym table-there.1) ∙ alike_within desk.layout office_then asked.step.run row_then asked.led.leg asked.led.owned (step_now asked.led.row) moved.step.writes kept.events running name reach) in
      ap (λ (shape : Shape). shape.content) its.2
      ∙ ap (λ (set : LibrarySet). set.content) (same_Some its.0 made (sym its.1 ∙ made-at))
      ∙ updated-plain desk is_desk before on asked.step asked.led after moved taken place image asked.rewrite asked.same asked.stood

  due-then : IsDue office_then.tables event_then
  due-then =
      due-so office_then.tables asked.led.row.number taken moved.step.writes (record { items = lengths_now desk before on asked.step asked.led moved.step.writes moved.sets asked.same }) place image
      row_then name table row-at updates-so table-there.1 table-plain

  -- ---- by the tables behind the event

  written-then : (told written : List ℕ) → IsWrittenBy desk.layout office_then.tables event_then told written → IsWritten desk.layout shown.set place image told written
  written-then told written wrote =
      written-there desk.layout table.set shown.set place image told written table-there.2.lies.places table-there.2.lies.space (wrote row_then name table row-at updates-so table-there.1)

  differs-then : (told stopped : List ℕ) → LacksAtMost desk.layout office_then.tables event_then told stopped → DiffersAt desk.layout shown.set place told stopped
  differs-then told stopped lacks =
      differs-there desk.layout table.set shown.set place told stopped table-there.2.lies.places table-there.2.lies.space (lacks row_then name table row-at updates-so table-there.1)

  module _ (put : JobsView) (back : IsPutBack run moved old put) (answer : Answer) (event : Event) (is : (work_of answer run desk).event ≡ Some event) where
    event-so : event_then ≡ event
    event-so = event-is before after desk is_desk run on moved place image taken asked answer event is

    tables-so : after_event event_then None desk.office.tables ≡ office_then.tables
    tables-so = ap (λ (office : Office). office.tables) (office-is before after desk is_desk run on moved place image taken asked)

    -- what is said by the event that is told, and by the tables behind it
    by-event : (P : Event → TablesModel → Type 0) → P event (after_event event None desk.office.tables) → P event_then office_then.tables
    by-event P holds = subst (P event_then) tables-so (subst (λ (e : Event). P e (after_event e None desk.office.tables)) (sym event-so) holds)

    of-event : (P : Event → TablesModel → Type 0) → P event_then office_then.tables → P event (after_event event None desk.office.tables)
    of-event P holds = subst (λ (e : Event). P e (after_event e None desk.office.tables)) event-so (subst (P event_then) (sym tables-so) holds)

    pub rewrite-ensues : Ensues put after desk run answer event
    rewrite-ensues = record {
      comes = comes-so old before after desk turn run on moved (Rewrite place image taken) unit answer event is;
      is_desk = work-kept desk.layout old before after desk turn run on moved (Rewrite place image taken) unit answer;
      layout_is = ap (λ (d : TurnDone). d.desk.layout) (work-is before after desk is_desk run on moved place image taken asked answer);
      office = ap (λ (d : TurnDone). d.desk.office) (work-is before after desk is_desk run on moved place image taken asked answer) ∙ ap (λ (e : Event). office_after (e, None) desk.office) event-so;
      last = λ rewrite told. record-then old before after desk turn run on moved place image taken asks answer event is rewrite told;
      takes = λ layout now left. subst (λ (e : Event). HasNewOne layout now e left) event-so tt;
      record_told = of-event (λ e tables. TellsRecord tables e) due-then;
      stands = λ later goes told written same wrote.
          stands-then desk.layout old before after desk turn run on moved place image taken answer asks put later
          (record { tables = back.tables; failed = back.failed; running = back.running; points = back.points }) event is goes told written same name shown.set first-is shown.is
          (written-then told written (by-event (λ e tables. IsWrittenBy desk.layout tables e told written) wrote));
      same = λ stopped same.
          again-then old before after desk turn run on moved place image taken asks answer event is stopped stopped same name shown.set first-is shown.is
          (differs-nowhere desk.layout shown.set place stopped);
      lacking = λ told stopped same lacks.
          again-then old before after desk turn run on moved place image taken asks answer event is told stopped same name shown.set first-is shown.is
          (differs-then told stopped (by-event (λ e tables. LacksAtMost desk.layout tables e told stopped) lacks));
    }
