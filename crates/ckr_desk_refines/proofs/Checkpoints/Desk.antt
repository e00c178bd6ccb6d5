-- The jobs in memory stand for the desk behind a checkpoint whose entry was written, and images have what is committed.
use Rattle.std.proofs.Common.{◌≡◌, ◌≢◌, ◌≤◌, ℕ, true, false, cond, List, ◌∷◌, find, refl, ap, sym, ◌∙◌, subst, Option, Some, None, arith}
use Rattle.std.specs.Prelude.{nat_le, option_and_then}
use Rattle.std.specs.Option.{option_map, option_map_or}
use Rattle.std.proofs.lemmas.Option.{same_Some}
use Rattle.ckr_base.proofs.Bools.{and-first}
use Rattle.ckr_base.proofs.Numbers.{nat_le-from, nat_le-true}
use Rattle.ckr_base.proofs.Options.{some-not-none}
use Rattle.ckr_events.specs.declared.event.Event.{Event}
use Rattle.ckr_library.specs.declared.sets.Content.TheVariants.{Checkpoints}
use Rattle.ckr_library.specs.declared.sets.DataSet.{DataSet}
use Rattle.ckr_library.specs.Catalog.{Holding, with_length}
use Rattle.ckr_library.specs.NameMaps.{Name, Named, entry_at, with_changed}
use Rattle.ckr_library.proofs.Named.{each-at}
use Rattle.ckr_meaning.specs.EffectiveJob.{Effective, OwnedStep, is_among, name_of, names_of}
use Rattle.ckr_meaning.specs.StepRun.{StepStart, within_at}
use Rattle.ckr_points.specs.Office.{Office}
use Rattle.ckr_points.specs.Payload.{start_in_office}
use Rattle.ckr_points.specs.Restart.{after_event, step_in}
use Rattle.ckr_points.specs.Rows.{TableSet, TablesModel, run_of, step_of_run}
use Rattle.ckr_points.specs.Tables.{is_checkpoints, name_with_role}
use Rattle.ckr_points_invariant.proofs.Holders.Places.{outputs-among}
use Rattle.ckr_points_invariant.proofs.Steps.Commits.{place_so}
use Rattle.ckr_steps.specs.EntryRecords.{SameRecordsOutside}
use Rattle.ckr_steps.specs.Writes.{Keeps}
use Rattle.ckr_desk_turn.specs.Turns.{MountedTurn}
use Rattle.ckr_volumes.specs.declared.layout.Layout.{Layout}
use Rattle.ckr_volumes.specs.Layouts.{StandsIn}
use Rattle.ckr_desk_memory.specs.EventChanges.{FirstEnters, IsEntered, check_name, check_name_in, has_space, is_of_run, without_first}
use Rattle.ckr_desk_memory.specs.View.{JobsView, RunningStepView}
use Rattle.ckr_desk_turn.proofs.Checkpoints.Events.{check-among, check-named, kept-behind, may-come, check-dd}
use Rattle.ckr_desk_turn.proofs.NextEvents.WithinStep.{by-step}
use Rattle.ckr_desk_turn.proofs.Opening.{has-runs}
use Rattle.ckr_desk_turn.proofs.RunningSteps.{going-within}
use Rattle.ckr_desk_turn.specs.Checkpoints.{check_set, checkpoint_fits, entry_bytes, entry_place, fits_in, lengths_with, next_id, written_event}
use Rattle.ckr_desk_turn.specs.Desk.{DeskModel, DeskStep, TurnDone, checkpoint_done, without_run}
use Rattle.ckr_desk_turn.specs.Invariant.{IsDesk, IsGoing}
use Rattle.ckr_desk_turn.specs.Taken.{taken_of}
use Rattle.ckr_desk_refines.specs.Checkpoints.{IsStepOf, IsToTake, IsWrittenBehind}
use Rattle.ckr_desk_refines.specs.Commits.{HasCommitted, HasWithin, HasWithinRun}
use Rattle.ckr_desk_refines.specs.Moves.{HasSameRecords, HaveMoved}
use Rattle.ckr_desk_refines.specs.Standing.{AllStand, PointsStand, StandsForDesk, StandsForStep}
use Rattle.ckr_desk_refines.proofs.Checkpoints.Images.{keeps-outside}
use Rattle.ckr_desk_refines.proofs.Checkpoints.Office.{end, leaves, leaves-others, may, office_then, row-then}
use Rattle.ckr_desk_refines.proofs.Checkpoints.OwnStep.{own-stands}
use Rattle.ckr_desk_refines.proofs.Checkpoints.Points.{points-written}
use Rattle.ckr_desk_refines.proofs.Checkpoints.Turn.{due-so, its-step, none, numbered, pair, taken-by, taken-kept, unclosed, uncoded}
use Rattle.ckr_desk_refines.proofs.Durable.Checkpoint.{checkpointed-stays}
use Rattle.ckr_desk_refines.proofs.Durable.Units.{committed-kept, within-shown}
use Rattle.ckr_desk_refines.proofs.Entries.CheckSets.{check-dd as has-check-dd}
use Rattle.ckr_desk_refines.proofs.Entries.RunningStep.{checkpoint-checks}
use Rattle.ckr_desk_refines.proofs.Events.OtherSteps.{step-stands, still-stands}
use Rattle.ckr_desk_refines.proofs.Rewrites.OwnStep.{shown-again}
use Rattle.ckr_desk_refines.proofs.Standing.StepViews.{place-due}
use Rattle.ckr_desk_refines.proofs.Rewrites.StepLists.{others-stand, put-differ}
use Rattle.ckr_desk_refines.proofs.Units.OtherSteps.{fits-so, other-stays, same-start}
use Rattle.ckr_desk_refines.proofs.Units.StepLists.{IsPair}

-- a data set that is there has the space
space-there : (most : ℕ) (set : DataSet) (entry : Option Holding) → option_map (λ (held : Holding). held.set) entry ≡ Some set → most ≤ set.space → option_map_or (λ (held : Holding). nat_le most held.set.space) entry false ≡ true
space-there most set None is fits = absurd (some-not-none set (sym is))
space-there most set (Some held) is fits = ap (λ (s : DataSet). nat_le most s.space) (same_Some held.set set is) ∙ nat_le-from most set.space fits

-- ---- the data set for checkpoints of a step

module _ (layout : Layout) (old : JobsView) (before : List ℕ) (desk : DeskModel) (turn : MountedTurn) (run : ℕ) (on : RunningStepView) (to : IsToTake layout old before desk turn run on) where
  abbrev pub is : IsDesk desk
  is = to.stands.is_desk

  abbrev pub p : IsPair desk.layout desk.office before run on desk.running
  p = pair layout old before desk turn run on to

  abbrev pub sets : Named TableSet
  sets = desk.office.tables.sets

  pub open_yet : p.step.progress.closed ≡ false
  open_yet = unclosed layout old before desk turn run on to

  pub no_code : p.step.code ≡ None
  no_code = uncoded layout old before desk turn run on to

  pub number_is : p.going.row.number ≡ run
  number_is = numbered layout old before desk turn run on to

  starts_same : p.going.start ≡ p.stands.start
  starts_same = same-start desk.layout desk.office before on p.step p.going p.stands

  module _ (from image : List ℕ) (count : ℕ) (behind : IsWrittenBehind layout desk.office run count from image) where
    start_is : behind.start ≡ p.going.start
    start_is =
        let mine : IsStepOf desk.office run p.going.row p.going.start = its-step layout old before desk turn run on to in
        let row_is : behind.row ≡ p.going.row = same_Some behind.row p.going.row (sym behind.of.row_at ∙ mine.row_at) in
        same_Some behind.start p.going.start (sym behind.of.start_at ∙ ap (start_in_office desk.office) row_is ∙ mine.start_at)

    pub check_is : check_set p.going.start ≡ Some behind.name
    check_is = ap check_set (sym start_is) ∙ behind.is

    among : is_among (names_of p.stands.start.root p.stands.start.owned) behind.name ≡ true
    among =
        ap (λ (s : StepStart). is_among (names_of s.root s.owned) behind.name) (sym starts_same)
        ∙ outputs-among p.going.start.root p.going.start.owned behind.name (check-among p.going.start behind.name (check-dd p.going.start behind.name check_is))

    -- what the running steps have written stays
    pub keeps-from : behind.table.set.content ≡ Checkpoints → Keeps desk.layout on.sets from image
    keeps-from content =
        let own = p.stands.sets.each behind.name behind.table among behind.at in
        keeps-outside desk.layout sets is.kept.events.extents (names_of p.stands.start.root p.stands.start.owned) on.sets p.stands.sets (fits-so desk is before on p.step p.going p.stands)
        behind.name behind.table behind.at own.0 own.1 (p.stands.checked behind.name behind.table own.0 behind.at own.1 content)
        behind.set behind.places behind.space count from image
        (subst (λ (l : Layout). SameRecordsOutside l behind.set behind.table.set.length count from image) (sym to.stands.layout_is) behind.outside)

  module _ (written : List ℕ) (keeps : Keeps desk.layout on.sets before written) where
    own-written : StandsForStep desk.layout desk.office written on p.step
    own-written = record {
      row = p.stands.row;
      row_at = p.stands.row_at;
      start = p.stands.start;
      start_at = p.stands.start_at;
      run = p.stands.run;
      code = p.stands.code;
      stands = p.stands.stands;
      served = p.stands.served;
      ordered = p.stands.ordered;
      writes = p.stands.writes;
      stopped = p.stands.stopped;
      sets = p.stands.sets;
      named = p.stands.named;
      shows =
          shown-again desk.layout (names_of p.stands.start.root p.stands.start.owned) (within_at p.stands.start p.step.progress.writes) on.sets before written
          (λ name set e. keeps.records name set set.length e (omega arith)) p.stands.shows;
      checked = p.stands.checked;
    }

    committed-written : HasCommitted desk.layout desk.office written
    committed-written =
        committed-kept desk.layout sets (names_of p.stands.start.root p.stands.start.owned) on.sets is.kept.events.extents p.stands.sets before written keeps desk.office refl to.stands.committed

  -- ---- its entry is written

  module _ (fits : checkpoint_fits desk.office.tables.sets p.going.row p.going.start p.step.progress ≡ true) (check : Name) (check_is : check_set p.going.start ≡ Some check) (table : TableSet) (at : entry_at sets check ≡ Some table) where
    abbrev pub later : Office
    later = office_then desk is p.step p.going no_code open_yet fits

    pub content-so : table.set.content ≡ Checkpoints
    content-so =
        by-step desk is p.step.run p.going.row p.going.number p.going.committed p.going.start (going-within desk.office p.step p.going)
        (λ leg owned running starts spaced.
        let comes = may-come desk.layout desk.office p.step (may desk is p.step p.going no_code open_yet fits) in
        let job : leg.job ≡ p.going.row.job = (place_so desk.layout desk.office p.step.run p.going.row leg owned p.going.number p.going.committed is.kept.events running).job in
        let named : name_with_role p.going.row.job.root owned is_checkpoints ≡ check =
        ap (λ (j : Effective). name_with_role j.root owned is_checkpoints) (sym job)
        ∙ ap (λ (s : StepStart). name_with_role s.root s.owned is_checkpoints) (sym starts)
        ∙ check-named p.going.start check (check-dd p.going.start check check_is) in
        checkpoint-checks desk.layout desk.office is.kept.events p.going.row.number p.step.progress.taken p.step.progress.writes (entry_place sets p.going.start) (entry_bytes sets p.going.row p.going.start p.step.progress)
        (next_id p.going.row p.going.start) (record { items = lengths_with sets p.going.start p.step.progress.writes (end desk is p.step p.going no_code open_yet fits) }) None comes.may
        (has-check-dd desk.layout desk.office is.kept (has-runs desk is) p.going.row.number p.step.progress.taken p.step.progress.writes (entry_place sets p.going.start) (entry_bytes sets p.going.row p.going.start p.step.progress)
        (next_id p.going.row p.going.start) (record { items = lengths_with sets p.going.start p.step.progress.writes (end desk is p.step p.going no_code open_yet fits) }) None comes.may)
        p.going.row owned table (ap (run_of desk.office.tables) (number_is ∙ sym p.same) ∙ p.going.row_at)
        (ap (λ place. step_of_run p.going.row (step_in place)) running.stands ∙ running.found) (ap (entry_at sets) named ∙ at))

    room-so : end desk is p.step p.going no_code open_yet fits ≤ table.set.space
    room-so =
        nat_le-true (end desk is p.step p.going no_code open_yet fits) table.set.space
        (and-first _ _ (and-first _ _
        (sym (ap (λ (o : Option Name). option_map_or (λ name. option_map_or (fits_in sets p.going.row p.going.start p.step.progress name) (entry_at sets name) false) o false) check_is
        ∙ ap (λ (o : Option TableSet). option_map_or (fits_in sets p.going.row p.going.start p.step.progress check) o false) at) ∙ fits)))

    -- its name is that of the row behind the event
    check-then : (tables : TablesModel) → tables ≡ later.tables → check_name_in tables p.going.row.number ≡ Some check
    check-then tables same =
        let next = row-then desk is p.step p.going no_code open_yet fits in
        ap (λ (t : TablesModel). option_and_then check_name (run_of t p.going.row.number)) same
        ∙ ap (option_and_then check_name) (ap (run_of later.tables) (number_is ∙ sym p.same) ∙ next.1)
        ∙ next.3
        ∙ by-step desk is p.step.run p.going.row p.going.number p.going.committed p.going.start (going-within desk.office p.step p.going)
        (λ leg owned running starts spaced.
        let job : leg.job ≡ p.going.row.job = (place_so desk.layout desk.office p.step.run p.going.row leg owned p.going.number p.going.committed is.kept.events running).job in
        ap (λ (o : Option OwnedStep). option_and_then (checkpoint_at p.going.row.job.root) o) (ap (λ place. step_of_run p.going.row (step_in place)) running.stands ∙ running.found)
        ∙ ap (λ (j : Effective). checkpoint_at j.root owned) (sym job)
        ∙ ap check_set (sym starts) ∙ check_is)
      where
        checkpoint_at : ℕ → OwnedStep → Option Name
        checkpoint_at root owned = option_and_then (name_of root owned) (find (λ dd. is_checkpoints dd.role) owned.step.dds)

-- ---- the desk behind it

module _ (layout : Layout) (old new : JobsView) (before written after : List ℕ) (desk : DeskModel) (turn : MountedTurn) (run count : ℕ) (on : RunningStepView) (to : IsToTake layout old before desk turn run on)
    (behind : IsWrittenBehind layout desk.office run count before written) (same : HasSameRecords desk.layout written after) where
  abbrev pub its : IsPair desk.layout desk.office before run on desk.running
  its = p layout old before desk turn run on to

  module _ (fits : checkpoint_fits desk.office.tables.sets its.going.row its.going.start its.step.progress ≡ true) where
    abbrev pub goes_open : its.step.progress.closed ≡ false
    goes_open = open_yet layout old before desk turn run on to

    abbrev pub goes_uncoded : its.step.code ≡ None
    goes_uncoded = no_code layout old before desk turn run on to

    abbrev pub now : Office
    now = office_then desk to.stands.is_desk its.step its.going goes_uncoded goes_open fits

    named : check_set its.going.start ≡ Some behind.name
    named = check_is layout old before desk turn run on to before written count behind

    checks : behind.table.set.content ≡ Checkpoints
    checks = content-so layout old before desk turn run on to fits behind.name named behind.table behind.at

    keeps : Keeps desk.layout on.sets before written
    keeps = keeps-from layout old before desk turn run on to before written count behind checks

    -- its own step, on the later image
    own-after : StandsForStep desk.layout desk.office after on its.step
    own-after =
        let so : StandsForStep desk.layout desk.office written on its.step = own-written layout old before desk turn run on to written keeps in
        still-stands desk to.stands.is_desk desk.office written after same on its.step its.going so so.row so.row_at so.start_at (λ name among. refl)

    had-after : HasCommitted desk.layout desk.office after
    had-after name table e plain =
        let stands : StandsIn desk.layout table.set = each-at (λ (table : TableSet). StandsIn desk.layout table.set) desk.office.tables.sets to.stands.is_desk.kept.events.extents.stand name table e in
        same table.set table.set.length stands stands.length_fits ∙ committed-written layout old before desk turn run on to written keeps name table e plain

    within-after : HasWithinRun desk.layout desk.office its.going.row.number its.step.progress.writes after
    within-after row start row_at start_at =
        let so : StandsForStep desk.layout desk.office after on its.step = own-after in
        let row_is : so.row ≡ row = same_Some so.row row (sym so.row_at ∙ ap (run_of desk.office.tables) (its.same ∙ sym (number_is layout old before desk turn run on to)) ∙ row_at) in
        let start_is : so.start ≡ start = same_Some so.start start (sym so.start_at ∙ ap (start_in_office desk.office) row_is ∙ start_at) in
        subst (λ (s : StepStart). HasWithin desk.layout desk.office.tables.sets s its.step.progress.writes after) start_is
        (within-shown (Unit {0}) after desk.layout desk.office.tables.sets so.start its.step.progress.writes on.sets tt so.sets so.shows)

    -- what the event commits is there
    pub committed-then : HasCommitted desk.layout now after
    committed-then =
        let comes = may-come desk.layout desk.office its.step (may desk to.stands.is_desk its.step its.going goes_uncoded goes_open fits) in
        checkpointed-stays desk.layout desk.office after its.going.row.number its.step.progress.taken its.step.progress.writes (entry_place desk.office.tables.sets its.going.start)
        (entry_bytes desk.office.tables.sets its.going.row its.going.start its.step.progress) (next_id its.going.row its.going.start)
        (record { items = lengths_with desk.office.tables.sets its.going.start its.step.progress.writes (end desk to.stands.is_desk its.step its.going goes_uncoded goes_open fits) }) None
        to.stands.is_desk.kept comes.may comes.carried (kept-behind desk.layout desk.office its.step (may desk to.stands.is_desk its.step its.going goes_uncoded goes_open fits)) had-after within-after

    other-after : (seen : RunningStepView) (step : DeskStep) → IsGoing desk.office step → step.run ≢ its.going.row.number → StandsForStep desk.layout desk.office before seen step → StandsForStep desk.layout now after seen step
    other-after seen step going apart stands =
        let away : step.run ≢ its.step.run = λ e. apart (e ∙ its.same ∙ sym (number_is layout old before desk turn run on to)) in
        step-stands desk to.stands.is_desk now its.step.run (leaves desk to.stands.is_desk its.step its.going goes_uncoded goes_open fits) (leaves-others desk to.stands.is_desk its.step its.going goes_uncoded goes_open fits) written after same
        seen step going away (other-stays desk to.stands.is_desk before on seen its.step step its.going going its.stands stands away written keeps)

    abbrev pub own : DeskStep
    own = record { run = its.going.row.number; progress = checkpoint_done its.step.progress; code = None }

    abbrev pub event_now : Event
    event_now = written_event desk.layout desk.office its.step (may desk to.stands.is_desk its.step its.going goes_uncoded goes_open fits)

    module _ (moved : HaveMoved event_now None old new) where
      tables_now : new.tables.desk ≡ now.tables
      tables_now = moved.tables ∙ ap (after_event event_now None) to.stands.tables

      entered : FirstEnters (Some on) its.going.row.number (check_name_in new.tables.desk its.going.row.number) (end desk to.stands.is_desk its.step its.going goes_uncoded goes_open fits) old.running new.running
      entered =
          subst (λ (o : Option RunningStepView). FirstEnters o its.going.row.number (check_name_in new.tables.desk its.going.row.number) (end desk to.stands.is_desk its.step its.going goes_uncoded goes_open fits) old.running new.running)
          (ap (λ n. find (is_of_run n) old.running) (number_is layout old before desk turn run on to) ∙ to.found) moved.running

      -- its data set for checkpoints has the space
      space-so : has_space (end desk to.stands.is_desk its.step its.going goes_uncoded goes_open fits) behind.name on.sets.sets ≡ true
      space-so =
          let own = its.stands.sets.each behind.name behind.table (among layout old before desk turn run on to before written count behind) behind.at in
          let most : end desk to.stands.is_desk its.step its.going goes_uncoded goes_open fits ≤ behind.table.set.space = room-so layout old before desk turn run on to fits behind.name named behind.table behind.at in
          let wide : own.0.space ≡ behind.table.set.space = own.2.space in
          space-there (end desk to.stands.is_desk its.step its.going goes_uncoded goes_open fits) own.0 (entry_at on.sets.sets behind.name) own.1 (omega (arith, most, wide))

      module _ (first : RunningStepView) (enters : IsEntered (check_name_in new.tables.desk its.going.row.number) (end desk to.stands.is_desk its.step its.going goes_uncoded goes_open fits) on first) where
        first-is : IsEntered (Some behind.name) (end desk to.stands.is_desk its.step its.going goes_uncoded goes_open fits) on first
        first-is =
            subst (λ (o : Option Name). IsEntered o (end desk to.stands.is_desk its.step its.going goes_uncoded goes_open fits) on first)
            (check-then layout old before desk turn run on to fits behind.name named behind.table behind.at new.tables.desk tables_now) enters

        all-then : AllStand desk.layout now after (first ∷ without_first its.going.row.number old.running) (own ∷ without_run its.going.row.number desk.running)
        all-then = (
          own-stands desk to.stands.is_desk after on first its.step its.going own-after goes_uncoded goes_open fits (due-so layout old before desk turn run on to) behind.name named behind.table behind.at checks
              first-is.run first-is.code _ first-is.step
              (first-is.sets ∙ ap (λ b. cond b (with_changed behind.name (with_length (end desk to.stands.is_desk its.step its.going goes_uncoded goes_open fits)) on.sets.sets) on.sets.sets) space-so)
              its.going.row.number (number_is layout old before desk turn run on to ∙ sym its.same),
          others-stand desk.layout desk.office now before after its.going.row.number other-after old.running desk.running to.stands.differ_so to.stands.is_desk.going to.stands.running,
        )

      pub written-stands : StandsForDesk layout new after (taken_of run desk).desk
      written-stands =
          subst (λ (done : TurnDone). IsDesk done.desk → StandsForDesk layout new after done.desk) (sym (taken-by layout old before desk turn run on to true fits))
          (λ kept. record {
            layout_is = to.stands.layout_is;
            is_desk = kept;
            tables = tables_now;
            failed = moved.failed ∙ to.stands.failed;
            running = subst (λ (seen : List RunningStepView). AllStand desk.layout now after seen (own ∷ without_run its.going.row.number desk.running)) (sym entered.1) (all-then entered.0 entered.2);
            differ_so = put-differ own desk.running to.stands.differ_so;
            points =
                subst (PointsStand now) (sym moved.points)
                (points-written desk to.stands.is_desk its.step its.going goes_uncoded goes_open fits behind.name named after entered.0 (without_first its.going.row.number old.running) new.running its.going.row.number
                (its.same ∙ sym (number_is layout old before desk turn run on to)) (all-then entered.0 entered.2).0
                (its.stands.ordered (none layout old before desk turn run on to) (sym (place-due its.stands.start its.step.progress on (its.stands.stands (none layout old before desk turn run on to)) (its.stands.served (none layout old before desk turn run on to))) ∙ due-so layout old before desk turn run on to)) entered.1 old.points to.stands.points);
            committed = committed-then;
          })
          (taken-kept layout old before desk turn run on to)
