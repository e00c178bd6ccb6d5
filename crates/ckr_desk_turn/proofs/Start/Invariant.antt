-- A step starts: its event may come and carries what the job gives, and the desk behind it is as its events have brought it about.
use Rattle.std.proofs.Common.{◌≡◌, ◌≢◌, ◌+◌, ℕ, Bool, true, false, not, ◌&&◌, ◌||◌, List, [], ◌++◌, length, refl, ap, sym, ◌∙◌, Option, Some, None, Result, Ok, Err, arith, length-append}
use Rattle.std.specs.Prelude.{◌==◌}
use Rattle.std.specs.List.{list_any}
use Rattle.std.specs.Option.{is_some, option_map_or}
use Rattle.std.specs.Result.{IsOkAnd}
use Rattle.std.proofs.lemmas.Bool.{and_from, false≢true, or_left, or_right}
use Rattle.std.proofs.lemmas.Option.{same_Some}
use Rattle.ckr_base.proofs.Bools.{bool-cases}
use Rattle.ckr_base.proofs.Numbers.{equal-itself, equal-true}
use Rattle.ckr_points_library.specs.declared.cause.Refusal.{Refusal}
use Rattle.ckr_points_library.specs.Allocation.{Allocation}
use Rattle.ckr_points_library.proofs.Meaning.{no_flaw}
use Rattle.ckr_events.specs.declared.event.Event.TheVariants.{Started as StartedEvent}
use Rattle.ckr_events.specs.declared.event.Made.{Made}
use Rattle.ckr_library.specs.NameMaps.{EachEntry, Named}
use Rattle.ckr_meaning.specs.Allotments.{DdAllotment, opened_all}
use Rattle.ckr_meaning.specs.EffectiveJob.{OwnedStep, flaws_in, placed_in, stamp_of, step_at}
use Rattle.ckr_meaning.specs.declared.place.Place.{Place}
use Rattle.ckr_meaning.specs.declared.place.Place.TheVariants.{Before, Opened, Within}
use Rattle.ckr_meaning.specs.JobRun.{is_bypassed, start_at}
use Rattle.ckr_meaning.specs.Program.{ProgramCase, rest, upto, work}
use Rattle.ckr_meaning.specs.StepRun.{StepStart, case_at}
use Rattle.ckr_meaning.proofs.Prefixes.{work_in_parts}
use Rattle.ckr_meaning.proofs.Units.{write_all, write_the_rest}
use Rattle.ckr_volumes.specs.declared.layout.Layout.{Layout}
use Rattle.ckr_volumes.specs.Layouts.{StandsIn}
use Rattle.ckr_points.specs.declared.run.RunState.{RunState}
use Rattle.ckr_points.specs.declared.run.RunState.TheVariants.{On}
use Rattle.ckr_points.specs.Tables.{after_started, made_tables, start_point}
use Rattle.ckr_points.specs.Follows.{are_items, follows, is_empty, is_in_state, is_running, is_within, may_start, own_step, started_follows, state_number}
use Rattle.ckr_points.specs.Marks.{with_point}
use Rattle.ckr_points.specs.Office.{Leg, is_holder}
use Rattle.ckr_points.specs.Restart.{place_of, step_in}
use Rattle.ckr_points.specs.Rows.{RunRow, TableSet, TablesModel, run_of, standing_of, step_of_run, table_ways}
use Rattle.ckr_points_invariant.proofs.Holders.Rows.{run-other, run-same}
use Rattle.ckr_points_invariant.proofs.Steps.Events.{led-by}
use Rattle.ckr_points_invariant.proofs.Steps.Walks.{start_at-of}
use Rattle.ckr_desk_turn.specs.Allocation.{allocation_of, items_in}
use Rattle.ckr_desk_turn.specs.Plans.{is_within as is_planned}
use Rattle.ckr_desk_turn.specs.declared.failed_run.FailedRun.{FailedRun}
use Rattle.ckr_desk_turn.specs.Desk.{DeskModel, at_first, behind}
use Rattle.ckr_desk_turn.specs.NextEvents.{Comes}
use Rattle.ckr_desk_turn.specs.Invariant.{IsAdmitted, IsAdmittedStep, IsDesk, IsFailed, IsGoing, is_accounted, is_off}
use Rattle.ckr_desk_turn.proofs.AdmittedSteps.{admitted-fits, admitted-runs}
use Rattle.ckr_desk_turn.proofs.Start.Decks.{asks, rises}
use Rattle.ckr_desk_turn.proofs.Start.Items.{items-follow}
use Rattle.ckr_desk_turn.proofs.OtherRuns.{Changes, admitted-then, each_row, failed-all, going-rest, states-then, row-admitted, row-in-state, running-same, some-holds, stepped-then}
use Rattle.ckr_desk_turn.proofs.Readiness.{kept-on}
use Rattle.ckr_desk_turn.proofs.RunningSteps.{nothing-between}
use Rattle.ckr_points_invariant.specs.KeptEvents.{AreKept}
use Rattle.ckr_points_invariant.specs.RunningSteps.{its_start}
use Rattle.ckr_points.specs.Staleness.{held_sets}

-- nothing is written before the first record
nothing-yet : (case : ProgramCase) → 0 ≡ length (upto case 0)
nothing-yet case =
    let all : (work case).writes ≡ upto case 0 ++ rest case 0 = work_in_parts case 0 (omega arith) in
    let same : rest case 0 ≡ (work case).writes = sym (write_the_rest case 0 (omega arith)) ∙ write_all case in
    let size : length (work case).writes ≡ length (upto case 0) + length (rest case 0) = ap length all ∙ length-append (upto case 0) (rest case 0) in
    let again : length (rest case 0) ≡ length (work case).writes = ap length same in
    omega (arith, size, again)

starts-here : (place : Place) → is_within place ≡ false → may_start (step_in place) place ≡ true
starts-here (Before step) out = equal-itself step
starts-here (Opened step) out = equal-itself step
starts-here (Within step writes) out = absurd (false≢true (sym out))

-- the desk and the events tell alike whether a place is within a step
pub planned-within : (place : Place) → is_planned place ≡ is_within place
planned-within (Before step) = refl
planned-within (Opened step) = refl
planned-within (Within step writes) = refl

done-so : (all : Result Allocation Refusal) (items : List Made) → items_in all ≡ Ok items → IsOkAnd all (λ done. Unit {0})
done-so (Ok done) items got = tt
done-so (Err refusal) items got = cc

-- a run that isn't within a step isn't marked
pub not-failed : (desk : DeskModel) → IsDesk desk → (row : RunRow) → run_of desk.office.tables row.number ≡ Some row → is_within (place_of row) ≡ false → list_any (λ (one : FailedRun). one.run == row.number) desk.failed ≡ false
not-failed desk is row at out =
    bool-cases (list_any (λ (one : FailedRun). one.run == row.number) desk.failed)
    (λ failed.
    some-holds (IsFailed desk.office) (λ (one : FailedRun). one.run == row.number) desk.failed is.failed failed
    (λ one its same.
    let mine : its.row ≡ row = same_Some its.row row (sym its.within.row_at ∙ ap (run_of desk.office.tables) (equal-true one.run row.number same) ∙ at) in
    absurd (false≢true (sym out ∙ ap (λ (r : RunRow). is_within (place_of r)) (sym mine) ∙ ap is_within its.within.place))))
    (λ isnt. isnt)

-- ---- the event follows

module _ (layout : Layout) (tables : TablesModel) (row : RunRow) (stand : EachEntry (λ (table : TableSet). StandsIn layout table.set) tables.sets)
    (at : run_of tables row.number ≡ Some row) (on : row.state ≡ On) (out : is_within (place_of row) ≡ false) (owned : OwnedStep) (there : own_step row ≡ Some owned)
    (admitted : IsAdmittedStep (step_in (place_of row)) owned) (items : List Made) (got : allocation_of layout row owned (step_in (place_of row)) tables ≡ Ok items) where
  abbrev its_step : ℕ
  its_step = step_in (place_of row)

  abbrev its_placed : List DdAllotment
  its_placed = placed_in table_ways (standing_of row tables) row.job.root owned

  its-items : are_items layout (stamp_of owned its_step) tables.sets its_placed items ≡ true
  its-items =
      items-follow layout (stamp_of owned its_step) 1 its_placed
      (rises table_ways (standing_of row tables) row.job.root owned 1 1 owned.step.dds (omega arith))
      (asks table_ways (standing_of row tables) row.job.root owned 1 owned.step.dds (admitted-fits its_step owned admitted row.job.root))
      tables.sets items stand got

  its-flawless : flaws_in its_placed ≡ []
  its-flawless = no_flaw layout (stamp_of owned its_step) its_placed (held_sets tables.sets) (done-so _ items got)

  -- what the allocation of its step gives follows
  pub started-follows : follows layout tables (StartedEvent row.number its_step (record { items = items })) None ≡ true
  started-follows =
      ap (λ (o : Option RunRow). option_map_or (started_follows layout tables its_step items) o false) at
      ∙ and_from (is_in_state On row) _ (ap (λ (state : RunState). state_number state == 2) on)
      (ap (λ (o : Option OwnedStep). option_map_or (starts row) o false) there
      ∙ and_from _ _ (and_from _ _ (starts-here (place_of row) out) (ap (λ flaws. is_empty flaws) its-flawless)) its-items)
    where
      starts : RunRow → OwnedStep → Bool
      starts row owned =
          may_start its_step (place_of row) && is_empty (flaws_in (placed_in table_ways (standing_of row tables) row.job.root owned))
          && are_items layout (stamp_of owned its_step) tables.sets (placed_in table_ways (standing_of row tables) row.job.root owned) items

-- ---- the desk

module _ (desk : DeskModel) (is : IsDesk desk) (row : RunRow) (at : run_of desk.office.tables row.number ≡ Some row) (on : row.state ≡ On) (out : is_within (place_of row) ≡ false)
    (owned : OwnedStep) (there : own_step row ≡ Some owned) (items : List Made) (got : allocation_of desk.layout row owned (step_in (place_of row)) desk.office.tables ≡ Ok items) where
  abbrev step : ℕ
  step = step_in (place_of row)

  abbrev placed : List DdAllotment
  placed = placed_in table_ways (standing_of row desk.office.tables) row.job.root owned

  its_deck : IsAdmitted row
  its_deck = row-admitted desk is row.number row at

  -- its step is one of an accepted deck
  its_admitted : IsAdmittedStep step owned
  its_admitted = its_deck.steps step owned there

  -- the event may come, and carries what the job gives
  pub started-comes : Comes desk (StartedEvent row.number step (record { items = items }))
  started-comes = record {
    may =
        and_from _ true
        (started-follows desk.layout desk.office.tables row is.kept.events.extents.stand at on out owned there its_admitted items got) refl;
    carried =
        ap (λ (o : Option RunRow). option_map_or (λ row. option_map_or (λ owned. not (is_bypassed row.rcs owned)) (step_of_run row step) false) o false) at
        ∙ ap (λ (o : Option OwnedStep). option_map_or (λ owned. not (is_bypassed row.rcs owned)) o false) there
        ∙ ap not (admitted-runs step owned its_admitted row.rcs);
  }

  -- ---- the desk behind it

  abbrev opened : Named TableSet
  opened = opened_all table_ways (stamp_of owned step) placed desk.office.tables.sets

  abbrev next : RunRow
  next = record row { place = Some (Within step 0); points = with_point (start_point row step opened) row.points }

  abbrev later : DeskModel
  later = behind (StartedEvent row.number step (record { items = items })) None desk

  changes : Changes desk.office later.office row.number next
  changes =
      let sets : Named TableSet = made_tables (stamp_of owned step) items placed opened in
      record {
        mine = of_tables row.number ∙ run-same (record desk.office.tables { sets = sets }) next row row.number at refl;
        others = λ other apart. of_tables other ∙ run-other (record desk.office.tables { sets = sets }) next other apart;
        legs = refl;
      }
    where
      of_tables : (number : ℕ) → run_of later.office.tables number ≡ run_of (after_started row owned step items desk.office.tables) number
      of_tables number =
          ap (λ (o : Option RunRow). run_of (option_map_or (λ row. option_map_or (λ owned. after_started row owned step items desk.office.tables) (step_of_run row step) desk.office.tables) o desk.office.tables) number) at
          ∙ ap (λ (o : Option OwnedStep). run_of (option_map_or (λ owned. after_started row owned step items desk.office.tables) o desk.office.tables) number) there

  goes : IsGoing later.office (at_first row.number)
  goes =
      led-by desk.layout desk.office row.number row is.kept.events at (ap is_holder on)
      (λ leg holder.
      let start : StepStart = its_start leg owned step in
      record {
        row = next;
        row_at = changes.mine;
        on = on;
        number = step;
        committed = 0;
        place = refl;
        start = start;
        start_at =
            ap (λ (o : Option Leg). option_map_or (λ leg. start_at leg.job leg.start step) o None) holder.leg_at
            ∙ start_at-of leg.job leg.start step owned (ap (λ job. step_at job step) (is.kept.events.places row.number row leg holder).job ∙ there);
        fit = omega arith;
        behind = omega arith;
        plain = nothing-between start 0;
        come = record { taken = omega arith; writes = nothing-yet (case_at start) };
      })

  accounted-so : (other : RunRow) → other.number ≢ row.number → is_accounted desk other ≡ true → is_accounted later other ≡ true
  accounted-so other apart was =
      by (not (is_running other)) (row.number == other.number) _ _ _ (running-same row.number desk.running other.number apart) was
    where
      by : (rests here old new failed : Bool) → old ≡ new → (rests || (old || failed)) ≡ true → (rests || ((here || new) || failed)) ≡ true
      by true here old new failed same was = refl
      by false true old new failed same was = refl
      by false false old new failed same was = ap (λ b. b || failed) (sym same) ∙ was

  pub started-kept : IsDesk later
  started-kept =
      let mine : IsAdmitted row = its_deck in
      let on_now : AreKept desk.layout later.office = kept-on desk is (StartedEvent row.number step (record { items = items })) started-comes in
      record {
        kept = on_now.kept;
        going = (goes, going-rest desk.office later.office row.number next changes desk.running is.going);
        failed = failed-all desk.office later.office row.number next changes desk.failed (not-failed desk is row at out) is.failed;
        states = states-then desk later is row.number next changes (row-in-state desk is row.number row at);
        admitted = admitted-then desk later is row.number next changes (record { cards = mine.cards; accepted = mine.accepted; steps = mine.steps; named = mine.named; lodged = mine.lodged });
        stepped = stepped-then desk later is row.number next changes (or_right (not (is_running next || is_off next.state)) (is_some (own_step next)) (ap is_some there));
        accounted = each_row desk later is row.number next changes (is_accounted desk) (is_accounted later)
            (or_right (not (is_running next)) _ (or_left _ _ (or_left (row.number == row.number) _ (equal-itself row.number)))) is.accounted accounted-so;
        spaced = is.spaced;
        spaced_legs = is.spaced_legs;
        pointed = on_now.pointed;
        ready = on_now.ready;
        begun = on_now.begun;
        written = on_now.written;
      }
