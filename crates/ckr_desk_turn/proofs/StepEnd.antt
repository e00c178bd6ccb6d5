-- A desk behind the end of a step, and behind the end of a run with a code, is as its events have brought it about.
use Rattle.std.proofs.Common.{◌≡◌, ◌≢◌, ℕ, suc, true, false, ◌&&◌, [], ◌∷◌, ◌++◌, ap, sym, ◌∙◌, subst, refl, Option, Some, None}
use Rattle.std.specs.Prelude.{◌==◌}
use Rattle.std.specs.List.{list_any}
use Rattle.std.specs.Option.{is_some, option_map_or}
use Rattle.arrayvec.specs.ArrayVec.{ArrayVec}
use Rattle.ckr_points_library.specs.Commit.{output_names}
use Rattle.ckr_base.specs.declared.code.Code.{Code}
use Rattle.ckr_events.specs.declared.event.Event.TheVariants.{Ended as EndedEvent, Held as HeldEvent, StepEnded as StepEndedEvent}
use Rattle.ckr_events.specs.declared.event.Ending.TheVariants.{Coded as CodedEnding}
use Rattle.ckr_library.specs.NameMaps.{Named, taken_over}
use Rattle.ckr_meaning.specs.Dispositions.{Stock}
use Rattle.ckr_meaning.specs.LibrarySet.{AreWithinSpace, Library}
use Rattle.ckr_meaning.specs.EffectiveJob.{OwnedStep}
use Rattle.ckr_meaning.specs.JobRun.{job_run}
use Rattle.ckr_meaning.specs.declared.place.Place.TheVariants.{Before, Within}
use Rattle.ckr_meaning.specs.StepRun.{StepStart}
use Rattle.ckr_meaning.proofs.Room.{job_run-within}
use Rattle.ckr_points.specs.declared.run.RunState.{RunState}
use Rattle.ckr_points.specs.declared.run.RunState.TheVariants.{Ended as EndedRun, Held as HeldRun}
use Rattle.ckr_points.specs.Tables.{after_commit, after_dispositions, after_held, after_step_ended, committed}
use Rattle.ckr_points.specs.Follows.{is_running, state_number}
use Rattle.ckr_points.specs.Office.{Leg, Office, leg_of, library_after, office_after}
use Rattle.ckr_points.specs.Restart.{after_abnormal, after_passed_ended, by_step, place_of, step_in}
use Rattle.ckr_points.specs.Rows.{RunRow, TableSet, TablesModel, run_of, step_of_run, with_run}
use Rattle.ckr_points_invariant.proofs.Steps.Commits.{place_so}
use Rattle.ckr_points_invariant.proofs.Holders.Rows.{run-other, run-same}
use Rattle.ckr_desk_turn.specs.declared.failed_run.FailedRun.{FailedRun}
use Rattle.ckr_desk_turn.specs.Desk.{DeskModel, behind}
use Rattle.ckr_desk_turn.specs.NextEvents.{Comes, IsWithinStep}
use Rattle.ckr_desk_turn.specs.Invariant.{IsAdmitted, IsDesk, has_its_step, is_in_its_state}
use Rattle.ckr_desk_turn.proofs.OtherRuns.{Changes, accounted-then, admitted-then, failed-all, failed-rest, between-steps, failed-same, going-rest, states-then, row-admitted, row-in-state, running-same, stepped-then, taken_over-within}
use Rattle.ckr_desk_turn.proofs.Readiness.{kept-on}
use Rattle.ckr_desk_turn.proofs.Units.Outputs.{distinct-job}
use Rattle.ckr_desk_turn.proofs.NextEvents.Holders.{HoldsStep, by-holder, by-spaced, on-holder}
use Rattle.ckr_points_invariant.specs.KeptEvents.{AreKept}

-- a run whose row changes to one that isn't running
pub record Rests (office after : Office) (job : ℕ) : Type 0 where
  pub next : RunRow
  pub changes : Changes office after job next
  pub in_state : is_in_its_state next ≡ true
  pub admitted : IsAdmitted next
  pub rests : is_running next ≡ false
  pub stepped : has_its_step next ≡ true

-- a row that is put in twice
pub twice : (tables first second : TablesModel) (job : ℕ) (row one two : RunRow) → first.runs ≡ tables.runs → second.runs ≡ (with_run one first).runs → run_of tables job ≡ Some row → one.number ≡ job → two.number ≡ job → (run_of (with_run two second) job ≡ Some two) × ((other : ℕ) → other ≢ job → run_of (with_run two second) other ≡ run_of tables other)
twice tables first second job row one two same again at number its = (
  run-same second two one job
      (ap (λ runs. run_of (let t : TablesModel = record { sets = second.sets; runs = runs } in t) job) again ∙ run-same first one row job (ap (λ runs. run_of (let t : TablesModel = record { sets = first.sets; runs = runs } in t) job) same ∙ at) number) its,
  λ other apart.
      run-other second two other (λ e. apart (e ∙ its))
      ∙ ap (λ runs. run_of (let t : TablesModel = record { sets = second.sets; runs = runs } in t) other) again
      ∙ run-other first one other (λ e. apart (e ∙ number))
      ∙ ap (λ runs. run_of (let t : TablesModel = record { sets = first.sets; runs = runs } in t) other) same,
)

pub rests-twice : (office : Office) (library : Library) (job : ℕ) (row one two : RunRow) (sets others : Named TableSet) → run_of office.tables job ≡ Some row → one.number ≡ job → two.number ≡ job → is_in_its_state two ≡ true → IsAdmitted two → is_running two ≡ false → has_its_step two ≡ true → Rests office (record office { tables = with_run two (record (with_run one (record office.tables { sets = sets })) { sets = others }); library = library }) job
rests-twice office library job row one two sets others at number its state admitted rests stepped =
    let both = twice office.tables (record office.tables { sets = sets }) (record (with_run one (record office.tables { sets = sets })) { sets = others }) job row one two refl refl at number its in
    record { next = two; changes = record { mine = both.0; others = both.1; legs = refl }; in_state = state; admitted = admitted; rests = rests; stepped = stepped }

-- what holds of the tables that a run's step brings about
pub by-changed : (Q : TablesModel → Type 0) (tables : TablesModel) (job : ℕ) (row : RunRow) (owned : OwnedStep) (change : RunRow → OwnedStep → ℕ → TablesModel) → run_of tables job ≡ Some row → step_of_run row (step_in (place_of row)) ≡ Some owned → Q (change row owned (step_in (place_of row))) → Q (option_map_or (λ row. by_step (λ owned step. change row owned step) row tables) (run_of tables job) tables)
by-changed Q tables job row owned change at found holds =
    subst (λ (o : Option RunRow). Q (option_map_or (λ row. by_step (λ owned step. change row owned step) row tables) o tables)) (sym at)
    (subst (λ (o : Option OwnedStep). Q (option_map_or (λ owned. change row owned (step_in (place_of row))) o tables)) (sym found) holds)

module _ (desk : DeskModel) (is : IsDesk desk) (run : ℕ) (row : RunRow) (number committed_writes : ℕ) (start : StepStart) (held : HoldsStep desk.office run row number committed_writes start) where
  pub its_number : row.number ≡ run
  its_number = is.kept.events.numbered run row held.row_at

  pub its_deck : IsAdmitted row
  its_deck = row-admitted desk is run row held.row_at

  pub its_step : {A : Type 0} → ((owned : OwnedStep) → step_of_run row (step_in (place_of row)) ≡ Some owned → A) → A
  its_step use_it =
      by-holder desk.layout desk.office run row number committed_writes start held is.kept
      (λ leg owned running same. use_it owned (ap (λ place. step_of_run row (step_in place)) held.place ∙ running.found))

  -- ---- the end of the run with a code

  code-rests : (code : Code) (rule writes : ℕ) (lengths : ArrayVec ℕ) → Rests desk.office (office_after (EndedEvent run (CodedEnding code rule writes lengths), None) desk.office) run
  code-rests code rule writes lengths =
      its_step (λ owned found.
      by-changed (λ tables. Rests desk.office (record desk.office { tables = tables; library = option_map_or (λ row. library_after desk.office row (CodedEnding code rule writes lengths)) (run_of desk.office.tables run) desk.office.library }) run) desk.office.tables run row owned
      (λ row owned step. after_abnormal (record row { place = Some (Within step writes) }) (Within step writes) (after_commit row owned step writes lengths.items desk.office.tables)) held.row_at found
      (subst (λ (o : Option OwnedStep). Rests desk.office (record desk.office { tables = abnormal_by owned o; library = option_map_or (λ row. library_after desk.office row (CodedEnding code rule writes lengths)) (run_of desk.office.tables run) desk.office.library }) run) (sym found)
      (rests-twice desk.office (option_map_or (λ row. library_after desk.office row (CodedEnding code rule writes lengths)) (run_of desk.office.tables run) desk.office.library) run row (record row { place = Some (Within (step_in (place_of row)) writes) })
      (record row { place = Some (Within (step_in (place_of row)) writes); state = EndedRun; initiator = None; code = None; passed = []; lost = []; in_effect = None })
      (committed (output_names row.job.root owned) lengths.items desk.office.tables.sets) _ held.row_at its_number its_number refl (record { cards = its_deck.cards; accepted = its_deck.accepted; steps = its_deck.steps; named = its_deck.named; lodged = refl }) refl refl)))
    where
      abnormal_by : OwnedStep → Option OwnedStep → TablesModel
      abnormal_by owned o =
          option_map_or
          (λ owned_then.
          let then : RunRow = record row { place = Some (Within (step_in (place_of row)) writes) } in
          let tables : TablesModel = after_commit row owned (step_in (place_of row)) writes lengths.items desk.office.tables in
          let done : Stock TableSet = after_dispositions then owned_then (step_in (place_of row)) true tables in
          after_passed_ended (record then { passed = done.passed }) (record tables { sets = done.sets }))
          o (after_commit row owned (step_in (place_of row)) writes lengths.items desk.office.tables)

  -- what the run leaves keeps to its space
  left-within : (code : Code) (rule writes : ℕ) (lengths : ArrayVec ℕ) → AreWithinSpace (option_map_or (λ row. library_after desk.office row (CodedEnding code rule writes lengths)) (run_of desk.office.tables run) desk.office.library)
  left-within code rule writes lengths =
      by-spaced desk.layout desk.office run row number committed_writes start held is.kept is.spaced_legs
      (λ leg owned running same spaced.
      subst (λ (o : Option RunRow). AreWithinSpace (option_map_or (λ row. library_after desk.office row (CodedEnding code rule writes lengths)) o desk.office.library)) (sym held.row_at)
      (subst (λ (o : Option Leg). AreWithinSpace (option_map_or (λ leg. taken_over leg.reach (job_run leg.job leg.start (Some (Within (step_in (place_of row)) writes))) desk.office.library) o desk.office.library)) (sym (ap (leg_of desk.office) its_number ∙ running.holder.leg_at))
      (taken_over-within leg.reach _ desk.office.library
      (job_run-within leg.job leg.start (Some (Within (step_in (place_of row)) writes)) (distinct-job leg.job (place_so desk.layout desk.office run row leg owned number committed_writes is.kept.events running).formed) spaced)
      is.spaced)))

  -- the desk behind the end of the run
  pub code-kept : (code : Code) (rule writes : ℕ) (lengths : ArrayVec ℕ) → Comes desk (EndedEvent run (CodedEnding code rule writes lengths)) → IsDesk (behind (EndedEvent run (CodedEnding code rule writes lengths)) None desk)
  code-kept code rule writes lengths comes =
      let rests : Rests desk.office (office_after (EndedEvent run (CodedEnding code rule writes lengths), None) desk.office) run = code-rests code rule writes lengths in
      let on : AreKept desk.layout (office_after (EndedEvent run (CodedEnding code rule writes lengths), None) desk.office) = kept-on desk is (EndedEvent run (CodedEnding code rule writes lengths)) comes in
      record {
        kept = on.kept;
        going = going-rest desk.office (office_after (EndedEvent run (CodedEnding code rule writes lengths), None) desk.office) run rests.next rests.changes desk.running is.going;
        failed = failed-rest desk.office (office_after (EndedEvent run (CodedEnding code rule writes lengths), None) desk.office) run rests.next rests.changes desk.failed is.failed;
        states = states-then desk (behind (EndedEvent run (CodedEnding code rule writes lengths)) None desk) is run rests.next rests.changes rests.in_state;
        admitted = admitted-then desk (behind (EndedEvent run (CodedEnding code rule writes lengths)) None desk) is run rests.next rests.changes rests.admitted;
        stepped = stepped-then desk (behind (EndedEvent run (CodedEnding code rule writes lengths)) None desk) is run rests.next rests.changes rests.stepped;
        accounted = accounted-then desk (behind (EndedEvent run (CodedEnding code rule writes lengths)) None desk) is run rests.next rests.changes rests.rests (running-same run desk.running) (failed-same run desk.failed);
        spaced = left-within code rule writes lengths;
        spaced_legs = is.spaced_legs;
        pointed = on.pointed;
        ready = on.ready;
        begun = on.begun;
        written = on.written;
      }

  -- ---- the run is held with a code

  held-rests : (code : Code) (writes : ℕ) (lengths : ArrayVec ℕ) → Rests desk.office (office_after (HeldEvent run code writes lengths, None) desk.office) run
  held-rests code writes lengths =
      its_step (λ owned found.
      let next : RunRow = record row { state = HeldRun; initiator = None; code = Some code; place = Some (Within (step_in (place_of row)) writes) } in
      let sets : Named TableSet = committed (output_names row.job.root owned) lengths.items desk.office.tables.sets in
      by-changed (λ tables. Rests desk.office (record desk.office { tables = tables }) run) desk.office.tables run row owned
      (λ row owned step. after_held row owned step code writes lengths.items desk.office.tables) held.row_at found
      (record {
        next = next;
        changes = record {
          mine = run-same (record desk.office.tables { sets = sets }) next row run held.row_at its_number;
          others = λ other apart. run-other (record desk.office.tables { sets = sets }) next other (λ e. apart (e ∙ its_number));
          legs = refl;
        };
        in_state = refl;
        admitted = record { cards = its_deck.cards; accepted = its_deck.accepted; steps = its_deck.steps; named = its_deck.named; lodged = refl };
        rests = refl;
        stepped = ap is_some found;
      }))

  -- the desk behind it
  pub held-kept : (code : Code) (writes : ℕ) (lengths : ArrayVec ℕ) → Comes desk (HeldEvent run code writes lengths) → IsDesk (behind (HeldEvent run code writes lengths) None desk)
  held-kept code writes lengths comes =
      let rests : Rests desk.office (office_after (HeldEvent run code writes lengths, None) desk.office) run = held-rests code writes lengths in
      let on : AreKept desk.layout (office_after (HeldEvent run code writes lengths, None) desk.office) = kept-on desk is (HeldEvent run code writes lengths) comes in
      record {
        kept = on.kept;
        going = going-rest desk.office (office_after (HeldEvent run code writes lengths, None) desk.office) run rests.next rests.changes desk.running is.going;
        failed = failed-rest desk.office (office_after (HeldEvent run code writes lengths, None) desk.office) run rests.next rests.changes desk.failed is.failed;
        states = states-then desk (behind (HeldEvent run code writes lengths) None desk) is run rests.next rests.changes rests.in_state;
        admitted = admitted-then desk (behind (HeldEvent run code writes lengths) None desk) is run rests.next rests.changes rests.admitted;
        stepped = stepped-then desk (behind (HeldEvent run code writes lengths) None desk) is run rests.next rests.changes rests.stepped;
        accounted = accounted-then desk (behind (HeldEvent run code writes lengths) None desk) is run rests.next rests.changes rests.rests (running-same run desk.running) (failed-same run desk.failed);
        spaced = is.spaced;
        spaced_legs = is.spaced_legs;
        pointed = on.pointed;
        ready = on.ready;
        begun = on.begun;
        written = on.written;
      }

-- ---- the end of a step

module _ (desk : DeskModel) (is : IsDesk desk) (run : ℕ) (row : RunRow) (number committed_writes : ℕ) (start : StepStart) (within : IsWithinStep desk.office run row number committed_writes start) where
  held : HoldsStep desk.office run row number committed_writes start
  held = on-holder desk.office run row number committed_writes start within

  step_end-rests : (rc writes : ℕ) (lengths : ArrayVec ℕ) → Rests desk.office (office_after (StepEndedEvent run number rc writes lengths, None) desk.office) run
  step_end-rests rc writes lengths =
      let numbered : row.number ≡ run = its_number desk is run row number committed_writes start held in
      let deck : IsAdmitted row = its_deck desk is run row number committed_writes start held in
      its_step desk is run row number committed_writes start held (λ owned found.
      let next : RunRow = record row { place = Some (Before (suc (step_in (place_of row)))); rcs = row.rcs ++ (step_in (place_of row), rc) ∷ []; in_effect = None; passed = (after_dispositions row owned (step_in (place_of row)) false (after_commit row owned (step_in (place_of row)) writes lengths.items desk.office.tables)).passed } in
      by-changed (λ tables. Rests desk.office (record desk.office { tables = tables }) run) desk.office.tables run row owned (λ row owned step. after_step_ended row owned step rc writes lengths.items desk.office.tables) within.row_at found
      (rests-twice desk.office desk.office.library run row (record row { place = Some (Within (step_in (place_of row)) writes) })
      next
      (committed (output_names row.job.root owned) lengths.items desk.office.tables.sets) _ within.row_at numbered numbered (row-in-state desk is run row within.row_at) (record { cards = deck.cards; accepted = deck.accepted; steps = deck.steps; named = deck.named; lodged = deck.lodged }) (ap (λ (state : RunState). (state_number state == 2) && false) within.on)
      (between-steps next within.on refl)))

  -- the desk behind the end of a step
  pub step_end-kept : (rc writes : ℕ) (lengths : ArrayVec ℕ) → Comes desk (StepEndedEvent run number rc writes lengths) → list_any (λ (one : FailedRun). one.run == run) desk.failed ≡ false → IsDesk (behind (StepEndedEvent run number rc writes lengths) None desk)
  step_end-kept rc writes lengths comes isnt =
      let rests : Rests desk.office (office_after (StepEndedEvent run number rc writes lengths, None) desk.office) run = step_end-rests rc writes lengths in
      let on : AreKept desk.layout (office_after (StepEndedEvent run number rc writes lengths, None) desk.office) = kept-on desk is (StepEndedEvent run number rc writes lengths) comes in
      record {
        kept = on.kept;
        going = going-rest desk.office (office_after (StepEndedEvent run number rc writes lengths, None) desk.office) run rests.next rests.changes desk.running is.going;
        failed = failed-all desk.office (office_after (StepEndedEvent run number rc writes lengths, None) desk.office) run rests.next rests.changes desk.failed isnt is.failed;
        states = states-then desk (behind (StepEndedEvent run number rc writes lengths) None desk) is run rests.next rests.changes rests.in_state;
        admitted = admitted-then desk (behind (StepEndedEvent run number rc writes lengths) None desk) is run rests.next rests.changes rests.admitted;
        stepped = stepped-then desk (behind (StepEndedEvent run number rc writes lengths) None desk) is run rests.next rests.changes rests.stepped;
        accounted = accounted-then desk (behind (StepEndedEvent run number rc writes lengths) None desk) is run rests.next rests.changes rests.rests (running-same run desk.running) (λ other apart. refl);
        spaced = is.spaced;
        spaced_legs = is.spaced_legs;
        pointed = on.pointed;
        ready = on.ready;
        begun = on.begun;
        written = on.written;
      }
