-- A desk whose run ends behind its last step, or since a DD of its step isn't allocated.
use Rattle.std.proofs.Common.{◌≡◌, ◌≤◌, ◌<◌, ◌+◌, ℕ, suc, true, List, [], ◌∷◌, length, refl, ap, sym, subst, Option, Some, None, Result, Ok, Err, arith}
use Rattle.std.specs.Prelude.{◌==◌}
use Rattle.std.specs.List.{AllByRecursion, cons_option}
use Rattle.std.specs.Option.{option_map, option_map_or}
use Rattle.ckr_base.proofs.Sequences.{find-holds}
use Rattle.ckr_points.specs.Marks.{has_passed}
use Rattle.ckr_points_library.specs.declared.cause.Cause.{Cause}
use Rattle.ckr_points_library.specs.declared.cause.Refusal.{Refusal}
use Rattle.ckr_points_library.specs.Allocation.{Allocation, allocated_all, allocated_dd, behind as behind_items, then_more, with_new}
use Rattle.ckr_events.specs.declared.event.Event.TheVariants.{Ended as EndedEvent}
use Rattle.ckr_events.specs.declared.event.Ending.{Ending}
use Rattle.ckr_events.specs.declared.event.Ending.TheVariants.{Allocation as AllocationEnding, Completed}
use Rattle.ckr_events.specs.declared.event.Made.{Made}
use Rattle.ckr_jcl.specs.declared.deck.Dd.{Dd}
use Rattle.ckr_library.specs.declared.sets.Part.{Part}
use Rattle.ckr_library.specs.declared.sets.Stamp.{Stamp}
use Rattle.ckr_library.specs.Catalog.{Holding}
use Rattle.ckr_library.specs.NameMaps.{Name, Named, taken_over}
use Rattle.ckr_meaning.specs.LibrarySet.{AreWithinSpace, Library, SetWays}
use Rattle.ckr_meaning.specs.Allotments.{DdAllotment}
use Rattle.ckr_meaning.specs.Dispositions.{Stock, passed_ended}
use Rattle.ckr_meaning.specs.EffectiveJob.{OwnedStep, name_of, placed_from, placed_one}
use Rattle.ckr_meaning.specs.JobRun.{job_run}
use Rattle.ckr_meaning.specs.declared.place.Place.{Place}
use Rattle.ckr_meaning.specs.declared.place.Place.TheVariants.{Before, Opened, Within}
use Rattle.ckr_meaning.proofs.Room.{job_run-within}
use Rattle.ckr_volumes.specs.declared.layout.Layout.{Layout}
use Rattle.ckr_points.specs.declared.run.RunState.TheVariants.{Ended as EndedRun, On}
use Rattle.ckr_points.specs.Follows.{own_step}
use Rattle.ckr_points.specs.Office.{Leg, Office, cut_of, is_holder, library_after, office_after}
use Rattle.ckr_points.specs.Restart.{after_abnormal, after_ended, after_passed_ended, place_of, step_in}
use Rattle.ckr_points.specs.Rows.{RunRow, TableSet, TablesModel, run_of, step_of_run, with_run}
use Rattle.ckr_points.specs.Tables.{after_dispositions}
use Rattle.ckr_points.specs.Soundness.{may_come}
use Rattle.ckr_points_invariant.proofs.Holders.Rows.{run-other, run-same}
use Rattle.ckr_points_invariant.proofs.Steps.Events.{led-by}
use Rattle.ckr_desk_turn.specs.Desk.{DeskModel, behind}
use Rattle.ckr_desk_turn.specs.Invariant.{IsAdmitted, IsDesk}
use Rattle.ckr_desk_turn.specs.NextEvents.{Comes}
use Rattle.ckr_desk_turn.proofs.Readiness.{kept-on}
use Rattle.ckr_desk_turn.proofs.StepEnd.{Rests}
use Rattle.ckr_desk_turn.proofs.OtherRuns.{accounted-then, admitted-then, failed-rest, failed-same, going-rest, states-then, row-admitted, running-same, stepped-then, taken_over-within}
use Rattle.ckr_desk_turn.proofs.Units.Outputs.{distinct-job}
use Rattle.ckr_points_invariant.specs.KeptEvents.{AreKept}

-- ---- the first DD that isn't allocated

behind-refused : (items : List Made) (more : Result Allocation Refusal) (refusal : Refusal) → behind_items items more ≡ Err refusal → more ≡ Err refusal
behind-refused items (Ok done) refusal failed = cc
behind-refused items (Err other) refusal failed = failed

-- it is one of the step's
refused-one : (layout : Layout) (stamp : Stamp) (P : ℕ → Type 0) (placed : List DdAllotment) (sets : Named Holding) (refusal : Refusal) → AllByRecursion (λ (one : DdAllotment). P one.number) placed → allocated_all layout stamp placed sets ≡ Err refusal → P refusal.dd
refused-one layout stamp P [] sets refusal each failed = cc
refused-one layout stamp P (one ∷ rest) sets refusal each failed =
    by (allocated_dd layout sets one.dd one.name one.allotment) (λ sets failed. refused-one layout stamp P rest sets refusal each.1 failed) failed
  where
    by : (parts : Result (List Part) Cause) → ((sets : Named Holding) → allocated_all layout stamp rest sets ≡ Err refusal → P refusal.dd) → then_more one.number parts (λ parts. allocated_all layout stamp rest (with_new stamp one.dd one.name parts sets)) ≡ Err refusal → P refusal.dd
    by (Err cause) more failed = subst P (let e : one.number ≡ refusal.dd = cc in e) each.0
    by (Ok parts) more failed = more (with_new stamp one.dd one.name parts sets) (behind-refused _ _ refusal failed)

numbered-from : {X : Type 0} (ways : SetWays X) (standing : Stock X) (root : ℕ) (owned : OwnedStep) (P : ℕ → Type 0) (number : ℕ) (dds : List Dd) → ((n : ℕ) → number ≤ n → n < number + length dds → P n) → AllByRecursion (λ (one : DdAllotment). P one.number) (placed_from ways standing root owned number dds)
numbered-from ways standing root owned P number [] each = tt
numbered-from ways standing root owned P number (dd ∷ dds) each =
    by (name_of root owned dd) (numbered-from ways standing root owned P (suc number) dds (λ n above below. each n (omega (arith, above)) (omega (arith, below))))
  where
    by : (name : Option Name) → AllByRecursion (λ (one : DdAllotment). P one.number) (placed_from ways standing root owned (suc number) dds)
        → AllByRecursion (λ (one : DdAllotment). P one.number) (cons_option (option_map (placed_one ways standing number dd) name) (placed_from ways standing root owned (suc number) dds))
    by None rest = rest
    by (Some name) rest = (each number (omega arith) (omega arith), rest)

pub refused-inside : {X : Type 0} (ways : SetWays X) (standing : Stock X) (layout : Layout) (stamp : Stamp) (root : ℕ) (owned : OwnedStep) (sets : Named Holding) (refusal : Refusal) → allocated_all layout stamp (placed_from ways standing root owned 1 owned.step.dds) sets ≡ Err refusal → (1 ≤ refusal.dd) × (refusal.dd ≤ length owned.step.dds)
refused-inside ways standing layout stamp root owned sets refusal failed =
    refused-one layout stamp (λ n. (1 ≤ n) × (n ≤ length owned.step.dds)) _ sets refusal
    (numbered-from ways standing root owned (λ n. (1 ≤ n) × (n ≤ length owned.step.dds)) 1 owned.step.dds (λ n above below. (above, omega (arith, below)))) failed

-- ---- the end of the run

-- the row of a run that has ended
abbrev ended_row : RunRow → RunRow
ended_row row = record row { state = EndedRun; initiator = None; code = None; passed = []; lost = []; in_effect = None }

-- the data sets that a run leaves whose step can't be allocated: the dispositions of the step are made where it is within it
abbrev left_by : RunRow → OwnedStep → Place → TablesModel → Named TableSet
left_by row owned (Before step) tables = passed_ended (has_passed row) tables.sets
left_by row owned (Opened step) tables = passed_ended (has_passed row) tables.sets
left_by row owned (Within step writes) tables =
    let done : Stock TableSet = after_dispositions row owned step true tables in
    passed_ended (has_passed (let next : RunRow = record row { passed = done.passed } in next)) done.sets

refused-tables : (row : RunRow) (owned : OwnedStep) (place : Place) (tables : TablesModel) → step_of_run row (step_in place) ≡ Some owned → after_abnormal row place tables ≡ with_run (ended_row row) (record tables { sets = left_by row owned place tables })
refused-tables row owned (Before step) tables there = refl
refused-tables row owned (Opened step) tables there = refl
refused-tables row owned (Within step writes) tables there = ap by there
  where
    by : Option OwnedStep → TablesModel
    by o =
        option_map_or
        (λ owned.
        let done : Stock TableSet = after_dispositions row owned step true tables in
        after_passed_ended (record row { passed = done.passed }) (record tables { sets = done.sets }))
        o tables

module _ (desk : DeskModel) (is : IsDesk desk) (row : RunRow) (at : run_of desk.office.tables row.number ≡ Some row) (on : row.state ≡ On) where
  -- what the run leaves keeps to its space
  left-within : (ending : Ending) → AreWithinSpace (option_map_or (λ row. library_after desk.office row ending) (run_of desk.office.tables row.number) desk.office.library)
  left-within ending =
      led-by desk.layout desk.office row.number row is.kept.events at (ap is_holder on)
      (λ leg holder.
      subst (λ (o : Option RunRow). AreWithinSpace (option_map_or (λ row. library_after desk.office row ending) o desk.office.library)) (sym at)
      (subst (λ (o : Option Leg). AreWithinSpace (option_map_or (λ leg. taken_over leg.reach (job_run leg.job leg.start (cut_of row ending)) desk.office.library) o desk.office.library)) (sym holder.leg_at)
      (taken_over-within leg.reach _ desk.office.library
      (job_run-within leg.job leg.start (cut_of row ending) (distinct-job leg.job (is.kept.events.places row.number row leg holder).formed)
      (find-holds (λ (leg : Leg). AreWithinSpace leg.start) (λ leg. leg.number == row.number) desk.office.legs leg is.spaced_legs holder.leg_at))
      is.spaced)))

  end-rests : (library : Library) (sets : Named TableSet) → Rests desk.office (record desk.office { tables = with_run (ended_row row) (record desk.office.tables { sets = sets }); library = library }) row.number
  end-rests library sets =
      let was : IsAdmitted row = row-admitted desk is row.number row at in
      record {
        next = ended_row row;
        changes = record {
          mine = run-same (record desk.office.tables { sets = sets }) (ended_row row) row row.number at refl;
          others = λ other apart. run-other (record desk.office.tables { sets = sets }) (ended_row row) other apart;
          legs = refl;
        };
        in_state = refl;
        admitted = record { cards = was.cards; accepted = was.accepted; steps = was.steps; named = was.named; lodged = refl };
        rests = refl;
        stepped = refl;
      }

  module _ (ending : Ending) (sets : Named TableSet) (same : after_ended row ending desk.office.tables ≡ with_run (ended_row row) (record desk.office.tables { sets = sets })) where
    abbrev later : Office
    later = office_after (EndedEvent row.number ending, None) desk.office

    later-rests : Rests desk.office later row.number
    later-rests =
        let left : Library = option_map_or (λ row. library_after desk.office row ending) (run_of desk.office.tables row.number) desk.office.library in
        subst (λ (o : Option RunRow). Rests desk.office (record desk.office { tables = option_map_or (λ row. after_ended row ending desk.office.tables) o desk.office.tables; library = left }) row.number) (sym at)
        (subst (λ tables. Rests desk.office (record desk.office { tables = tables; library = left }) row.number) (sym same) (end-rests left sets))

    -- the desk behind it
    pub end-kept : Comes desk (EndedEvent row.number ending) → IsDesk (behind (EndedEvent row.number ending) None desk)
    end-kept comes =
        let on : AreKept desk.layout later = kept-on desk is (EndedEvent row.number ending) comes in
        let rests : Rests desk.office later row.number = later-rests in
        let then : DeskModel = behind (EndedEvent row.number ending) None desk in
        record {
          kept = on.kept;
          going = going-rest desk.office later row.number rests.next rests.changes desk.running is.going;
          failed = failed-rest desk.office later row.number rests.next rests.changes desk.failed is.failed;
          states = states-then desk then is row.number rests.next rests.changes rests.in_state;
          admitted = admitted-then desk then is row.number rests.next rests.changes rests.admitted;
          stepped = stepped-then desk then is row.number rests.next rests.changes rests.stepped;
          accounted = accounted-then desk then is row.number rests.next rests.changes rests.rests (running-same row.number desk.running) (failed-same row.number desk.failed);
          spaced = left-within ending;
          spaced_legs = is.spaced_legs;
          pointed = on.pointed;
          ready = on.ready;
          begun = on.begun;
          written = on.written;
        }

  -- behind its last step
  pub completed-kept : may_come desk.layout desk.office (EndedEvent row.number Completed, None) ≡ true → IsDesk (behind (EndedEvent row.number Completed) None desk)
  completed-kept may = end-kept Completed (passed_ended (has_passed row) desk.office.tables.sets) refl (record { may = may; carried = refl })

  -- since a DD of its step isn't allocated, before the step or within it
  pub refused-kept : (owned : OwnedStep) (dd cause first second : ℕ) → own_step row ≡ Some owned → may_come desk.layout desk.office (EndedEvent row.number (AllocationEnding dd cause first second), None) ≡ true
      → IsDesk (behind (EndedEvent row.number (AllocationEnding dd cause first second)) None desk)
  refused-kept owned dd cause first second there may =
      end-kept (AllocationEnding dd cause first second) (left_by row owned (place_of row) desk.office.tables) (refused-tables row owned (place_of row) desk.office.tables there) (record { may = may; carried = refl })
