-- A unit that rewrites a record: its event may come and carries what the job gives, and the desk behind it is as its events have
-- brought it about.
use Rattle.std.proofs.Common.{◌≡◌, ◌≤◌, ℕ, suc, true, not, ◌&&◌, List, [], ◌∷◌, length, refl, ap, sym, ◌∙◌, subst, Some, None, arith}
use Rattle.std.specs.Prelude.{◌==◌, nat_le, nat_lt}
use Rattle.std.specs.List.{AllByRecursion, list_any}
use Rattle.std.specs.Option.{option_map_or}
use Rattle.std.proofs.lemmas.Bool.{and_from, lt-ltb, or_left, or_right}
use Rattle.ckr_base.proofs.Numbers.{equal-itself, nat_le-from, number-cases}
use Rattle.ckr_base.proofs.Sequences.{get-inside}
use Rattle.arrayvec.specs.ArrayVec.{ArrayVec}
use Rattle.ckr_points_library.specs.Commit.{output_names}
use Rattle.ckr_base.specs.Columns.{fitted}
use Rattle.ckr_events.specs.declared.event.Event.TheVariants.{Rewritten as RewrittenEvent}
use Rattle.ckr_library.specs.NameMaps.{Named, entry_at, with_changed}
use Rattle.ckr_meaning.specs.EffectiveJob.{OwnedStep}
use Rattle.ckr_meaning.specs.Program.{records_taken, upto}
use Rattle.ckr_meaning.specs.declared.place.Place.TheVariants.{Within}
use Rattle.ckr_meaning.specs.StepRun.{StepStart, case_at, work_at}
use Rattle.ckr_points.specs.Tables.{after_rewritten, committed, is_updates, name_with_role, row_rewritten, table_rewritten}
use Rattle.ckr_points.specs.Follows.{is_rewrite, is_running, lengths_follow, of_step}
use Rattle.ckr_points.specs.Payload.{carries_lengths, carries_rewrite, carries_taken, lengths_at, rewrites_nothing, writes_in}
use Rattle.ckr_points.specs.Office.{Office, office_after}
use Rattle.ckr_points.specs.Restart.{place_of, step_in}
use Rattle.ckr_points.specs.Rows.{RunRow, TableSet, run_of, step_of_run}
use Rattle.ckr_points_invariant.proofs.Holders.Rows.{run-other, run-same}
use Rattle.ckr_desk_turn.specs.declared.failed_run.FailedRun.{FailedRun}
use Rattle.ckr_desk_turn.specs.Desk.{DeskModel, DeskStep, behind as desk_behind, with_progress, without_run}
use Rattle.ckr_desk_turn.specs.Units.{StepProgress, arrived}
use Rattle.ckr_desk_turn.specs.NextEvents.{Comes, IsWithinStep}
use Rattle.ckr_desk_turn.specs.Invariant.{IsAdmitted, IsDesk, IsFailed, IsGoing, is_accounted}
use Rattle.ckr_desk_turn.proofs.StepEnd.{by-changed}
use Rattle.ckr_desk_turn.proofs.OtherRuns.{Changes, admitted-then, each_row, failed-there, going-rest, states-then, row-admitted, row-in-state, row-stepped, same-step, stepped-then}
use Rattle.ckr_desk_turn.proofs.Readiness.{kept-on}
use Rattle.ckr_desk_turn.proofs.RunningSteps.{nothing-between}
use Rattle.ckr_desk_turn.proofs.Rewrite.Event.{Rewrites, carry_so, follow_so, its_table, lrecl_so, rewrite_carried, rewrite_follows}
use Rattle.ckr_desk_turn.proofs.Moves.{accounted_so}
use Rattle.ckr_desk_turn.proofs.NextEvents.WithinStep.{by-step, of-run, of-start, runs}
use Rattle.ckr_points_invariant.specs.KeptEvents.{AreKept}

-- what the rewrite behind some writes of a step tells
pub record IsTold (office : Office) (row : RunRow) (start : StepStart) (before : ℕ) (at : ℕ × List ℕ) : Type 0 where
  pub table : TableSet
  pub follow : lengths_follow office.tables row (lengths_at start office.tables.sets (suc before)) ≡ true
  pub carry : carries_lengths office.tables.sets (suc before) (lengths_at start office.tables.sets (suc before)) start ≡ true
  pub carried : carries_rewrite office.tables.sets (suc before) at.0 (fitted table.set.lrecl at.1) start ≡ true
  pub step : of_step row (is_rewrite office.tables at.0 (fitted table.set.lrecl at.1) row) ≡ true
  pub lrecl : option_map_or (λ (owned : OwnedStep). option_map_or (λ (table : TableSet). table.set.lrecl) (entry_at office.tables.sets (name_with_role row.job.root owned is_updates)) 0) (step_of_run row (step_in (place_of row))) 0 ≡ table.set.lrecl

module _ (desk : DeskModel) (is : IsDesk desk) (run : ℕ) (row : RunRow) (number from : ℕ) (start : StepStart) (within : IsWithinStep desk.office run row number from start)
    (before taken : ℕ) (at : ℕ × List ℕ) (behind : from ≤ before) (plain : rewrites_nothing start from before ≡ true) (rewrites : Rewrites start before taken at) where
  pub told : IsTold desk.office row start before at
  told =
      by-step desk is run row number from start within
      (λ leg owned running same spaced.
      subst (λ s. rewrites_nothing s from before ≡ true → Rewrites s before taken at → IsTold desk.office row s before at) (sym same)
      (λ plain rewrites. record {
        table = (its_table desk.layout desk.office run row leg owned number from before taken at is.kept.events running spaced behind plain rewrites).table;
        follow = follow_so desk.layout desk.office run row leg owned number from before taken at is.kept.events running spaced behind plain rewrites;
        carry = carry_so desk.layout desk.office run row leg owned number from before taken at is.kept.events running spaced behind plain rewrites;
        carried = rewrite_carried desk.layout desk.office run row leg owned number from before taken at is.kept.events running spaced behind plain rewrites;
        step = rewrite_follows desk.layout desk.office run row leg owned number from before taken at is.kept.events running spaced behind plain rewrites;
        lrecl = lrecl_so desk.layout desk.office run row leg owned number from before taken at is.kept.events running spaced behind plain rewrites;
      }) plain rewrites)

  abbrev pub lengths : ArrayVec ℕ
  lengths = record { items = lengths_at start desk.office.tables.sets (suc before) }

  abbrev pub image : List ℕ
  image = fitted told.table.set.lrecl at.1

  from_so : (nat_lt (writes_in (place_of row)) (suc before) && rewrites_nothing start (writes_in (place_of row)) before) ≡ true
  from_so =
      ap (λ place. nat_lt (writes_in place) (suc before) && rewrites_nothing start (writes_in place) before) within.place
      ∙ and_from (nat_lt from (suc before)) (rewrites_nothing start from before) (lt-ltb from (suc before) (omega (arith, behind))) plain

  taken_so : carries_taken taken (suc before) start ≡ true
  taken_so =
      and_from (nat_le taken (records_taken (case_at start))) (suc before == length (upto (case_at start) taken)) (nat_le-from taken (records_taken (case_at start)) rewrites.below)
      (ap (λ n. suc before == n) (sym rewrites.counts) ∙ equal-itself (suc before))

  -- its event may come, and carries what the job gives
  pub rewritten-comes : Comes desk (RewrittenEvent run taken (suc before) lengths at.0 image)
  rewritten-comes = record {
    may =
        and_from _ true
        (of-run desk is run row number from start within (λ row. is_running row && lengths_follow desk.office.tables row lengths.items && of_step row (is_rewrite desk.office.tables at.0 image row))
        (and_from (is_running row && lengths_follow desk.office.tables row lengths.items) (of_step row (is_rewrite desk.office.tables at.0 image row))
        (and_from (is_running row) (lengths_follow desk.office.tables row lengths.items) (runs desk is run row number from start within) told.follow) told.step)) refl;
    carried =
        of-start desk is run row number from start within
        (λ row start.
        let from = writes_in (place_of row) in
        nat_lt from (suc before) && rewrites_nothing start from before && carries_lengths desk.office.tables.sets (suc before) lengths.items start
        && carries_taken taken (suc before) start && carries_rewrite desk.office.tables.sets (suc before) at.0 image start)
        (and_from (nat_lt (writes_in (place_of row)) (suc before) && rewrites_nothing start (writes_in (place_of row)) before && carries_lengths desk.office.tables.sets (suc before) lengths.items start && carries_taken taken (suc before) start) (carries_rewrite desk.office.tables.sets (suc before) at.0 image start)
        (and_from (nat_lt (writes_in (place_of row)) (suc before) && rewrites_nothing start (writes_in (place_of row)) before && carries_lengths desk.office.tables.sets (suc before) lengths.items start) (carries_taken taken (suc before) start)
        (and_from (nat_lt (writes_in (place_of row)) (suc before) && rewrites_nothing start (writes_in (place_of row)) before) (carries_lengths desk.office.tables.sets (suc before) lengths.items start) from_so told.carry)
        taken_so) told.carried);
  }

  -- ---- the desk behind it

  its_number : row.number ≡ run
  its_number = is.kept.events.numbered run row within.row_at

  abbrev next : RunRow
  next = record (row_rewritten (step_in (place_of row)) row) { place = Some (Within (step_in (place_of row)) (suc before)) }

  abbrev now : Office
  now = office_after (RewrittenEvent run taken (suc before) lengths at.0 image, None) desk.office

  changes : Changes desk.office now run next
  changes =
      by-step desk is run row number from start within
      (λ leg owned running same spaced.
      by-changed (λ tables. Changes desk.office (record desk.office { tables = tables }) run next) desk.office.tables run row owned
      (λ row owned step. after_rewritten row owned step (suc before) lengths.items desk.office.tables) within.row_at
      (ap (λ place. step_of_run row (step_in place)) within.place ∙ running.found)
      (let sets : Named TableSet = with_changed (name_with_role row.job.root owned is_updates) (table_rewritten owned.owner (step_in (place_of row))) (committed (output_names row.job.root owned) lengths.items desk.office.tables.sets) in
      record {
        mine = run-same (record desk.office.tables { sets = sets }) next row run within.row_at its_number;
        others = λ other apart. run-other (record desk.office.tables { sets = sets }) next other (λ e. apart (e ∙ its_number));
        legs = refl;
      }))

  abbrev pub further : StepProgress
  further = arrived taken (suc before)

  next_within : IsWithinStep now run next number (suc before) start
  next_within = record {
    row_at = changes.mine;
    on = within.on;
    place = ap (λ place. Within (step_in place) (suc before)) within.place;
    start_at = within.start_at;
  }

  still_going : IsGoing now (record { run = row.number; progress = further; code = None })
  still_going = record {
    row = next;
    row_at = ap (run_of now.tables) its_number ∙ changes.mine;
    on = within.on;
    number = number;
    committed = suc before;
    place = ap (λ place. Some (Within (step_in place) (suc before))) within.place;
    start = start;
    start_at = within.start_at;
    fit = get-inside rewrites.write (work_at start).writes before rewrites.got;
    behind = omega arith;
    plain = nothing-between start (suc before);
    come = record { taken = rewrites.below; writes = rewrites.counts };
  }

  failed_now : (failed : List FailedRun) → AllByRecursion (IsFailed desk.office) failed → AllByRecursion (IsFailed now) failed
  failed_now [] each = tt
  failed_now (first ∷ rest) each = (
    number-cases first.run run
        (λ same. record { row = next; number = number; committed = suc before; start = start; within = subst (λ n. IsWithinStep now n next number (suc before) start) (sym same) next_within })
        (λ apart. failed-there desk.office now run next changes first apart each.0),
    failed_now rest each.1,
  )

  abbrev pub later : DeskModel
  later = desk_behind (RewrittenEvent run taken (suc before) lengths at.0 image) None (with_progress row.number further desk)

  next_accounted : is_accounted later next ≡ true
  next_accounted =
      or_right (not (is_running next)) _
      (or_left (list_any (λ (step : DeskStep). step.run == row.number) later.running) _ (or_left (row.number == row.number) _ (equal-itself row.number)))

  on : AreKept desk.layout now
  on = kept-on desk is (RewrittenEvent run taken (suc before) lengths at.0 image) rewritten-comes

  pub rewritten-kept : IsDesk later
  rewritten-kept = record {
    kept = on.kept;
    going = (still_going, subst (λ n. AllByRecursion (IsGoing now) (without_run n desk.running)) (sym its_number) (going-rest desk.office now run next changes desk.running is.going));
    failed = failed_now desk.failed is.failed;
    states = states-then desk later is run next changes (row-in-state desk is run row within.row_at);
    admitted = admitted-then desk later is run next changes (let was : IsAdmitted row = row-admitted desk is run row within.row_at in record { cards = was.cards; accepted = was.accepted; steps = was.steps; named = was.named; lodged = was.lodged });
    stepped = stepped-then desk later is run next changes (same-step row next (row-stepped desk is run row within.row_at) (runs desk is run row number from start within) refl);
    accounted =
        each_row desk later is run next changes (is_accounted desk) (is_accounted later) next_accounted is.accounted
        (λ other apart was. accounted_so desk is row.number further other was);
    spaced = is.spaced;
    spaced_legs = is.spaced_legs;
    pointed = on.pointed;
    ready = on.ready;
    begun = on.begun;
    written = on.written;
  }
