-- The desk behind a checkpoint that is taken is as its events have brought it about.
use Rattle.std.proofs.Common.{◌≡◌, ℕ, suc, Bool, true, false, not, List, [], ◌∷◌, refl, ap, sym, ◌∙◌, subst, Option, Some, None, arith}
use Rattle.std.specs.Prelude.{◌==◌}
use Rattle.std.specs.List.{AllByRecursion, list_any}
use Rattle.std.proofs.lemmas.Bool.{or_left, or_right}
use Rattle.ckr_base.proofs.Numbers.{equal-itself, number-cases}
use Rattle.ckr_library.specs.NameMaps.{Name}
use Rattle.ckr_meaning.specs.declared.place.Place.TheVariants.{Within}
use Rattle.ckr_points.specs.Follows.{is_running}
use Rattle.ckr_points.specs.Office.{Office}
use Rattle.ckr_points.specs.Restart.{place_of, step_in}
use Rattle.ckr_points.specs.RuleCases.{rd_in_effect}
use Rattle.ckr_points.specs.Rows.{EffectPoint, RunRow, TablesModel, run_of}
use Rattle.ckr_points.specs.Tables.{fresh_effect, is_checkpoints, name_with_role}
use Rattle.ckr_points_invariant.proofs.Holders.Rows.{run-other}
use Rattle.ckr_rules.specs.RuleTables.{suppresses}
use Rattle.ckr_points.specs.declared.reply.Chkpt.{Chkpt}
use Rattle.ckr_desk_turn.specs.Checkpoints.{MayCheckpoint, checkpoint_fits, checkpoint_try, checkpoint_unless, checkpointed_by, office_behind, written_event}
use Rattle.ckr_desk_turn.specs.declared.failed_run.FailedRun.{FailedRun}
use Rattle.ckr_desk_turn.specs.Desk.{DeskModel, DeskStep, behind as desk_behind, checkpoint_done, progress_of, with_progress, without_run}
use Rattle.ckr_desk_turn.specs.Invariant.{IsAdmitted, IsDesk, IsFailed, IsGoing, Keeps, is_accounted}
use Rattle.ckr_desk_turn.specs.NextEvents.{IsWithinStep}
use Rattle.ckr_desk_turn.specs.Taken.{served_by, taken_of}
use Rattle.ckr_desk_turn.specs.Units.{StepProgress}
use Rattle.ckr_desk_turn.proofs.Checkpoints.Events.{behind-by, committed_now, kept_now, may-come, next_row, row-now}
use Rattle.ckr_desk_turn.proofs.Checkpoints.Plans.{takes}
use Rattle.ckr_desk_turn.proofs.NextEvents.WithinStep.{runs}
use Rattle.ckr_desk_turn.proofs.OtherRuns.{Changes, admitted-then, each_row, failed-there, going-rest, states-then, row-admitted, row-in-state, row-stepped, same-step, stepped-then}
use Rattle.ckr_desk_turn.proofs.Readiness.{kept-on}
use Rattle.ckr_desk_turn.proofs.RunningSteps.{going-within, nothing-between}
use Rattle.ckr_desk_turn.proofs.Units.AnyUnit.{found-going}
use Rattle.ckr_desk_turn.proofs.Moves.{accounted_so, come-served, come-uncoded, going-served, moved-kept}
use Rattle.ckr_points_invariant.specs.KeptEvents.{AreKept}

-- the row of a run behind its checkpoint: it has written an entry more, which is in effect, and what its step has written is committed
abbrev pub entered : RunRow → ℕ → Option EffectPoint → RunRow
entered row writes effect = record row { count = suc row.count; in_effect = effect; place = Some (Within (step_in (place_of row)) writes) }

pub record IsEntered (office : Office) (run : ℕ) (row : RunRow) (writes : ℕ) (tables : TablesModel) : Type 0 where
  pub effect : Option EffectPoint
  pub changes : Changes office (record office { tables = tables }) run (entered row writes effect)

-- ---- an entry that is written

module _ (desk : DeskModel) (is : IsDesk desk) (on : DeskStep) (going : IsGoing desk.office on) (uncoded : on.code ≡ None) (unclosed : on.progress.closed ≡ false) (fits : checkpoint_fits desk.office.tables.sets going.row going.start on.progress ≡ true) where
  abbrev may : MayCheckpoint desk.layout desk.office on
  may = record { kept = is.kept; spaced = is.spaced_legs; going = going; uncoded = uncoded; unclosed = unclosed; fits = fits }

  abbrev now : Office
  now = office_behind desk.layout desk.office on may

  its_number : going.row.number ≡ on.run
  its_number = is.kept.events.numbered on.run going.row going.row_at

  its_entry : IsEntered desk.office on.run going.row on.progress.writes now.tables
  its_entry =
      behind-by desk.layout desk.office on may (IsEntered desk.office on.run going.row on.progress.writes)
      (λ leg owned same job. record {
        effect = Some (fresh_effect (name_with_role going.row.job.root owned is_checkpoints) (kept_now desk.layout desk.office on may));
        changes = record {
          mine = row-now desk.layout desk.office on may owned;
          others = λ other apart. run-other (committed_now desk.layout desk.office on may owned) (next_row desk.layout desk.office on may owned) other (λ e. apart (e ∙ its_number));
          legs = refl;
        };
      })

  abbrev next : RunRow
  next = entered going.row on.progress.writes its_entry.effect

  changes : Changes desk.office now on.run next
  changes = its_entry.changes

  here : IsWithinStep desk.office on.run going.row going.number going.committed going.start
  here = going-within desk.office on going

  next_within : IsWithinStep now on.run next going.number on.progress.writes going.start
  next_within = record {
    row_at = changes.mine;
    on = here.on;
    place = ap (λ place. Within (step_in place) on.progress.writes) here.place;
    start_at = here.start_at;
  }

  abbrev stepped : DeskStep
  stepped = record { run = going.row.number; progress = checkpoint_done on.progress; code = None }

  -- its step goes on, and what it has written is committed
  pub still_going : IsGoing now stepped
  still_going = record {
    row = next;
    row_at = ap (run_of now.tables) its_number ∙ changes.mine;
    on = here.on;
    number = going.number;
    committed = on.progress.writes;
    place = ap (λ place. Some (Within (step_in place) on.progress.writes)) here.place;
    start = going.start;
    start_at = here.start_at;
    fit = going.fit;
    behind = omega arith;
    plain = nothing-between going.start on.progress.writes;
    come = come-served going.start on.progress true on.progress.cancelled on.progress.closed (come-uncoded desk.office on uncoded going);
  }

  failed_now : (failed : List FailedRun) → AllByRecursion (IsFailed desk.office) failed → AllByRecursion (IsFailed now) failed
  failed_now [] each = tt
  failed_now (first ∷ rest) each = (
    number-cases first.run on.run
        (λ same. record { row = next; number = going.number; committed = on.progress.writes; start = going.start; within = subst (λ n. IsWithinStep now n next going.number on.progress.writes going.start) (sym same) next_within })
        (λ apart. failed-there desk.office now on.run next changes first apart each.0),
    failed_now rest each.1,
  )

  abbrev later : DeskModel
  later = with_progress going.row.number (checkpoint_done on.progress) (desk_behind (written_event desk.layout desk.office on may) None desk)

  next_accounted : is_accounted later next ≡ true
  next_accounted =
      or_right (not (is_running next)) _
      (or_left (list_any (λ (step : DeskStep). step.run == going.row.number) later.running) _ (or_left (going.row.number == going.row.number) _ (equal-itself going.row.number)))

  its_events : AreKept desk.layout now
  its_events = kept-on desk is (written_event desk.layout desk.office on may) (may-come desk.layout desk.office on may)

  written-kept : IsDesk later
  written-kept = record {
    kept = its_events.kept;
    going = (still_going, subst (λ n. AllByRecursion (IsGoing now) (without_run n desk.running)) (sym its_number) (going-rest desk.office now on.run next changes desk.running is.going));
    failed = failed_now desk.failed is.failed;
    states = states-then desk later is on.run next changes (row-in-state desk is on.run going.row going.row_at);
    admitted =
        admitted-then desk later is on.run next changes
        (let was : IsAdmitted going.row = row-admitted desk is on.run going.row going.row_at in record { cards = was.cards; accepted = was.accepted; steps = was.steps; named = was.named; lodged = was.lodged });
    stepped = stepped-then desk later is on.run next changes (same-step going.row next (row-stepped desk is on.run going.row going.row_at) (runs desk is on.run going.row going.number going.committed going.start here) refl);
    accounted =
        each_row desk later is on.run next changes (is_accounted desk) (is_accounted later) next_accounted is.accounted
        (λ other apart was. accounted_so desk is going.row.number (checkpoint_done on.progress) other was);
    spaced = is.spaced;
    spaced_legs = is.spaced_legs;
    pointed = its_events.pointed;
    ready = its_events.ready;
    begun = its_events.begun;
    written = its_events.written;
  }

  written-keeps : Keeps desk (served_by going.row (checkpoint_try true desk.office.tables going.row going.start on.progress) desk)
  written-keeps = record { comes = may-come desk.layout desk.office on may; kept = written-kept }

-- ---- any checkpoint

module _ (desk : DeskModel) (is : IsDesk desk) (on : DeskStep) (going : IsGoing desk.office on) (uncoded : on.code ≡ None) where
  -- where no entry is written
  unwritten-keeps : (code : Chkpt) (id : Option Name) → Keeps desk (served_by going.row (checkpointed_by code id None going.row going.start on.progress) desk)
  unwritten-keeps code id = record {
    comes = tt;
    kept =
        moved-kept desk is going.row.number (checkpoint_done on.progress)
        (subst (λ n. IsGoing desk.office (record { run = n; progress = checkpoint_done on.progress; code = None })) (sym (is.kept.events.numbered on.run going.row going.row_at)) (going-served desk.office on true on.progress.cancelled uncoded going));
  }

  module _ (unclosed : on.progress.closed ≡ false) where
    try-keeps : (fits : Bool) → checkpoint_fits desk.office.tables.sets going.row going.start on.progress ≡ fits → Keeps desk (served_by going.row (checkpoint_try fits desk.office.tables going.row going.start on.progress) desk)
    try-keeps true fits = written-keeps desk is on going uncoded unclosed fits
    try-keeps false fits = unwritten-keeps _ _

    unless-keeps : (suppressed : Bool) → Keeps desk (served_by going.row (checkpoint_unless suppressed desk.office.tables going.row going.start on.progress) desk)
    unless-keeps true = unwritten-keeps _ _
    unless-keeps false = try-keeps (checkpoint_fits desk.office.tables.sets going.row going.start on.progress) refl

-- it keeps the desk
pub taken-keeps : (desk : DeskModel) (run : ℕ) (progress : StepProgress) → IsDesk desk → progress_of desk run ≡ Some progress → progress.closed ≡ false → Keeps desk (taken_of run desk)
taken-keeps desk run progress is known unclosed =
    let on : DeskStep = record { run = run; progress = progress; code = None } in
    let going : IsGoing desk.office on = found-going desk.office run progress desk.running is.going known in
    subst (Keeps desk) (sym (takes desk on going is known))
    (unless-keeps desk is on going refl unclosed (suppresses (rd_in_effect going.row going.start.number)))
