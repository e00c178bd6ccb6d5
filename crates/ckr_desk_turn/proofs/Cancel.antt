-- The desk behind a cancel of restarts is as its events have brought it about.
use Rattle.std.proofs.Common.{◌≡◌, ℕ, true, not, List, [], ◌∷◌, find, refl, ap, sym, ◌∙◌, subst, Option, Some, None}
use Rattle.std.specs.Prelude.{◌==◌}
use Rattle.std.specs.List.{AllByRecursion, list_any}
use Rattle.std.specs.Option.{option_map_or}
use Rattle.std.proofs.lemmas.Bool.{or_left, or_right}
use Rattle.std.proofs.lemmas.Option.{same_Some}
use Rattle.ckr_base.proofs.Numbers.{equal-itself, number-cases}
use Rattle.ckr_events.specs.declared.event.Event.TheVariants.{Cancelled as CancelledEvent}
use Rattle.ckr_meaning.specs.StepRun.{StepStart}
use Rattle.ckr_points.specs.Follows.{is_running}
use Rattle.ckr_points.specs.Office.{Office, office_after}
use Rattle.ckr_points.specs.Rows.{RunRow, run_of}
use Rattle.ckr_points.specs.Tables.{after_cancelled}
use Rattle.ckr_points_invariant.proofs.Holders.Rows.{run-other, run-same}
use Rattle.ckr_desk_turn.specs.declared.failed_run.FailedRun.{FailedRun}
use Rattle.ckr_desk_turn.specs.Desk.{DeskModel, DeskStep, behind as desk_behind, cancel_done, without_run}
use Rattle.ckr_desk_turn.specs.NextEvents.{Comes, IsWithinStep}
use Rattle.ckr_desk_turn.specs.Invariant.{IsAdmitted, IsDesk, IsFailed, IsGoing, is_accounted}
use Rattle.ckr_desk_turn.proofs.Checkpoints.Events.{cancel-comes}
use Rattle.ckr_desk_turn.proofs.OtherRuns.{Changes, admitted-then, each_row, failed-there, going-rest, states-then, row-admitted, row-in-state, row-stepped, stepped-then}
use Rattle.ckr_desk_turn.proofs.Readiness.{kept-on}
use Rattle.ckr_desk_turn.proofs.Moves.{accounted_so, come-served, come-uncoded, with_change-found}
use Rattle.ckr_points_invariant.specs.KeptEvents.{AreKept}
use Rattle.ckr_points.specs.Payload.{start_in_office}

module _ (desk : DeskModel) (is : IsDesk desk) (row : RunRow) (number committed : ℕ) (start : StepStart) (within : IsWithinStep desk.office row.number row number committed start) where
  pub cancelled-comes : Comes desk (CancelledEvent row.number)
  cancelled-comes = cancel-comes desk.layout desk.office row.number row number committed start within

  -- its run has no checkpoint in effect then
  abbrev next : RunRow
  next = record row { in_effect = None }

  abbrev now : Office
  now = office_after (CancelledEvent row.number, None) desk.office

  changes : Changes desk.office now row.number next
  changes =
      subst (λ (o : Option RunRow). Changes desk.office (record desk.office { tables = option_map_or (λ (found : RunRow). after_cancelled found desk.office.tables) o desk.office.tables }) row.number next) (sym within.row_at)
      (record {
        mine = run-same desk.office.tables next row row.number within.row_at refl;
        others = λ other apart. run-other desk.office.tables next other apart;
        legs = refl;
      })

  failed_now : (failed : List FailedRun) → AllByRecursion (IsFailed desk.office) failed → AllByRecursion (IsFailed now) failed
  failed_now [] each = tt
  failed_now (first ∷ rest) each = (
    number-cases first.run row.number
        (λ same.
        (record {
          row = next;
          number = number;
          committed = committed;
          start = start;
          within = record { row_at = ap (run_of now.tables) same ∙ changes.mine; on = within.on; place = within.place; start_at = within.start_at };
        }))
        (λ apart. failed-there desk.office now row.number next changes first apart each.0),
    failed_now rest each.1,
  )

  -- its running step, of which the cancel is done
  module _ (on : DeskStep) (found : find (λ (step : DeskStep). step.run == row.number) desk.running ≡ Some on) (going : IsGoing desk.office on) (same : on.run ≡ row.number) (uncoded : on.code ≡ None) where
    abbrev stepped : DeskStep
    stepped = record { run = row.number; progress = cancel_done on.progress; code = None }

    abbrev later : DeskModel
    later = record (desk_behind (CancelledEvent row.number) None desk) { running = stepped ∷ without_run row.number desk.running }

    mine : going.row ≡ row
    mine = same_Some _ _ (sym going.row_at ∙ ap (run_of desk.office.tables) same ∙ within.row_at)

    still_going : IsGoing now stepped
    still_going = record {
      row = next;
      row_at = changes.mine;
      on = within.on;
      number = going.number;
      committed = going.committed;
      place = ap (λ (r : RunRow). r.place) (sym mine) ∙ going.place;
      start = going.start;
      start_at = ap (start_in_office desk.office) (sym mine) ∙ going.start_at;
      fit = going.fit;
      behind = going.behind;
      plain = going.plain;
      come = come-served going.start on.progress on.progress.checkpointed true on.progress.closed (come-uncoded desk.office on uncoded going);
    }

    next_accounted : is_accounted later next ≡ true
    next_accounted =
        or_right (not (is_running next)) _
        (or_left (list_any (λ (step : DeskStep). step.run == row.number) later.running) _ (or_left (row.number == row.number) _ (equal-itself row.number)))

    its_events : AreKept desk.layout now
    its_events = kept-on desk is (CancelledEvent row.number) cancelled-comes

    later-kept : IsDesk later
    later-kept = record {
      kept = its_events.kept;
      going = (still_going, going-rest desk.office now row.number next changes desk.running is.going);
      failed = failed_now desk.failed is.failed;
      states = states-then desk later is row.number next changes (row-in-state desk is row.number row within.row_at);
      admitted =
          admitted-then desk later is row.number next changes
          (let was : IsAdmitted row = row-admitted desk is row.number row within.row_at in record { cards = was.cards; accepted = was.accepted; steps = was.steps; named = was.named; lodged = was.lodged });
      stepped = stepped-then desk later is row.number next changes (row-stepped desk is row.number row within.row_at);
      accounted =
          each_row desk later is row.number next changes (is_accounted desk) (is_accounted later) next_accounted is.accounted
          (λ other apart was. accounted_so desk is row.number (cancel_done on.progress) other was);
      spaced = is.spaced;
      spaced_legs = is.spaced_legs;
      pointed = its_events.pointed;
      ready = its_events.ready;
      begun = its_events.begun;
      written = its_events.written;
    }

    -- the desk behind it
    pub cancelled-kept : IsDesk (desk_behind (CancelledEvent row.number) None desk)
    cancelled-kept =
        subst (λ running. IsDesk (record (desk_behind (CancelledEvent row.number) None desk) { running = running })) (sym (with_change-found row.number cancel_done desk.running on found)) later-kept
