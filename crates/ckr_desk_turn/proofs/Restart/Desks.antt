-- A desk behind a restart, or behind the end or the hold of a run that has a code, is as its events have brought it about.
use Rattle.std.proofs.Common.{◌≡◌, ◌≢◌, ℕ, Bool, true, false, not, ◌||◌, ◌∷◌, refl, ap, sym, ◌∙◌, subst, None}
use Rattle.std.specs.Prelude.{◌==◌}
use Rattle.std.specs.List.{list_any}
use Rattle.std.proofs.lemmas.Bool.{or_left, or_right}
use Rattle.ckr_base.specs.declared.code.Code.{Code}
use Rattle.ckr_base.proofs.Numbers.{equal-itself}
use Rattle.ckr_events.specs.declared.event.Event.{Event}
use Rattle.ckr_events.specs.declared.event.Event.TheVariants.{Ended as EndedEvent, Held as HeldEvent}
use Rattle.ckr_events.specs.declared.event.Ending.TheVariants.{Coded as CodedEnding}
use Rattle.ckr_meaning.specs.StepRun.{StepStart}
use Rattle.ckr_points.specs.Follows.{is_running}
use Rattle.ckr_points.specs.Office.{Office, office_after}
use Rattle.ckr_points.specs.Rows.{RunRow}
use Rattle.ckr_rules.specs.RuleTables.{rule_number}
use Rattle.ckr_rules.specs.declared.cases.Rule.{Rule}
use Rattle.ckr_rules.specs.declared.cases.Verdict.TheVariants.{Checkpoint, Step}
use Rattle.ckr_desk_turn.specs.declared.plan.Plan.TheVariants.{Tell}
use Rattle.ckr_points.specs.declared.reply.Reply.{Reply}
use Rattle.ckr_desk_turn.specs.Codes.{initiator_of, reached_by, verdict_for}
use Rattle.ckr_desk_turn.specs.Desk.{DeskModel, DeskStep, at_entry, behind, done_by, jobs_of, without_run}
use Rattle.ckr_desk_turn.specs.Invariant.{IsDesk, Keeps, is_accounted}
use Rattle.ckr_desk_turn.specs.NextEvents.{IsWithinStep}
use Rattle.ckr_desk_turn.specs.Restarts.{GoesOnBy, restart_of}
use Rattle.ckr_desk_turn.proofs.Codes.{may_end, initiator-its}
use Rattle.ckr_desk_turn.proofs.OtherRuns.{accounted-then, admitted-then, each_row, failed-rest, failed-same, going-rest, states-then, row-admitted, running-same, stepped-then}
use Rattle.ckr_desk_turn.proofs.Restart.Checkpoints.{IsBack, back}
use Rattle.ckr_desk_turn.proofs.Restart.Events.{MayGoOn, MayRestart, on-goes, restart-comes, restart-keeps}
use Rattle.ckr_desk_turn.proofs.NextEvents.Holders.{HoldsStep, may_go}
use Rattle.ckr_desk_turn.proofs.Restart.Points.{running-again}
use Rattle.ckr_desk_turn.proofs.Restart.Steps.{IsAtStart, start-row}
use Rattle.ckr_desk_turn.proofs.RunningSteps.{reached-comes, reached-holds}
use Rattle.ckr_desk_turn.proofs.StepEnd.{code-kept, held-kept}
use Rattle.ckr_points_invariant.specs.KeptEvents.{AreKept}
use Rattle.ckr_desk_turn.proofs.Readiness.{desk-kept}

-- a run within a step, which may be restarted on its initiator
pub may-so : (desk : DeskModel) → IsDesk desk → (row : RunRow) (number committed : ℕ) (start : StepStart) → IsWithinStep desk.office row.number row number committed start → MayGoOn desk.layout desk.office row (initiator_of row)
may-so desk is row number committed start within =
    on-goes desk.layout desk.office row (initiator_of row) number committed start within (initiator-its row within.on (row-admitted desk is row.number row within.row_at))

-- a desk that goes on by the event of a plan
pub told-keeps : (desk : DeskModel) (reply : Reply) (event : Event) → GoesOnBy desk event → Keeps desk (done_by (Tell reply event) desk)
told-keeps desk reply event goes = record { comes = goes.comes; kept = goes.kept }

module _ (desk : DeskModel) (is : IsDesk desk) (row : RunRow) (initiator : ℕ) (code : Code) where
  are : AreKept desk.layout desk.office
  are = desk-kept desk is

  -- ---- at the start of its step

  module _ (its : MayRestart desk.layout desk.office row initiator code Step) where
    abbrev start_after : Office
    start_after = office_after (restart_of row initiator code false, None) desk.office

    abbrev start_later : DeskModel
    start_later = behind (restart_of row initiator code false) None desk

    start-kept : IsDesk start_later
    start-kept =
        let then : IsAtStart desk.office start_after row = start-row desk.layout desk.office are row initiator code its in
        let on : AreKept desk.layout start_after = restart-keeps desk.layout desk.office are row initiator code Step its false refl in
        record {
          kept = on.kept;
          going = going-rest desk.office start_after row.number then.next then.changes desk.running is.going;
          failed = failed-rest desk.office start_after row.number then.next then.changes desk.failed is.failed;
          states = states-then desk start_later is row.number then.next then.changes then.in_state;
          admitted = admitted-then desk start_later is row.number then.next then.changes (then.admitted (row-admitted desk is row.number row its.on.held.row_at));
          stepped = stepped-then desk start_later is row.number then.next then.changes then.stepped;
          accounted = accounted-then desk start_later is row.number then.next then.changes then.rests (running-same row.number desk.running) (failed-same row.number desk.failed);
          spaced = is.spaced;
          spaced_legs = is.spaced_legs;
          pointed = on.pointed;
          ready = on.ready;
          begun = on.begun;
          written = on.written;
        }

    pub step-goes_on : GoesOnBy desk (restart_of row initiator code false)
    step-goes_on = record { comes = restart-comes desk.layout desk.office are row initiator code Step its false refl; kept = start-kept }

  -- ---- at its checkpoint in effect

  module _ (its : MayRestart desk.layout desk.office row initiator code Checkpoint) where
    abbrev after : Office
    after = office_after (restart_of row initiator code true, None) desk.office

    then : IsBack desk.office after row
    then = back desk.layout desk.office are row initiator code its

    abbrev later : DeskModel
    later = record (behind (restart_of row initiator code true) None desk) { running = at_entry row.number then.entry.point ∷ without_run row.number desk.running }

    accounted-so : (other : RunRow) → other.number ≢ row.number → is_accounted desk other ≡ true → is_accounted later other ≡ true
    accounted-so other apart was =
        by (not (is_running other)) (row.number == other.number) _ _ _ _ (running-same row.number desk.running other.number apart) (failed-same row.number desk.failed other.number apart) was
      where
        by : (rests here old new failed gone : Bool) → old ≡ new → failed ≡ gone → (rests || (old || failed)) ≡ true → (rests || ((here || new) || gone)) ≡ true
        by true here old new failed gone same left was = refl
        by false true old new failed gone same left was = refl
        by false false old new failed gone same left was = ap (λ b. b || gone) (sym same) ∙ ap (λ b. old || b) (sym left) ∙ was

    later-kept : IsDesk later
    later-kept =
        let on : AreKept desk.layout after = restart-keeps desk.layout desk.office are row initiator code Checkpoint its true refl in
        record {
          kept = on.kept;
          going = (then.going, going-rest desk.office after row.number then.next then.changes desk.running is.going);
          failed = failed-rest desk.office after row.number then.next then.changes desk.failed is.failed;
          states = states-then desk later is row.number then.next then.changes then.in_state;
          admitted = admitted-then desk later is row.number then.next then.changes (then.admitted (row-admitted desk is row.number row its.on.held.row_at));
          stepped = stepped-then desk later is row.number then.next then.changes then.stepped;
          accounted = each_row desk later is row.number then.next then.changes (is_accounted desk) (is_accounted later)
              (or_right (not (is_running then.next)) _
              (or_left (list_any (λ (step : DeskStep). step.run == then.next.number) later.running) _
              (or_left (row.number == then.next.number) _ (ap (λ n. row.number == n) (on.kept.events.numbered row.number then.next then.changes.mine) ∙ equal-itself row.number)))) is.accounted accounted-so;
          spaced = is.spaced;
          spaced_legs = is.spaced_legs;
          pointed = on.pointed;
          ready = on.ready;
          begun = on.begun;
          written = on.written;
        }

    pub check-goes_on : GoesOnBy desk (restart_of row initiator code true)
    check-goes_on = record {
      comes = restart-comes desk.layout desk.office are row initiator code Checkpoint its true refl;
      kept =
          subst (λ running. IsDesk (record (behind (restart_of row initiator code true) None desk) { running = running }))
          (sym (running-again desk.office.tables row then.entry desk.running its.on.held.row_at then.there)) later-kept;
    }

-- ---- where it ends or is held

module _ (desk : DeskModel) (is : IsDesk desk) (row : RunRow) (code : Code) (number committed : ℕ) (start : StepStart) (held : HoldsStep desk.office row.number row number committed start) (goes : may_go row ≡ true) where
  -- by the rule that denies its restart, or by that of the operator
  pub end-goes_on : (rule : Rule) → may_end rule (verdict_for desk.layout row code) ≡ true → GoesOnBy desk (EndedEvent row.number (CodedEnding code (rule_number rule) (reached_by (jobs_of desk) row).writes (record { items = (reached_by (jobs_of desk) row).lengths })))
  end-goes_on rule first =
      let comes = reached-comes desk is row number committed start held goes code rule first in
      record {
        comes = comes;
        kept = code-kept desk is row.number row number committed start held code (rule_number rule) (reached_by (jobs_of desk) row).writes (record { items = (reached_by (jobs_of desk) row).lengths }) comes;
      }

  pub hold-goes_on : GoesOnBy desk (HeldEvent row.number code (reached_by (jobs_of desk) row).writes (record { items = (reached_by (jobs_of desk) row).lengths }))
  hold-goes_on =
      let comes = reached-holds desk is row number committed start held goes code in
      record {
        comes = comes;
        kept = held-kept desk is row.number row number committed start held code (reached_by (jobs_of desk) row).writes (record { items = (reached_by (jobs_of desk) row).lengths }) comes;
      }
