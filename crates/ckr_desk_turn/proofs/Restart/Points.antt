-- The running steps and the marks behind a restart, and the next turn of a run that starts its step again.
use Rattle.std.proofs.Common.{◌≡◌, ℕ, Bool, true, false, cond, if◌then◌else◌, not, ◌&&◌, ◌||◌, map, List, [], ◌∷◌, find, refl, ap, sym, ◌∙◌, Option, Some, None}
use Rattle.std.specs.Prelude.{◌==◌}
use Rattle.std.specs.List.{list_any}
use Rattle.std.specs.Option.{option_map, option_map_or}
use Rattle.ckr_base.specs.declared.code.Code.{Code}
use Rattle.ckr_base.proofs.Bools.{bool-cases}
use Rattle.ckr_base.proofs.Numbers.{equal-itself}
use Rattle.ckr_base.proofs.Options.{is_some-true, some-one}
use Rattle.ckr_events.specs.declared.event.Event.TheVariants.{Ended as EndedEvent}
use Rattle.ckr_events.specs.declared.event.Ending.TheVariants.{Completed as CompletedEnding}
use Rattle.ckr_meaning.specs.EffectiveJob.{OwnedStep, step_at}
use Rattle.ckr_meaning.specs.declared.place.Place.{Place}
use Rattle.ckr_meaning.specs.declared.place.Place.TheVariants.{Before, Opened}
use Rattle.ckr_points.specs.Follows.{own_step}
use Rattle.ckr_points.specs.Marks.{point_at}
use Rattle.ckr_points.specs.Office.{Leg, Office}
use Rattle.ckr_points.specs.Rows.{KeptEntry, RunRow, StartPoint, TablesModel, run_of, step_of_run}
use Rattle.ckr_points_invariant.specs.Restorability.{StandsAt}
use Rattle.ckr_rules.specs.declared.cases.Verdict.TheVariants.{Step}
use Rattle.ckr_desk_turn.specs.declared.plan.Plan.{Plan}
use Rattle.ckr_desk_turn.specs.declared.plan.Plan.TheVariants.{Tell}
use Rattle.ckr_points.specs.declared.reply.How.TheVariants.{Completed}
use Rattle.ckr_points.specs.declared.reply.Reply.TheVariants.{JobEnded}
use Rattle.ckr_desk_turn.specs.Codes.{code_plan, initiator_of, reached_by}
use Rattle.ckr_desk_turn.specs.Desk.{DeskModel, DeskStep, at_entry, behind, jobs_of, progress_of, progress_unless, running_again, seen_step, without_mark, without_run}
use Rattle.ckr_desk_turn.specs.declared.failed_run.FailedRun.{FailedRun}
use Rattle.ckr_desk_turn.specs.Jobs.{TurnStep, effect_entry, is_failed, running_in, waiting_code}
use Rattle.ckr_desk_turn.specs.Plans.{placed_plan, run_plan, start_plan, system_failure, unmarked_plan}
use Rattle.ckr_desk_turn.specs.Restarts.{restart_of}
use Rattle.ckr_desk_turn.proofs.Restart.Events.{MayRestart, by-run, here, restart-keeps}
use Rattle.ckr_desk_turn.proofs.Restart.Steps.{step-begun, step-stands}
use Rattle.ckr_desk_turn.proofs.Turns.Due.{find-seen}
use Rattle.ckr_points_invariant.specs.KeptEvents.{AreKept}
use Rattle.ckr_points_invariant.specs.RunningSteps.{IsRunning}

-- ---- lists

pub find-without : (run : ℕ) (running : List DeskStep) → find (λ (step : DeskStep). step.run == run) (without_run run running) ≡ None
find-without run [] = refl
find-without run (first ∷ rest) =
    bool-cases (first.run == run)
    (λ same. ap (λ b. find (λ (step : DeskStep). step.run == run) (cond (not b) (first ∷ without_run run rest) (without_run run rest))) same ∙ find-without run rest)
    (λ isnt.
    ap (λ b. find (λ (step : DeskStep). step.run == run) (cond (not b) (first ∷ without_run run rest) (without_run run rest))) isnt
    ∙ ap (λ b. cond b (Some first) (find (λ (step : DeskStep). step.run == run) (without_run run rest))) isnt ∙ find-without run rest)

-- a run that isn't marked any more wasn't asked for, either
pub any-without : (run : ℕ) (failed : List FailedRun) (also : FailedRun → Bool) → list_any (λ (one : FailedRun). one.run == run && also one) (without_mark run failed) ≡ false
any-without run [] also = refl
any-without run (first ∷ rest) also =
    bool-cases (first.run == run)
    (λ same. ap (λ b. list_any (λ (one : FailedRun). one.run == run && also one) (cond (not b) (first ∷ without_mark run rest) (without_mark run rest))) same ∙ any-without run rest also)
    (λ isnt.
    ap (λ b. list_any (λ (one : FailedRun). one.run == run && also one) (cond (not b) (first ∷ without_mark run rest) (without_mark run rest))) isnt
    ∙ ap (λ b. b && also first || list_any (λ (one : FailedRun). one.run == run && also one) (without_mark run rest)) isnt ∙ any-without run rest also)

-- it has no running step as its jobs see it
seen-without : (office : Office) (run : ℕ) (running : List DeskStep) → find (λ (step : TurnStep). step.run == run) (map (seen_step office) (without_run run running)) ≡ None
seen-without office run running = find-seen office run (without_run run running) ∙ ap (option_map (seen_step office)) (find-without run running)

-- ---- at a checkpoint

-- the running steps of a run that goes on from its entry
pub running-again : (tables : TablesModel) (row : RunRow) (entry : KeptEntry) (running : List DeskStep) → run_of tables row.number ≡ Some row → effect_entry tables row ≡ Some entry → running_again tables row.number running ≡ at_entry row.number entry.point ∷ without_run row.number running
running-again tables row entry running at there =
    ap (λ (o : Option KeptEntry). option_map_or (λ entry. at_entry row.number entry.point ∷ without_run row.number running) o (without_run row.number running))
    (ap (λ (o : Option RunRow). option_map_or (effect_entry tables) o None) at ∙ there)

pub again-progress : (desk : DeskModel) (row : RunRow) (initiator : ℕ) (code : Code) (entry : KeptEntry) → run_of desk.office.tables row.number ≡ Some row → effect_entry desk.office.tables row ≡ Some entry → progress_of (behind (restart_of row initiator code true) None desk) row.number ≡ Some (at_entry row.number entry.point).progress
again-progress desk row initiator code entry at there =
    ap (λ (running : List DeskStep). option_map_or (λ (step : DeskStep). progress_unless step.code step.progress) (find (λ (step : DeskStep). step.run == row.number) running) None) (running-again desk.office.tables row entry desk.running at there)
    ∙ ap (λ b. option_map_or (λ (step : DeskStep). progress_unless step.code step.progress) (cond b (Some (at_entry row.number entry.point)) (find (λ (step : DeskStep). step.run == row.number) (without_run row.number desk.running))) None) (equal-itself row.number)

-- ---- at the start of the step

module _ (desk : DeskModel) (are : AreKept desk.layout desk.office) (row : RunRow) (initiator : ℕ) (code : Code) (its : MayRestart desk.layout desk.office row initiator code Step) where
  abbrev later : DeskModel
  later = behind (restart_of row initiator code false) None desk

  kept : AreKept desk.layout later.office
  kept = restart-keeps desk.layout desk.office are row initiator code Step its false refl

  module _ (leg : Leg) (point : StartPoint) (other : OwnedStep) (running : IsRunning desk.office row.number row leg other its.on.number its.on.committed) (got : point_at row.points its.on.number ≡ Some point) (next : RunRow) (owned : OwnedStep) (at : run_of later.office.tables row.number ≡ Some next) (found : own_step row ≡ Some owned) where
    stands : StandsAt later.office row.number leg (Opened its.on.number) point.count
    stands = step-stands desk.layout desk.office are row initiator code its leg point running.holder.leg_at got

    same : stands.row ≡ next
    same = some-one stands.row next (run_of later.office.tables row.number) stands.holder.row_at at

    found-so : step_of_run next its.on.number ≡ Some owned
    found-so =
        ap (λ (r : RunRow). step_of_run r its.on.number) (sym same)
        ∙ ap (λ job. step_at job its.on.number) (sym (kept.kept.events.places row.number stands.row leg stands.holder).job ∙ (are.kept.events.places row.number row leg running.holder).job)
        ∙ ap (step_of_run row) (sym (here desk.layout desk.office are row initiator code Step its)) ∙ found

    abbrev planned : Bool → Plan
    planned b = elim b [
      | true ↦ code_plan desk.layout later.office.tables next (initiator_of next) true system_failure (reached_by (jobs_of later) next)
      | false ↦ unmarked_plan desk.layout (jobs_of later) next None (waiting_code (jobs_of later) next.number)
    ]

    its_number : next.number ≡ row.number
    its_number = kept.kept.events.numbered row.number next at

    -- it waits with no code
    waits-not : waiting_code (jobs_of later) next.number ≡ None
    waits-not =
        ap (waiting_code (jobs_of later)) its_number
        ∙ ap (λ b. if b then Some system_failure else option_map_or (λ (step : TurnStep). step.code) (running_in (jobs_of later) row.number) None) (any-without row.number desk.failed (λ one. one.asked))
        ∙ ap (λ (o : Option TurnStep). option_map_or (λ (step : TurnStep). step.code) o None) (seen-without later.office row.number desk.running)

    abbrev started : Option OwnedStep → Plan
    started o = elim o [
      | None ↦ Tell (JobEnded next.number Completed) (EndedEvent next.number CompletedEnding)
      | Some owned ↦ start_plan desk.layout (jobs_of later) next owned its.on.number
    ]

    again-so : run_plan desk.layout (jobs_of later) None next ≡ start_plan desk.layout (jobs_of later) next owned its.on.number
    again-so =
        ap planned (ap (is_failed (jobs_of later)) its_number ∙ any-without row.number desk.failed (λ one. not one.asked))
        ∙ ap (unmarked_plan desk.layout (jobs_of later) next None) waits-not
        ∙ ap (placed_plan desk.layout (jobs_of later) next) (ap (λ (o : Option Place). option_map_or (λ (place : Place). place) o (Before 1)) (ap (λ (r : RunRow). r.place) (sym same) ∙ stands.stands))
        ∙ ap started found-so

  -- its next turn starts the step again
  pub starts-again : (next : RunRow) (owned : OwnedStep) → run_of later.office.tables row.number ≡ Some next → own_step row ≡ Some owned → run_plan desk.layout (jobs_of later) None next ≡ start_plan desk.layout (jobs_of later) next owned its.on.number
  starts-again next owned at found =
      by-run desk.layout desk.office are row initiator code Step its
      (λ leg other running own same.
      is_some-true (point_at row.points its.on.number) (step-begun desk.layout desk.office are row initiator code its) (λ point got. again-so leg point other running got next owned at found))
