use Rattle.std.proofs.Common.{◌≡◌, true, List, ℕ, ap, sym, ◌∙◌, refl}
use Rattle.ckr_desk_turn.specs.Codes.{CodePlaceModel, code_plan, running_reached}
use Rattle.ckr_desk_turn.specs.Jobs.{TurnStep}
use Rattle.ckr_desk_memory.specs.Parts.{step_seen}
use Rattle.ckr_desk_memory.specs.Plans.{behind_unit, reached_seen, row_for, told_by}
use Rattle.ckr_desk_memory.specs.View.{JobsView, RunningStepView, running_of}
use Rattle.ckr_desk_memory.proofs.FoundRuns.{known-by, lengths-known}
use Rattle.ckr_desk_memory.proofs.jobs.Jobs.answered.Goals as goal

pub returns-in-Abend-clause-plan : goal.returns-in-Abend-clause-plan
returns-in-Abend-clause-plan c = λ row own at there.
    let layout = c.args.layout.now in
    let tables = c.args.self.now.tables.desk in
    let run = c.args.on.now.run in
    let table = c.in-Some.table.now in
    let known = c.in-Some.ensures.some in
    let moved : RunningStepView = behind_unit (step_seen c.args.on.now) c.args.ahead.now in
    let step : TurnStep = running_of tables moved in
    let reached : reached_seen c.reached_by-reached.result ≡ running_reached step =
    c.reached_by-reached.ensures.reached
    ∙ ap (λ (ls : List ℕ). let one : CodePlaceModel = record { writes = moved.step.writes; lengths = ls } in one) (sym (lengths-known tables run table known moved refl)) in
    c.code_plan.ensures.plan
    ∙ ap (λ (j : JobsView). code_plan layout j.tables.desk (row_for run table) c.initiator_of.result true c.in-Abend.code (reached_seen c.reached_by-reached.result)) c.self.view_is
    ∙ ap (code_plan layout tables (row_for run table) c.initiator_of.result true c.in-Abend.code) reached
    ∙ sym (known-by tables run table known (λ r. code_plan layout tables r c.initiator_of.result true c.in-Abend.code (running_reached step)) refl row at)
    ∙ ap (λ i. code_plan layout tables row i true c.in-Abend.code (running_reached step)) (c.initiator_of.ensures row at)
    ∙ ap (told_by layout tables row step) (sym c.in-Abend.is)
