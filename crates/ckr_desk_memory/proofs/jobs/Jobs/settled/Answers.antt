use Rattle.std.proofs.Common.{◌≡◌, ap, sym, ◌∙◌, refl, false, true, None, Some}
use Rattle.std.specs.Option.{is_some, option_map_or}
use Rattle.ckr_points.specs.Restart.{place_of, step_in}
use Rattle.ckr_points.specs.Rows.{RunRow, run_of}
use Rattle.ckr_desk_turn.specs.declared.plan.Plan.TheVariants.{Rest}
use Rattle.ckr_points.specs.declared.reply.Reply.TheVariants.{Idle}
use Rattle.ckr_desk_turn.specs.Jobs.{is_failed, running_in, waiting_code}
use Rattle.ckr_desk_turn.specs.Plans.{fail_plan, running_plan, system_failure}
use Rattle.ckr_desk_memory.specs.Plans.{next_step}
use Rattle.ckr_desk_memory.specs.View.{jobs_of}
use Rattle.ckr_desk_memory.proofs.FoundRuns.{known-by}
use Rattle.ckr_desk_memory.proofs.Plans.{code-known, known-there, marked-at, next-is, placed-within, run-failed, run-other, run-waiting, waiting-at}
use Rattle.ckr_desk_memory.proofs.RunningSteps.Served.{counted-all}
use Rattle.ckr_desk_memory.proofs.WaitingRuns.{left-there, waits-coded, waits-there}
use Rattle.ckr_desk_memory.proofs.jobs.Jobs.settled.Goals as goal
use Rattle.ckr_desk_memory.proofs.jobs.Jobs.settled.Goals.{In-None}

pub coded-requires-clause-there : goal.coded-requires-clause-there
coded-requires-clause-there c =
    left-there c.args.self.now c.args.job c.in-Some.table.now c.in-Some.ensures.some c.requires.jobs.placed c.requires.left (sym c.if-is_marked.ensures)

pub coded-requires-clause-counted : goal.coded-requires-clause-counted
coded-requires-clause-counted c = counted-all c.args.layout.now c.args.self.now.running c.requires.jobs.running

pub returns-then-is_marked-clause-plan : goal.returns-then-is_marked-clause-plan
unfolding jobs_of
returns-then-is_marked-clause-plan c = λ row at on.
    let jobs = c.args.self.now in
    let table = c.in-Some.table.now in
    let known = c.in-Some.ensures.some in
    c.coded.ensures.plan
    ∙ code-known c.args.layout.now jobs c.args.job table known c.args.initiator true system_failure row at on refl
    ∙ sym (run-failed c.args.layout.now (jobs_of jobs) row c.args.fail (sym (marked-at jobs c.args.job table known row at) ∙ sym c.if-is_marked.ensures))

pub awaiting-requires-clause-code : goal.awaiting-requires-clause-code
awaiting-requires-clause-code c =
    waits-coded c.args.self.now c.args.job c.args.layout.now c.requires.jobs.running c.in-Some-waiting_code.code (sym c.in-Some-waiting_code.ensures)

pub awaiting-requires-clause-there : goal.awaiting-requires-clause-there
awaiting-requires-clause-there c =
    waits-there c.args.self.now c.args.job c.in-Some.table.now c.in-Some.ensures.some c.requires.jobs.placed c.requires.left c.requires.own.running c.in-Some-waiting_code.code (sym c.in-Some-waiting_code.ensures)

pub awaiting-requires-clause-counted : goal.awaiting-requires-clause-counted
awaiting-requires-clause-counted c = counted-all c.args.layout.now c.args.self.now.running c.requires.jobs.running

pub returns-in-Some-waiting_code-clause-plan : goal.returns-in-Some-waiting_code-clause-plan
returns-in-Some-waiting_code-clause-plan c = λ row at on.
    let jobs = c.args.self.now in
    let table = c.in-Some.table.now in
    let known = c.in-Some.ensures.some in
    c.awaiting.ensures.plan row at on
    ∙ sym (run-waiting c.args.layout.now (jobs_of jobs) row c.args.fail c.in-Some-waiting_code.code (sym (marked-at jobs c.args.job table known row at) ∙ sym c.if-is_marked.ensures)
    (sym (waiting-at jobs c.args.job table known row at) ∙ sym c.in-Some-waiting_code.ensures))

pub returns-in-Some-fail-clause-plan : goal.returns-in-Some-fail-clause-plan
returns-in-Some-fail-clause-plan c = λ row at on.
    let jobs = c.args.self.now in
    let table = c.in-Some.table.now in
    let known = c.in-Some.ensures.some in
    c.failing.ensures.plan row at on
    ∙ sym (run-other c.args.layout.now (jobs_of jobs) row c.args.fail (sym (marked-at jobs c.args.job table known row at) ∙ sym c.if-is_marked.ensures)
    (sym (waiting-at jobs c.args.job table known row at) ∙ sym c.in_default-waiting_code.ensures)
    ∙ ap (fail_plan c.args.layout.now (jobs_of jobs) row) c.in-Some-fail.is)

-- the run is to start no step, and neither failed nor waits
none-next : (c : In-None) → (row : RunRow) → run_of c.args.self.now.tables.desk c.args.job ≡ Some row → next_step false None None (place_of row) ≡ None
none-next c row at =
    let jobs = c.args.self.now in
    let table = c.in-Some.table.now in
    let known = c.in-Some.ensures.some in
    sym (next-is (is_failed (jobs_of jobs) row.number) (waiting_code (jobs_of jobs) row.number) c.args.fail (place_of row) (place_of row)
    (sym (marked-at jobs c.args.job table known row at) ∙ sym c.if-is_marked.ensures)
    (ap is_some (sym (waiting-at jobs c.args.job table known row at) ∙ sym c.in_default-waiting_code.ensures))
    (ap is_some c.in-None.is) refl)
    ∙ c.requires.next row at

pub within-requires-clause-there : goal.within-requires-clause-there
within-requires-clause-there c =
    let known = c.in-Some.ensures.some in
    known-there c.args.self.now.tables.desk c.args.job c.in-Some.table.now known c.requires.jobs.placed (none-next c known.row known.found)

pub within-requires-clause-counted : goal.within-requires-clause-counted
within-requires-clause-counted c = counted-all c.args.layout.now c.args.self.now.running c.requires.jobs.running

pub within-requires-clause-waits : goal.within-requires-clause-waits
within-requires-clause-waits c = sym c.in_default-waiting_code.ensures

pub returns-in-None-clause-plan : goal.returns-in-None-clause-plan
returns-in-None-clause-plan c = λ row at on.
    let layout = c.args.layout.now in
    let jobs = jobs_of c.args.self.now in
    let table = c.in-Some.table.now in
    let known = c.in-Some.ensures.some in
    let before = (goal.at.returns-in-None-clause-plan c).In-None in
    c.within.ensures.plan
    ∙ sym (run-other layout jobs row c.args.fail (sym (marked-at c.args.self.now c.args.job table known row at) ∙ sym c.if-is_marked.ensures)
    (sym (waiting-at c.args.self.now c.args.job table known row at) ∙ sym c.in_default-waiting_code.ensures)
    ∙ ap (fail_plan layout jobs row) c.in-None.is
    ∙ placed-within layout jobs row (place_of row) (none-next before row at)
    ∙ known-by c.args.self.now.tables.desk c.args.job table known (λ r. option_map_or (running_plan r (step_in (place_of r))) (running_in jobs r.number) (Rest Idle)) refl row at)
