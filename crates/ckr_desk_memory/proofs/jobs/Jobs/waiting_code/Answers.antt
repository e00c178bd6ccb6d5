use Rattle.std.proofs.Common.{◌≡◌, ◌==◌, ◌&&◌, ap, sym, ◌∙◌}
use Rattle.std.specs.List.{list_any}
use Rattle.ckr_desk_turn.specs.Jobs.{is_asked}
use Rattle.ckr_desk_turn.specs.declared.failed_run.FailedRun.{FailedRun}
use Rattle.ckr_desk_memory.specs.Parts.{step_seen}
use Rattle.ckr_desk_memory.specs.View.{jobs_of}
use Rattle.ckr_desk_memory.proofs.WaitingRuns.{waits-asked, waits-none, waits-on}
use Rattle.ckr_desk_memory.proofs.jobs.Jobs.waiting_code.Goals as goal
use Rattle.ckr_desk_memory.proofs.jobs.Jobs.waiting_code.Goals.{After-is_asked_in}

asked : (c : After-is_asked_in) → c.is_asked_in.result ≡ is_asked (jobs_of c.args.self.now) c.args.run
unfolding jobs_of
asked c =
    c.is_asked_in.ensures
    ∙ ap (list_any (λ (one : FailedRun). one.run == c.args.run && one.asked)) c.as_slice.ensures.value
    ∙ ap (λ v. list_any (λ (one : FailedRun). one.run == c.args.run && one.asked) v.failed) c.self.view_is

pub returns-then-is_asked_in : goal.returns-then-is_asked_in
returns-then-is_asked_in c =
    let before = (goal.at.returns-then-is_asked_in c).After-is_asked_in in
    sym (waits-asked c.args.self.now c.args.run (sym (asked before) ∙ c.if-is_asked_in.true))

pub returns-in-Some : goal.returns-in-Some
returns-in-Some c =
    let before = (goal.at.returns-in-Some c).After-is_asked_in in
    sym (waits-on c.args.self.now c.args.run (sym (asked before) ∙ c.if-is_asked_in.false) (step_seen c.in-Some.on.now) c.in-Some.ensures)

pub returns-in-None : goal.returns-in-None
returns-in-None c =
    let before = (goal.at.returns-in-None c).After-is_asked_in in
    sym (waits-none c.args.self.now c.args.run (sym (asked before) ∙ c.if-is_asked_in.false) c.in-None.ensures)
