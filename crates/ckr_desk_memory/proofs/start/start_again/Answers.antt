use Rattle.std.proofs.Common.{map, not, ap, sym, ◌∙◌}
use Rattle.ckr_points.specs.Restart.{place_of, step_in}
use Rattle.ckr_points.specs.Rows.{step_of_run}
use Rattle.ckr_desk_memory.specs.Parts.{step_seen}
use Rattle.ckr_desk_memory.specs.RunningSteps.{may_go_back}
use Rattle.ckr_desk_memory.proofs.Invariant.{seen-without}
use Rattle.ckr_desk_memory.proofs.Starts.NewStep.{again-left, again-none, again-some, is-there, isnt-there}
use Rattle.ckr_desk_memory.proofs.start.start_again.Goals as goal

pub returns-then-is_none : goal.returns-then-is_none
returns-then-is_none c = λ point has.
    again-none c.args.tables.now.desk c.args.job (map step_seen c.args.running.now.items) _ point c.args.again.now (c.is_none.ensures ∙ ap not c.if-is_none.true) has
    (ap (map step_seen) c.leave.ensures.items ∙ seen-without c.args.job c.args.running.now.items)

pub returns-in-None : goal.returns-in-None
returns-in-None c = λ point has.
    again-left c.args.tables.now.desk c.args.job (map step_seen c.args.running.now.items) _ point c.args.again.now has
    (ap (map step_seen) c.leave-in-None.ensures.items ∙ seen-without c.args.job c.args.running.now.items)
    (λ row owned at found. isnt-there (may_go_back c.args.tables.now.desk owned row) (step_in (place_of row)) (sym c.in-None.is ∙ c.step_there.ensures row owned at found))

pub returns-in-Some : goal.returns-in-Some
returns-in-Some c = λ point has.
    again-some c.args.tables.now.desk c.args.job (map step_seen c.args.running.now.items) _ point c.args.again.now (c.is_none.ensures ∙ ap not c.if-is_none.false) has
    (λ on row owned given at found.
    let there = is-there (may_go_back c.args.tables.now.desk owned row) (step_in (place_of row)) c.in-Some.step (sym c.in-Some.is ∙ c.step_there.ensures row owned at found) in
    (there.0, c.start_step.ensures on row owned given at (ap (step_of_run row) there.1 ∙ found)))
