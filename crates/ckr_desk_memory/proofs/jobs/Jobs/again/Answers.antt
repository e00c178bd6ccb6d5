use Rattle.std.proofs.Common.{find, ap, ◌∙◌}
use Rattle.ckr_points.specs.Restart.{step_in}
use Rattle.ckr_desk_memory.specs.EventChanges.{is_point_of}
use Rattle.ckr_desk_memory.proofs.Starts.Steps.{no-again-run, ok-again}
use Rattle.ckr_desk_memory.proofs.jobs.Jobs.again.Goals as goal

pub returns-in-Some-clause-step : goal.returns-in-Some-clause-step
returns-in-Some-clause-step c =
    ok-again c.args.self.now.tables.desk c.args.job c.in-Some.table.now c.in-Some.ensures.some c.step_in.result (find (is_point_of c.args.job) c.args.self.now.points) c.taken.result
    (λ run. c.step_in.ensures ∙ ap step_in (c.place_of.ensures run)) c.taken.ensures.step

pub returns-in-None-clause-step : goal.returns-in-None-clause-step
returns-in-None-clause-step c = no-again-run c.args.self.now.tables.desk c.args.job (find (is_point_of c.args.job) c.args.self.now.points) c.in-None.ensures.none
