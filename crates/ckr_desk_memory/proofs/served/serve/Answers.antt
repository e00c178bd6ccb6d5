use Rattle.std.proofs.Common.{map, sym, ◌∙◌}
use Rattle.ckr_desk_memory.specs.EventChanges.{is_of_run}
use Rattle.ckr_desk_memory.specs.Parts.{step_seen}
use Rattle.ckr_desk_memory.specs.Plans.{HasCounts}
use Rattle.ckr_desk_memory.proofs.FoundRuns.{find-is}
use Rattle.ckr_desk_memory.proofs.RunningSteps.Served.{served-none, without-none}
use Rattle.ckr_desk_memory.proofs.served.serve.Goals as goal

pub served-requires-clause-counted : goal.served-requires-clause-counted
served-requires-clause-counted c = (find-is HasCounts (is_of_run c.args.run) (map step_seen c.args.running.now.items) (step_seen c.in-Some.on) c.requires.counted (sym c.in-Some.ensures.step)).holds

pub returns-in_default : goal.returns-in_default
returns-in_default c =
    c.take_first.ensures.others
    ∙ without-none c.args.run (map step_seen c.args.running.now.items) (sym c.in_default.ensures.step)
    ∙ served-none c.args.run (map step_seen c.args.running.now.items) (sym c.in_default.ensures.step)
