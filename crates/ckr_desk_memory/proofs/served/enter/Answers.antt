use Rattle.std.proofs.Common.{map, sym, ◌∙◌}
use Rattle.ckr_desk_memory.specs.EventChanges.{is_of_run}
use Rattle.ckr_desk_memory.specs.Parts.{step_seen}
use Rattle.ckr_desk_memory.specs.Plans.{HasCounts}
use Rattle.ckr_desk_memory.proofs.FoundRuns.{find-is}
use Rattle.ckr_desk_memory.proofs.RunningSteps.Entries.{entered-none}
use Rattle.ckr_desk_memory.proofs.RunningSteps.Served.{without-none}
use Rattle.ckr_desk_memory.proofs.served.enter.Goals as goal

pub enter_step-requires : goal.enter_step-requires
enter_step-requires c = (find-is HasCounts (is_of_run c.args.run) (map step_seen c.args.running.now.items) (step_seen c.in-Some.on) c.requires.counted (sym c.in-Some.ensures.step)).holds

pub returns-in_default : goal.returns-in_default
returns-in_default c =
    let old = map step_seen c.args.running.now.items in
    entered-none c.args.run c.args.check.now c.args.length old (map step_seen c.take_first.new.running.items) (sym c.in_default.ensures.step)
    (c.take_first.ensures.others ∙ without-none c.args.run old (sym c.in_default.ensures.step))
