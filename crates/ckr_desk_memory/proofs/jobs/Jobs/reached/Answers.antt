use Rattle.std.proofs.Common.{◌==◌, ap, sym, ◌∙◌}
use Rattle.ckr_base.proofs.Numbers.{equal-true}
use Rattle.ckr_points.specs.Payload.{writes_in}
use Rattle.ckr_points.specs.Rows.{holding_of}
use Rattle.ckr_points_tables.specs.View.{seen_by}
use Rattle.ckr_desk_memory.specs.Parts.{step_seen}
use Rattle.ckr_desk_memory.specs.Plans.{reached_seen, HasCounts}
use Rattle.ckr_desk_memory.specs.View.{RunningStepView}
use Rattle.ckr_desk_memory.proofs.FoundRuns.{find-is, reached-kept, reached-running}
use Rattle.ckr_desk_memory.proofs.jobs.Jobs.reached.Goals as goal

pub progress-requires : goal.progress-requires
progress-requires c =
    (find-is HasCounts (λ (on : RunningStepView). on.run == c.args.run) c.args.self.now.running (step_seen c.in-Some.on.now) c.requires.counted (sym c.in-Some.ensures)).holds

pub returns-in-Some-clause-reached : goal.returns-in-Some-clause-reached
returns-in-Some-clause-reached c =
    let on = step_seen c.in-Some.on.now in
    let is = find-is HasCounts (λ (on : RunningStepView). on.run == c.args.run) c.args.self.now.running on c.requires.counted (sym c.in-Some.ensures) in
    reached-running c.args.self.now c.args.run c.args.table.now c.requires.known on (equal-true on.run c.args.run is.passes) c.in-Some.ensures
    (reached_seen (record { writes = c.progress.result.writes; lengths = c.lengths_of.result })) c.progress.ensures.writes c.lengths_of.ensures.lengths

pub returns-in-None-clause-reached : goal.returns-in-None-clause-reached
returns-in-None-clause-reached c =
    reached-kept c.args.self.now c.args.run c.args.table.now c.requires.known c.library.result.now.sets (c.library.ensures.sets ∙ ap (λ v. seen_by holding_of v.tables.desk.sets) c.self.view_is) c.in-None.ensures
    (reached_seen (record { writes = c.writes_in.result; lengths = c.lengths_of-in-None.result })) (c.writes_in.ensures ∙ ap writes_in (c.place_of.ensures c.args.run)) c.lengths_of-in-None.ensures.lengths
