use Rattle.std.proofs.Common.{◌<◌, ap, length, get_or, map, remove, Some, subst, sym, ◌∙◌}
use Rattle.std.specs.List.{position}
use Rattle.ckr_base.proofs.Sequences.{position-none, position-some}
use Rattle.ckr_desk_memory.specs.Parts.{step_seen}
use Rattle.ckr_desk_plans.specs.declared.running_step.RunningStep.{RunningStep}
use Rattle.ckr_desk_memory.proofs.RunningSteps.First.{first-found, first-gone, none-found, none-gone, of_run}
use Rattle.ckr_desk_memory.proofs.unit_step.take_first.Goals as goal

pub returns-in-Some-clause-step : goal.returns-in-Some-clause-step
returns-in-Some-clause-step c =
    let there = position-some (of_run c.args.run) c.args.running.now.items c.in-Some.place (sym c.in-Some.is ∙ c.place_of.ensures ∙ ap (position (of_run c.args.run)) c.as_slice.ensures.value) in
    ap (λ (on : RunningStep). Some (step_seen on)) (c.remove.ensures.value ∙ ap (λ i. get_or c.args.running.now.items i c.remove.result) there.0)
    ∙ sym (first-found c.args.run c.args.running.now.items c.remove.result (subst (λ i. i < length c.args.running.now.items) there.0 there.1))

pub returns-in-Some-clause-others : goal.returns-in-Some-clause-others
returns-in-Some-clause-others c =
    let there = position-some (of_run c.args.run) c.args.running.now.items c.in-Some.place (sym c.in-Some.is ∙ c.place_of.ensures ∙ ap (position (of_run c.args.run)) c.as_slice.ensures.value) in
    ap (map step_seen) (c.remove.ensures.items ∙ ap (remove c.args.running.now.items) there.0)
    ∙ first-gone c.args.run c.args.running.now.items (subst (λ i. i < length c.args.running.now.items) there.0 there.1)

pub returns-in-None-clause-step : goal.returns-in-None-clause-step
returns-in-None-clause-step c =
    sym (none-found c.args.run c.args.running.now.items (position-none (of_run c.args.run) c.args.running.now.items (sym c.in-None.is ∙ c.place_of.ensures ∙ ap (position (of_run c.args.run)) c.as_slice.ensures.value)))

pub returns-in-None-clause-others : goal.returns-in-None-clause-others
returns-in-None-clause-others c =
    none-gone c.args.run c.args.running.now.items (position-none (of_run c.args.run) c.args.running.now.items (sym c.in-None.is ∙ c.place_of.ensures ∙ ap (position (of_run c.args.run)) c.as_slice.ensures.value))
