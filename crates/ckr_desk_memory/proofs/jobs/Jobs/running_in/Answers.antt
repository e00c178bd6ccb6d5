use Rattle.std.proofs.Common.{◌==◌, find, ap, sym, ◌∙◌, refl}
use Rattle.std.specs.Option.{option_map}
use Rattle.ckr_desk_memory.specs.Parts.{step_seen}
use Rattle.ckr_desk_memory.specs.View.{RunningStepView}
use Rattle.ckr_desk_plans.specs.declared.running_step.RunningStep.{RunningStep}
use Rattle.ckr_desk_memory.proofs.FoundRuns.{find-map}
use Rattle.ckr_desk_memory.proofs.jobs.Jobs.running_in.Goals as goal

pub returns : goal.returns
returns c =
    ap (option_map step_seen) (c.first_on.ensures ∙ ap (find (λ (on : RunningStep). on.run == c.args.run)) c.as_slice.ensures.value)
    ∙ sym (find-map step_seen (λ (on : RunningStep). on.run == c.args.run) (λ (on : RunningStepView). on.run == c.args.run) (λ on. refl) c.self.inside.running.items)
    ∙ ap (λ v. find (λ (on : RunningStepView). on.run == c.args.run) v.running) c.self.view_is
