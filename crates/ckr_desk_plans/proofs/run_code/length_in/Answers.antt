use Rattle.std.proofs.Common.{ap, sym, ◌∙◌}
use Rattle.ckr_desk_plans.specs.Extents.{sets_of}
use Rattle.ckr_desk_plans.specs.StepView.{length_in}
use Rattle.ckr_desk_plans.proofs.run_code.length_in.Goals as goal

pub returns-in-Entered : goal.returns-in-Entered
returns-in-Entered c = c.length_with.ensures c.in-Entered._set.now ∙ sym (ap (λ extents. length_in (sets_of extents) c.args.name.now) c.in-Entered.is)
