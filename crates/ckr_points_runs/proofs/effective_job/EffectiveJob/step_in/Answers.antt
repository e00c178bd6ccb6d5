use Rattle.std.proofs.Common.{◌≡◌, slice_get, length, ap, ◌∙◌, arith}
use Rattle.std.specs.Option.{option_map}
use Rattle.ckr_jcl.specs.declared.deck.Job.{Job}
use Rattle.ckr_meaning.specs.EffectiveJob.{owned_by}
use Rattle.ckr_points_runs.proofs.RunJobs.{found-fits, step-later, step-taken}
use Rattle.ckr_points_runs.specs.RunJobs.{JobView, effective, own_of}
use Rattle.ckr_points_runs.proofs.effective_job.EffectiveJob.step_in.Goals as goal
use Rattle.ckr_points_runs.proofs.effective_job.EffectiveJob.step_in.Goals.{After-step_of, After-step_in}

taken-is : (c : After-step_in) → option_map own_of c.step_in.result ≡ slice_get (effective c.args.run c.args.self.now).steps c.args.place
taken-is c = c.step_in.ensures ∙ ap (λ (job : JobView). slice_get job.taken c.args.place) c.self.view_is ∙ step-taken c.args.run c.args.self.now c.args.place (omega (arith, c.if-place-count.true, c.count.ensures, ap (λ (job : JobView). length job.taken) c.self.view_is))

later-is : (c : After-step_of) → option_map own_of c.step_of.result ≡ slice_get (effective c.args.run c.args.self.now).steps c.args.place
later-is c =
    c.step_of.ensures ∙ ap (λ (deck : Job). option_map (owned_by c.args.run deck) (slice_get deck.steps c.args.place)) c.deck.ensures
    ∙ step-later c.args.run c.args.self.now c.args.place (omega (arith, c.if-place-count.false, c.count.ensures, ap (λ (job : JobView). length job.taken) c.self.view_is))

pub returns-then-place-count-clause-step : goal.returns-then-place-count-clause-step
returns-then-place-count-clause-step c = taken-is c

pub returns-else-place-count-clause-step : goal.returns-else-place-count-clause-step
returns-else-place-count-clause-step c = later-is c

pub returns-then-place-count-clause-fitting : goal.returns-then-place-count-clause-fitting
returns-then-place-count-clause-fitting c = λ fits. found-fits (effective c.args.run c.args.self.now) c.args.place c.step_in.result (taken-is c) fits

pub returns-else-place-count-clause-fitting : goal.returns-else-place-count-clause-fitting
returns-else-place-count-clause-fitting c = λ fits. found-fits (effective c.args.run c.args.self.now) c.args.place c.step_of.result (later-is c) fits
