use Rattle.std.proofs.Common.{◌≡◌, ℕ, ◌+◌, Some, slice_get, ap, sym, ◌∙◌, arith}
use Rattle.std.specs.Option.{option_map}
use Rattle.ckr_jcl.specs.declared.deck.Job.{Job}
use Rattle.ckr_meaning.specs.EffectiveJob.{owned_by}
use Rattle.ckr_points_runs.proofs.RunJobs.{taken-get, taken-none}
use Rattle.ckr_points_runs.specs.RunJobs.{taken_at}
use Rattle.ckr_points_runs.proofs.taken_step.TakenSteps.step_in.Goals as goal

from_zero : (n : ℕ) → n ≡ 0 + n
from_zero n = omega arith

pub returns-in-Some : goal.returns-in-Some
returns-in-Some c =
    let items = c.self.inside.items.items in
    let there : slice_get items c.args.place ≡ Some c.in-Some.taken.now = ap (λ all. slice_get all c.args.place) (sym c.as_slice.ensures.value) ∙ sym c.in-Some.ensures in
    c.step_of.ensures
    ∙ ap (λ (deck : Job). option_map (owned_by c.in-Some.taken.now.owner deck) (slice_get deck.steps c.args.place)) c.as_ref.ensures
    ∙ ap (λ n. taken_at n c.in-Some.taken.now) (from_zero c.args.place)
    ∙ taken-get 0 items c.self.invariant c.args.place c.in-Some.taken.now there
    ∙ ap (λ v. slice_get v c.args.place) c.self.view_is

pub returns-in-None : goal.returns-in-None
returns-in-None c =
    let items = c.self.inside.items.items in
    taken-none 0 items c.self.invariant c.args.place (ap (λ all. slice_get all c.args.place) (sym c.as_slice.ensures.value) ∙ sym c.in-None.ensures)
    ∙ ap (λ v. slice_get v c.args.place) c.self.view_is
