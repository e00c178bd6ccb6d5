use Rattle.std.proofs.Common.{◌≡◌, ℕ, ◌+◌, IsSome, Some, length, slice_get, ap, sym, ◌∙◌, subst, arith}
use Rattle.std.specs.Rc.{rc_value}
use Rattle.ckr_base.proofs.Options.{some-not-none}
use Rattle.ckr_meaning.specs.EffectiveJob.{owned_by}
use Rattle.ckr_points_runs.specs.RunJobs.{taken_at}
use Rattle.ckr_points_runs.proofs.RunJobs.{taken-get, taken-none, taken-some, unmapped-some}
use Rattle.ckr_points_runs.proofs.taken_step.TakenSteps.push_taken.Goals as goal

from_zero : (n m : ℕ) → m ≡ n → n ≡ 0 + m
from_zero n m is = omega (arith, is)

pub push-requires : goal.push-requires
push-requires c =
    let items = c.other.inside.items.items in
    let one = c.in-Some.taken.now in
    let there : slice_get items c.args.place ≡ Some one = ap (λ all. slice_get all c.args.place) (sym c.as_slice.ensures.value) ∙ sym c.in-Some.ensures in
    record { there = unmapped-some (owned_by one.owner (rc_value one.deck)) _ (subst (λ n. IsSome (taken_at n one)) (sym (from_zero (length c.args.self.now) c.args.place (sym c.requires.next))) (taken-some 0 items c.other.invariant c.args.place one there)) }

pub returns-in-Some : goal.returns-in-Some
returns-in-Some c = λ own found.
    let items = c.other.inside.items.items in
    let one = c.in-Some.taken.now in
    let there : slice_get items c.args.place ≡ Some one = ap (λ all. slice_get all c.args.place) (sym c.as_slice.ensures.value) ∙ sym c.in-Some.ensures in
    c.push.ensures.ok own
    (ap (λ n. taken_at n one) (from_zero (length c.args.self.now) c.args.place (sym c.requires.next))
    ∙ taken-get 0 items c.other.invariant c.args.place one there
    ∙ ap (λ steps. slice_get steps c.args.place) c.other.view_is
    ∙ found)

pub returns-in-None : goal.returns-in-None
returns-in-None c = λ own found.
    let items = c.other.inside.items.items in
    absurd (some-not-none own (sym (taken-none 0 items c.other.invariant c.args.place (ap (λ all. slice_get all c.args.place) (sym c.as_slice.ensures.value) ∙ sym c.in-None.ensures)
    ∙ ap (λ steps. slice_get steps c.args.place) c.other.view_is
    ∙ found)))
