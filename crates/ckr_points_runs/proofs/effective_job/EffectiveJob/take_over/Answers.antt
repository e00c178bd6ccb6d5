use Rattle.std.proofs.Common.{◌≤◌, IsSome, length, slice_get, ap, sym, ◌∙◌, subst, arith}
use Rattle.std.specs.Option.{option_map}
use Rattle.ckr_meaning.specs.EffectiveJob.{owned_by}
use Rattle.ckr_points_runs.specs.RunJobs.{JobView}
use Rattle.ckr_points_runs.proofs.RunJobs.{step-later, step-taken, unmapped-some}
use Rattle.ckr_points_runs.proofs.effective_job.EffectiveJob.take_over.Goals as goal

pub returns-then-place-count : goal.returns-then-place-count
returns-then-place-count c = λ own there.
    c.push_taken.ensures own
    (ap (λ (job : JobView). slice_get job.taken c.args.place) c.self.view_is
    ∙ step-taken c.args.run c.args.self.now c.args.place (omega (arith, c.if-place-count.true, c.count.ensures, ap (λ (job : JobView). length job.taken) c.self.view_is)) ∙ there)

pub push-requires : goal.push-requires
push-requires c =
    let job = c.args.self.now in
    let place = c.args.place in
    let beyond : length job.taken ≤ place = omega (arith, c.if-place-count.false, c.count.ensures, ap (λ (one : JobView). length one.taken) c.self.view_is) in
    let there : IsSome (slice_get job.deck.steps place) = unmapped-some (owned_by c.args.run job.deck) _ (subst IsSome (sym (step-later c.args.run job place beyond)) c.requires.there) in
    record { there = subst IsSome (ap (λ (one : JobView). slice_get one.deck.steps place) (sym c.self.view_is) ∙ ap (λ n. slice_get (c.self.inside.deck.value).steps n) (sym c.requires.next)) there }

pub returns-else-place-count : goal.returns-else-place-count
returns-else-place-count c = λ own there.
    let job = c.args.self.now in
    let place = c.args.place in
    let beyond : length job.taken ≤ place = omega (arith, c.if-place-count.false, c.count.ensures, ap (λ (one : JobView). length one.taken) c.self.view_is) in
    c.push.ensures.ok own
    (ap (λ n. option_map (owned_by c.args.run (c.self.inside.deck.value)) (slice_get (c.self.inside.deck.value).steps n)) c.requires.next
    ∙ ap (λ (one : JobView). option_map (owned_by c.args.run one.deck) (slice_get one.deck.steps place)) c.self.view_is
    ∙ step-later c.args.run job place beyond ∙ there)
