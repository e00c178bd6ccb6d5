use Rattle.std.proofs.Common.{rules, refl, List, ◌≡◌, ℕ, ◌+◌, IsSome, length, slice_get, ap, sym, ◌∙◌, subst, arith, ◌++◌, ◌∷◌, []}
use Rattle.std.specs.Option.{option_map}
use Rattle.std.specs.Rc.{rc_value}
use Rattle.ckr_jcl.specs.declared.deck.Job.{Job}
use Rattle.ckr_meaning.specs.EffectiveJob.{OwnedStep, owned_by}
use Rattle.ckr_points_runs.specs.RunJobs.{AreTaken, taken_at, taken_from}
use Rattle.ckr_points_runs.specs.declared.taken_step.TakenStep.{TakenStep}
use Rattle.ckr_points_runs.proofs.RunJobs.{mapped-some, taken-length, taken-more, taken-push}
use Rattle.ckr_points_runs.proofs.taken_step.TakenSteps.push.Goals as goal

taken : (owner : ℕ) (deck : Job) (one : TakenStep) → rc_value one.deck ≡ deck → one.owner ≡ owner → (steps : List OwnedStep) (items : List TakenStep) → AreTaken 0 items → taken_from 0 items ≡ steps
    → option_map (owned_by owner deck) (slice_get deck.steps (length steps)) ≡ taken_at (0 + length items) one
taken owner deck one same owned steps items are is =
    ap (λ (d : Job). option_map (owned_by owner d) (slice_get d.steps (length steps))) (sym same)
    ∙ ap (λ n. option_map (owned_by n (rc_value one.deck)) (slice_get (rc_value one.deck).steps (length steps))) (sym owned)
    ∙ ap (λ n. taken_at n one) (omega (arith, taken-length 0 items are, ap length is))

pub invariant_of-self-2 : goal.invariant_of-self-2
invariant_of-self-2 c =
    let one : TakenStep = record { deck = c.in_ok-deck.deck; owner = c.args.owner } in
    let same : rc_value c.in_ok-deck.deck ≡ rc_value c.args.deck.now = search rules in
    subst (AreTaken 0) (sym c.in_ok-push.ensures.items)
    (taken-more 0 c.self.inside.items.items c.self.invariant one
    (subst IsSome (taken c.args.owner (rc_value c.args.deck.now) one same refl c.args.self.now c.self.inside.items.items c.self.invariant c.self.view_is)
    (mapped-some (owned_by c.args.owner (rc_value c.args.deck.now)) _ c.requires.there)))

pub returns-clause-ok : goal.returns-clause-ok
returns-clause-ok c = λ own there.
    let one : TakenStep = record { deck = c.in_ok-deck.deck; owner = c.args.owner } in
    let same : rc_value c.in_ok-deck.deck ≡ rc_value c.args.deck.now = search rules in
    ap (taken_from 0) c.in_ok-push.ensures.items
    ∙ taken-push 0 c.self.inside.items.items one own (sym (taken c.args.owner (rc_value c.args.deck.now) one same refl c.args.self.now c.self.inside.items.items c.self.invariant c.self.view_is) ∙ there)
    ∙ ap (λ steps. steps ++ own ∷ []) c.self.view_is
