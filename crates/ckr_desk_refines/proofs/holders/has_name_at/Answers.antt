use Rattle.std.proofs.Common.{◌-◌, ◌∙◌, ap, [], sym, ℕ, Option}
use Rattle.std.specs.Prelude.{slice_get}
use Rattle.ckr_desk_memory.specs.Model.RunJobs.{effective, names_in, own_of}
use Rattle.ckr_jcl.specs.declared.deck.Job.{Job}
use Rattle.ckr_meaning.specs.EffectiveJob.{OwnedStep, is_among, names_of}
use Rattle.ckr_points_library.specs.Holdings.{owned}
use Rattle.ckr_desk_refines.proofs.Listing.HeldNames.{submitted-at, submitted-no-own, submitted-no-step}
use Rattle.ckr_desk_refines.proofs.holders.has_name_at.Goals as goal

pub returns-in_default : goal.returns-in_default
returns-in_default c =
    let job = c.args.job.now in
    ap (λ (found : Option OwnedStep). is_among (names_in job.root found) c.args.name.now)
    (sym (submitted-no-step job.deck (effective c.args.run job) c.args.number c.requires.first (sym (c.in_default.ensures {u = tt} ∙ ap (λ (deck : Job). slice_get deck.steps (c.args.number - 1)) c.deck.ensures))))

pub returns-in-Some-step_at : goal.returns-in-Some-step_at
returns-in-Some-step_at c =
    let name = c.args.name.now in
    let job = c.args.job.now in
    let step = c.in-Some.step.now in
    let own : OwnedStep = own_of c.in-Some-step_at.own in
    let said : OwnedStep = record own { step = step } in
    c.has_name.ensures
    ∙ ap (λ (root : ℕ). is_among (names_of root (owned step own.owner [])) name) c.root.ensures
    ∙ ap (λ (found : Option OwnedStep). is_among (names_in job.root found) name)
    (sym (
    submitted-at job.deck (effective c.args.run job) c.args.number step own c.requires.first (sym (c.in-Some.ensures ∙ ap (λ (deck : Job). slice_get deck.steps (c.args.number - 1)) c.deck.ensures))
    (sym c.in-Some-step_at.ensures.step)))

pub returns-in-None : goal.returns-in-None
returns-in-None c =
    let job = c.args.job.now in
    ap (λ (found : Option OwnedStep). is_among (names_in job.root found) c.args.name.now)
    (sym (submitted-no-own job.deck (effective c.args.run job) c.args.number (sym c.in-None.ensures.step)))
