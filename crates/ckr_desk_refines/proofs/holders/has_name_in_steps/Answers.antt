use Rattle.std.proofs.Common.{◌≡◌, ◌-◌, ◌||◌, drop, ap, sym, ◌∙◌, arith}
use Rattle.std.proofs.lemmas.List.{drop_all}
use Rattle.std.proofs.lemmas.List.Folds.{list_any-append}
use Rattle.ckr_base.proofs.Numbers.{plus-minus}
use Rattle.ckr_desk_memory.proofs.EntryPoints.{names-before}
use Rattle.ckr_desk_memory.specs.Model.RunJobs.{effective, names_in}
use Rattle.ckr_library.specs.NameMaps.{same_name}
use Rattle.ckr_meaning.specs.EffectiveJob.{is_among, names_of_steps, step_at}
use Rattle.ckr_desk_refines.specs.Holders.{as_submitted}
use Rattle.ckr_desk_refines.proofs.Listing.HeldNames.{submitted-few}
use Rattle.ckr_desk_refines.proofs.holders.has_name_in_steps.Goals as goal
use Rattle.ckr_desk_refines.proofs.holders.has_name_in_steps.Goals.{After-has_name_at}

-- the step of the number, and those behind it
next-is : (c : After-has_name_at) → (let job = as_submitted c.args.job.now.deck (effective c.args.run c.args.job.now) in
    is_among (names_of_steps job.root (drop (c.loop-number.number - 1) job.steps)) c.args.name.now ≡ (c.has_name_at.result || is_among (names_of_steps job.root (drop c.loop-number.number job.steps)) c.args.name.now))
next-is c =
    let job = as_submitted c.args.job.now.deck (effective c.args.run c.args.job.now) in
    let number = c.loop-number.number in
    ap (λ names. is_among names c.args.name.now) (names-before job number c.loop-number.invariant.first)
    ∙ list_any-append (same_name c.args.name.now) (names_in job.root (step_at job number)) (names_of_steps job.root (drop number job.steps))
    ∙ ap (λ b. b || is_among (names_of_steps job.root (drop number job.steps)) c.args.name.now) (sym c.has_name_at.ensures)

pub loop-number-preserved : goal.loop-number-preserved
loop-number-preserved c =
    let job = as_submitted c.args.job.now.deck (effective c.args.run c.args.job.now) in
    let number = c.loop-number.number in
    let rest = is_among (names_of_steps job.root (drop number job.steps)) c.args.name.now in
    record {
      first = omega arith;
      same = ap (λ n. is_among (names_of_steps job.root (drop n job.steps)) c.args.name.now) (plus-minus number) ∙ ap (λ b. b || rest) (sym c.if-has_name_at.false) ∙ sym (next-is c.before) ∙ c.loop-number.invariant.same;
    }

pub returns-then-has_name_at : goal.returns-then-has_name_at
returns-then-has_name_at c =
    let job = as_submitted c.args.job.now.deck (effective c.args.run c.args.job.now) in
    let rest = is_among (names_of_steps job.root (drop c.loop-number.number job.steps)) c.args.name.now in
    ap (λ b. b || rest) (sym c.if-has_name_at.true) ∙ sym (next-is c.before) ∙ c.loop-number.invariant.same

pub returns : goal.returns
returns c =
    let its = effective c.args.run c.args.job.now in
    let job = as_submitted c.args.job.now.deck its in
    let few = submitted-few c.args.job.now.deck its 64 c.requires.few in
    ap (λ some. is_among (names_of_steps job.root some) c.args.name.now) (sym (drop_all (c.loop-number.number - 1) job.steps (omega (arith, c.loop-number-test.false, few))))
    ∙ c.loop-number.invariant.same
