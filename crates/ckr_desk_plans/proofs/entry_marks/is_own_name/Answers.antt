use Rattle.std.proofs.Common.{◌≡◌, ◌<◌, ◌-◌, ◌||◌, pred, drop, ap, sym, ◌∙◌, subst, arith}
use Rattle.std.proofs.lemmas.List.{drop_all}
use Rattle.ckr_base.proofs.Numbers.{plus-minus, suc-minus}
use Rattle.ckr_meaning.specs.EffectiveJob.{is_among, names_of_steps, step_at}
use Rattle.ckr_points_tables.specs.RunJobs.{effective, names_in}
use Rattle.ckr_points_tables.proofs.MadeNames.{among-both}
use Rattle.ckr_desk_plans.proofs.EntryPoints.{names-before}
use Rattle.ckr_desk_plans.proofs.entry_marks.is_own_name.Goals as goal
use Rattle.ckr_desk_plans.proofs.entry_marks.is_own_name.Goals.{After-has_name_at}

-- the step of the number, and those behind it
next-is : (c : After-has_name_at) → (let behind = c.args.behind.now in let job = effective behind.on.now.run behind.table.now.job in
    is_among (names_of_steps job.root (drop (c.loop-step.step - 1) job.steps)) c.args.name.now ≡ (c.has_name_at.result || is_among (names_of_steps job.root (drop c.loop-step.step job.steps)) c.args.name.now))
next-is c =
    let behind = c.args.behind.now in
    let job = effective behind.on.now.run behind.table.now.job in
    let step = c.loop-step.step in
    ap (λ names. is_among names c.args.name.now) (names-before job step c.loop-step.invariant.first)
    ∙ among-both (names_in job.root (step_at job step)) (names_of_steps job.root (drop step job.steps)) c.args.name.now
    ∙ ap (λ b. b || is_among (names_of_steps job.root (drop step job.steps)) c.args.name.now) (sym c.has_name_at.ensures)

pub loop-step-init : goal.loop-step-init
loop-step-init c =
    let behind = c.args.behind.now in
    let job = effective behind.on.now.run behind.table.now.job in
    let from = behind.table.now.job.earlier_step in
    record {
      first = subst (λ n. 0 < n) (sym c.first_own-step.ensures) (omega arith);
      same = ap (λ n. is_among (names_of_steps job.root (drop (n - 1) job.steps)) c.args.name.now) c.first_own-step.ensures
          ∙ ap (λ n. is_among (names_of_steps job.root (drop n job.steps)) c.args.name.now) (suc-minus (pred from));
    }

pub loop-step-preserved : goal.loop-step-preserved
loop-step-preserved c =
    let behind = c.args.behind.now in
    let job = effective behind.on.now.run behind.table.now.job in
    let step = c.loop-step.step in
    let rest = is_among (names_of_steps job.root (drop step job.steps)) c.args.name.now in
    record {
      first = omega arith;
      same = ap (λ n. is_among (names_of_steps job.root (drop n job.steps)) c.args.name.now) (plus-minus step) ∙ ap (λ b. b || rest) (sym c.if-has_name_at.false) ∙ sym (next-is c.before) ∙ c.loop-step.invariant.same;
    }

pub returns-then-has_name_at : goal.returns-then-has_name_at
returns-then-has_name_at c =
    let behind = c.args.behind.now in
    let job = effective behind.on.now.run behind.table.now.job in
    let rest = is_among (names_of_steps job.root (drop c.loop-step.step job.steps)) c.args.name.now in
    ap (λ b. b || rest) (sym c.if-has_name_at.true) ∙ sym (next-is c.before) ∙ c.loop-step.invariant.same

pub returns : goal.returns
returns c =
    let behind = c.args.behind.now in
    let job = effective behind.on.now.run behind.table.now.job in
    ap (λ some. is_among (names_of_steps job.root some) c.args.name.now) (sym (drop_all (c.loop-step.step - 1) job.steps (omega (arith, c.loop-step-test.false, c.requires.fits.few))))
    ∙ c.loop-step.invariant.same
