use Rattle.std.proofs.Common.{◌≤◌, ap, sym, ◌∙◌, subst}
use Rattle.ckr_base.proofs.Numbers.{nat_le-true}
use Rattle.ckr_meaning.specs.EffectiveJob.{is_among, names_of}
use Rattle.ckr_points_tables.specs.RunJobs.{effective, own_of}
use Rattle.ckr_desk_plans.proofs.EntryPoints.{names-own}
use Rattle.ckr_desk_plans.proofs.entry_marks.mark_step_at.Goals as goal

pub mark_step-requires-clause-known : goal.mark_step-requires-clause-known
mark_step-requires-clause-known c = λ known name among.
    let behind = c.args.behind.now in
    names-own (effective behind.on.now.run behind.table.now.job) behind.table.now.job.earlier_step c.args.step (own_of c.in-Some.own) name
    (subst (λ n. n ≤ c.args.step) c.first_own.ensures (nat_le-true c.first_own.result c.args.step known)) (sym c.in-Some.ensures.step)
    (ap (λ root. is_among (names_of root (own_of c.in-Some.own)) name) (sym c.root.ensures) ∙ among)
