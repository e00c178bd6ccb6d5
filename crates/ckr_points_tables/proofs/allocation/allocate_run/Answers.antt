use Rattle.std.proofs.Common.{sym, subst}
use Rattle.std.specs.Bool.{IsTrue}
use Rattle.ckr_uses.specs.Uses.{are_distinct}
use Rattle.ckr_meaning.specs.EffectiveJob.{OwnedStep, names_of}
use Rattle.ckr_points_tables.specs.Allocation.{HasFitting}
use Rattle.ckr_points_runs.specs.RunJobs.{effective, own_of}
use Rattle.ckr_points_runs.proofs.RunJobs.{step-all}
use Rattle.ckr_points_tables.proofs.allocation.allocate_run.Goals as goal

pub allocate_own-requires-clause-dds : goal.allocate_own-requires-clause-dds
allocate_own-requires-clause-dds c = subst (λ root. HasFitting root (own_of c.in-Some.own)) (sym c.root.ensures) (c.requires.dds (own_of c.in-Some.own) (sym c.in-Some.ensures.step))

pub allocate_own-requires-clause-names : goal.allocate_own-requires-clause-names
allocate_own-requires-clause-names c =
    subst (λ root. IsTrue (are_distinct (names_of root (own_of c.in-Some.own)))) (sym c.root.ensures)
    (step-all (λ (own : OwnedStep). are_distinct (names_of c.args.table.now.job.root own)) (effective c.args.run c.args.table.now.job) c.args.number
    (own_of c.in-Some.own) c.requires.distinct (sym c.in-Some.ensures.step))
