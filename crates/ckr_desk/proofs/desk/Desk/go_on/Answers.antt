use Rattle.std.proofs.Common.{◌∙◌, arith, subst}
use Rattle.ckr_desk_refines.specs.Memory.OwnSteps.{PlanCommits, PlanFollows, PlanLeaves}
use Rattle.ckr_desk.proofs.Layouts.{kept-waiting}
use Rattle.ckr_desk.proofs.Turns.Stops.{rewritten-left, rewritten-opens, told-left}
use Rattle.ckr_desk.proofs.desk.Desk.go_on.Goals as goal

pub enter-requires-clause-follows : goal.enter-requires-clause-follows
enter-requires-clause-follows g c κs within = subst (PlanFollows c.args.self.now.store.layout c.args.self.now.jobs.tables.desk) c.in-Tell.is c.requires.follows

pub enter-requires-clause-commits : goal.enter-requires-clause-commits
enter-requires-clause-commits g c κs within = subst (PlanCommits c.args.self.now.jobs.tables.desk c.args.self.now.jobs.running) c.in-Tell.is c.requires.commits

pub enter-requires-clause-leaves : goal.enter-requires-clause-leaves
enter-requires-clause-leaves g c κs within = subst (PlanLeaves c.args.self.now.jobs.failed) c.in-Tell.is c.requires.leaves

pub returns-in_err-enter-in-Tell-clause-left : goal.returns-in_err-enter-in-Tell-clause-left
returns-in_err-enter-in-Tell-clause-left g c =
    let d = g.D.Disk in
    rw c.in-Tell.is
    (λ told.
    told-left d.told d.content d.may_leave d.moment d.left_since d.size c.in-Tell.event c.args.self.now c.enter.new.self.store.disk
    c.enter.ensures.left)

pub returns-in_err-rewrite-in-Tell-clause-left : goal.returns-in_err-rewrite-in-Tell-clause-left
returns-in_err-rewrite-in-Tell-clause-left g c =
    let d = g.D.Disk in
    rw c.in-Tell.is
    (λ told.
    rewritten-left d.told d.content d.may_leave d.moment d.left_since d.size c.in-Tell.event c.args.self.now c.enter.new.self c.rewrite.new.self.store.disk
    c.in_ok-enter-in-Tell.ensures.ok c.enter.ensures.size (c.in_ok-enter-in-Tell.ensures.told told) (c.in_ok-enter-in-Tell.ensures.records told) c.enter.ensures.left
    (c.rewrite.ensures.left c.in_ok-enter-in-Tell.ensures.settled))

pub returns-in_ok-rewrite-in-Tell-clause-left : goal.returns-in_ok-rewrite-in-Tell-clause-left
returns-in_ok-rewrite-in-Tell-clause-left g c =
    let d = g.D.Disk in
    rw c.in-Tell.is
    (λ told.
    rewritten-left d.told d.content d.may_leave d.moment d.left_since d.size c.in-Tell.event c.args.self.now c.enter.new.self c.rewrite.new.self.store.disk
    c.in_ok-enter-in-Tell.ensures.ok c.enter.ensures.size (c.in_ok-enter-in-Tell.ensures.told told) (c.in_ok-enter-in-Tell.ensures.records told) c.enter.ensures.left
    (c.rewrite.ensures.left c.in_ok-enter-in-Tell.ensures.settled))

pub returns-in_ok-rewrite-in-Tell-clause-opens : goal.returns-in_ok-rewrite-in-Tell-clause-opens
returns-in_ok-rewrite-in-Tell-clause-opens g c =
    let d = g.D.Disk in
    let laws = g.met.D.Disk g.world.𝓛 g.world.𝓜 g.world.𝓡 ((λ s x. x), (λ x. x), (λ x. x), λ x. x) in
    let disk = c.rewrite.new.self.store.disk in
    rw c.in-Tell.is
    (λ told.
    rewritten-opens d.told d.content d.may_leave d.moment d.left_since d.size c.in-Tell.event c.args.self.now c.enter.new.self c.rewrite.new.self c.enter.ensures.layout (c.in_ok-enter-in-Tell.ensures.told told)
    (c.rewrite.ensures.left c.in_ok-enter-in-Tell.ensures.settled) (laws.counts_now disk)
    (λ image may. laws.sized disk (d.moment disk) image (laws.counts_now disk (d.moment disk) image (omega arith) may) ∙ c.rewrite.ensures.size))

pub invariant_of-self : goal.invariant_of-self
invariant_of-self g c =
    let kept = c.self.invariant.jobs in
    record {
      jobs =
          kept-waiting c.self.inside.store.layout c.self.inside.jobs c.wait.new.self c.wait.ensures.tables (c.wait.ensures.jobs c.self.inside.store.layout kept.are) (c.wait.ensures.own kept.own) (c.wait.ensures.left kept.left) kept;
      store = c.self.invariant.store;
    }

pub invariant_of-self-in-Wait-2 : goal.invariant_of-self-in-Wait-2
invariant_of-self-in-Wait-2 g c =
    let kept = c.self.invariant.jobs in
    record {
      jobs =
          kept-waiting c.self.inside.store.layout c.self.inside.jobs c.wait.new.self c.wait.ensures.tables (c.wait.ensures.jobs c.self.inside.store.layout kept.are) (c.wait.ensures.own kept.own) (c.wait.ensures.left kept.left) kept;
      store = c.self.invariant.store;
    }

pub invariant_of-self-in-Wait-3 : goal.invariant_of-self-in-Wait-3
invariant_of-self-in-Wait-3 g c =
    let kept = c.self.invariant.jobs in
    record {
      jobs =
          kept-waiting c.self.inside.store.layout c.self.inside.jobs c.wait.new.self c.wait.ensures.tables (c.wait.ensures.jobs c.self.inside.store.layout kept.are) (c.wait.ensures.own kept.own) (c.wait.ensures.left kept.left) kept;
      store = c.self.invariant.store;
    }
