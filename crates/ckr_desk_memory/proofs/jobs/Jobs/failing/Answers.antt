use Rattle.std.proofs.Common.{ap, sym, ◌∙◌, inl, inr, refl, false, None}
use Rattle.ckr_points.specs.Restart.{place_of}
use Rattle.ckr_desk_turn.specs.Plans.{is_within}
use Rattle.ckr_desk_memory.specs.Plans.{next_step}
use Rattle.ckr_desk_memory.specs.View.{jobs_of}
use Rattle.ckr_desk_memory.proofs.FoundRuns.{known-by, known-is}
use Rattle.ckr_desk_memory.proofs.Plans.{code-known, fail-between, fail-within, known-there}
use Rattle.ckr_desk_memory.proofs.RunningSteps.Served.{counted-all}
use Rattle.ckr_desk_memory.proofs.jobs.Jobs.failing.Goals as goal

pub coded-requires-clause-there : goal.coded-requires-clause-there
coded-requires-clause-there c =
    let tables = c.args.self.now.tables.desk in
    known-there tables c.args.job c.args.table.now c.requires.known c.requires.jobs.placed
    (ap (next_step false None None) (known-is tables c.args.job c.args.table.now c.requires.known place_of refl ∙ sym (c.in-Within.ensures c.args.job)))

pub coded-requires-clause-counted : goal.coded-requires-clause-counted
coded-requires-clause-counted c = counted-all c.args.layout.now c.args.self.now.running c.requires.jobs.running

pub returns-in-Within-clause-plan : goal.returns-in-Within-clause-plan
unfolding jobs_of
returns-in-Within-clause-plan c = λ row at on.
    let layout = c.args.layout.now in
    let jobs = c.args.self.now in
    let within = known-by jobs.tables.desk c.args.job c.args.table.now c.requires.known place_of refl row at ∙ sym (c.in-Within.ensures c.args.job) in
    c.coded.ensures.plan
    ∙ sym (fail-within layout (jobs_of jobs) row c.args.code (ap is_within within)
    ∙ sym (code-known layout jobs c.args.job c.args.table.now c.requires.known c.args.seat.initiator c.args.seat.lodged c.args.code row at on c.requires.lodged))

pub returns-in-Before : goal.returns-in-Before
returns-in-Before c = record {
  plan = λ row at on.
      let placed = known-by c.args.self.now.tables.desk c.args.job c.args.table.now c.requires.known place_of refl row at ∙ sym (c.place_of.ensures c.args.job) in
      sym (fail-between c.args.layout.now (jobs_of c.args.self.now) row c.args.code
      (elim c.in-Before.is [
        | inl place ↦ ap is_within (placed ∙ place.1)
        | inr place ↦ ap is_within (placed ∙ place.1)
      ]));
  spelled = tt;
}
