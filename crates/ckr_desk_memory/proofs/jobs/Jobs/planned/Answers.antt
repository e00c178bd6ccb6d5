use Rattle.std.proofs.Common.{IfErr, ap, sym, ◌∙◌, subst}
use Rattle.std.specs.Option.{option_map_or}
use Rattle.std.proofs.lemmas.Result.{IfOk-weaker}
use Rattle.ckr_points_tables.specs.View.{run_on}
use Rattle.ckr_desk_turn.specs.declared.plan.Plan.{Plan}
use Rattle.ckr_desk_turn.specs.Plans.{free_plan, plan_of, run_plan}
use Rattle.ckr_desk_memory.specs.Plans.{NeedsRoom}
use Rattle.ckr_desk_turn.specs.Queue.{AreNumbered}
use Rattle.ckr_desk_memory.specs.View.{jobs_of}
use Rattle.ckr_desk_memory.proofs.Plans.{on-its, on-none, on-run}
use Rattle.ckr_desk_memory.proofs.jobs.Jobs.planned.Goals as goal

pub returns-in-Some-clause-numbered : goal.returns-in-Some-clause-numbered
returns-in-Some-clause-numbered c = subst (λ tables. AreNumbered 1 tables.runs) (ap (λ v. v.tables.desk) c.self.view_is) c.self.invariant.queued.numbered

pub returns-in-None-clause-numbered : goal.returns-in-None-clause-numbered
returns-in-None-clause-numbered c = subst (λ tables. AreNumbered 1 tables.runs) (ap (λ v. v.tables.desk) c.self.view_is) c.self.invariant.queued.numbered

pub returns-in-Some-clause-plan : goal.returns-in-Some-clause-plan
unfolding plan_of jobs_of
returns-in-Some-clause-plan c =
    let layout = c.args.layout.now in
    let jobs = jobs_of c.args.self.now in
    let desk = ap (λ v. v.tables.desk) c.self.view_is in
    let numbered = subst (λ tables. AreNumbered 1 tables.runs) desk c.self.invariant.queued.numbered in
    let one = on-run c.args.self.now.tables.desk numbered c.args.turn.initiator c.in-Some.job (c.in-Some.ensures ∙ ap (run_on c.args.turn.initiator) desk) in
    IfOk-weaker c.run_plan.result _ _
    (λ plan is. is ∙ sym (ap (λ found. option_map_or (run_plan layout jobs c.args.turn.fail) found (free_plan layout jobs c.args.turn.initiator c.args.turn.fail)) one.1))
    (c.run_plan.ensures.plan one.0 one.2 (on-its c.args.self.now.tables.desk c.args.turn.initiator one.0 one.1))

pub returns-in-Some-clause-takes : goal.returns-in-Some-clause-takes
unfolding plan_of jobs_of
returns-in-Some-clause-takes c =
    let layout = c.args.layout.now in
    let jobs = jobs_of c.args.self.now in
    let desk = ap (λ v. v.tables.desk) c.self.view_is in
    let numbered = subst (λ tables. AreNumbered 1 tables.runs) desk c.self.invariant.queued.numbered in
    let one = on-run c.args.self.now.tables.desk numbered c.args.turn.initiator c.in-Some.job (c.in-Some.ensures ∙ ap (run_on c.args.turn.initiator) desk) in
    subst (λ (plan : Plan). IfErr c.run_plan.result (λ _. NeedsRoom plan))
    (sym (ap (λ found. option_map_or (run_plan layout jobs c.args.turn.fail) found (free_plan layout jobs c.args.turn.initiator c.args.turn.fail)) one.1))
    (c.run_plan.ensures.takes one.0 one.2)

pub returns-in-None-clause-plan : goal.returns-in-None-clause-plan
unfolding plan_of jobs_of
returns-in-None-clause-plan c =
    let layout = c.args.layout.now in
    let jobs = jobs_of c.args.self.now in
    let desk = ap (λ v. v.tables.desk) c.self.view_is in
    let none = on-none c.args.self.now.tables.desk c.args.turn.initiator (c.in-None.ensures ∙ ap (run_on c.args.turn.initiator) desk) in
    c.free_plan.ensures.plan
    ∙ sym (ap (λ found. option_map_or (run_plan layout jobs c.args.turn.fail) found (free_plan layout jobs c.args.turn.initiator c.args.turn.fail)) none)
