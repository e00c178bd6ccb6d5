use Rattle.std.proofs.Common.{ap, sym, ◌∙◌, subst}
use Rattle.ckr_base.proofs.Options.{is_some-true}
use Rattle.ckr_events.specs.declared.event.Event.TheVariants.{Started as StartedEvent, Ended as EndedEvent}
use Rattle.ckr_events.specs.declared.event.Ending.TheVariants.{Completed as CompletedEnding}
use Rattle.ckr_library.specs.NameMaps.{EachEntry}
use Rattle.ckr_points.specs.Rows.{TableSet, TablesModel, run_of, step_of_run}
use Rattle.ckr_points_tables.specs.Allocation.{IsAllocation, MayAllocate, allocation_in}
use Rattle.ckr_desk_turn.specs.declared.plan.Plan.TheVariants.{Tell}
use Rattle.ckr_points.specs.declared.reply.How.TheVariants.{Completed}
use Rattle.ckr_points.specs.declared.reply.Reply.TheVariants.{JobEnded, Started}
use Rattle.ckr_desk_turn.specs.Queue.{AreNumbered}
use Rattle.ckr_desk_turn.proofs.Queue.Events.{run_number}
use Rattle.ckr_volumes.specs.Layouts.{StandsIn}
use Rattle.ckr_desk_memory.specs.View.{jobs_of}
use Rattle.ckr_desk_memory.proofs.Plans.{between-ended, between-refused, between-started, between-needs, if-needs, may-allocate, named-step, no-step, refused-there}
use Rattle.ckr_desk_memory.proofs.jobs.Jobs.between.Goals as goal

pub returns-in_default-clause-plan : goal.returns-in_default-clause-plan
returns-in_default-clause-plan c = λ row at.
    let desk = ap (λ v. v.tables.desk) c.self.view_is in
    let number = run_number c.args.self.now.tables.desk c.args.job row (subst (λ tables. AreNumbered 1 tables.runs) desk c.self.invariant.queued.numbered) at in
    ap (Tell (JobEnded c.args.job Completed)) c.completed_event.ensures.event
    ∙ ap (λ n. Tell (JobEnded n Completed) (EndedEvent n CompletedEnding)) (sym number)
    ∙ sym (between-ended c.args.layout.now (jobs_of c.args.self.now) row c.args.number (no-step (step_of_run row c.args.number) (c.in_default.ensures.name row at)))

pub allocate-requires-clause-stand : goal.allocate-requires-clause-stand
allocate-requires-clause-stand c =
    subst (λ (tables : TablesModel). EachEntry (λ (table : TableSet). StandsIn c.args.layout.now table.set) tables.sets) (sym (ap (λ v. v.tables.desk) c.self.view_is)) c.requires.jobs.laid.stand

pub allocate-requires-clause-dds : goal.allocate-requires-clause-dds
allocate-requires-clause-dds c =
    subst (MayAllocate c.args.job c.args.number) (sym (ap (λ v. v.tables.desk) c.self.view_is)) (may-allocate c.args.self.now.tables.desk c.requires.jobs.rows c.args.job c.args.number)

pub returns-in-Ok-clause-plan : goal.returns-in-Ok-clause-plan
unfolding jobs_of
returns-in-Ok-clause-plan c = λ row at.
    let desk = ap (λ v. v.tables.desk) c.self.view_is in
    let number = run_number c.args.self.now.tables.desk c.args.job row (subst (λ tables. AreNumbered 1 tables.runs) desk c.self.invariant.queued.numbered) at in
    let own = named-step (step_of_run row c.args.number) c.in-Some.name (c.in-Some.ensures.name row at) in
    let is = c.in_ok-made.ensures.allocated row own.0 (ap (λ tables. run_of tables c.args.job) desk ∙ at) own.1 in
    let here = subst (λ found. IsAllocation (allocation_in c.args.layout.now row own.0 c.args.number c.args.self.now.tables.desk) found) c.in-Ok.is
    (subst (λ tables. IsAllocation (allocation_in c.args.layout.now row own.0 c.args.number tables) c.in_ok-made.field-0) desk is) in
    ap (Tell (Started c.args.job c.in-Some.name)) c.started_event.ensures.event
    ∙ ap (λ n. Tell (Started n c.in-Some.name) (StartedEvent n c.args.number c.in-Ok.made)) (sym number)
    ∙ ap (λ name. Tell (Started row.number name) (StartedEvent row.number c.args.number c.in-Ok.made)) own.2
    ∙ sym (between-started c.args.layout.now (jobs_of c.args.self.now) row c.args.number own.0 c.in-Ok.made own.1 here)

pub returns-in-Err-clause-plan : goal.returns-in-Err-clause-plan
unfolding jobs_of
returns-in-Err-clause-plan c = λ row at.
    let desk = ap (λ v. v.tables.desk) c.self.view_is in
    let number = run_number c.args.self.now.tables.desk c.args.job row (subst (λ tables. AreNumbered 1 tables.runs) desk c.self.invariant.queued.numbered) at in
    let own = named-step (step_of_run row c.args.number) c.in-Some.name (c.in-Some.ensures.name row at) in
    let is = c.in_ok-made.ensures.allocated row own.0 (ap (λ tables. run_of tables c.args.job) desk ∙ at) own.1 in
    let here = subst (λ found. IsAllocation (allocation_in c.args.layout.now row own.0 c.args.number c.args.self.now.tables.desk) found) c.in-Err.is
    (subst (λ tables. IsAllocation (allocation_in c.args.layout.now row own.0 c.args.number tables) c.in_ok-made.field-0) desk is) in
    c.refused.ensures.plan row own.0 (ap (λ tables. run_of tables c.args.job) (c.in_ok-made.ensures.desk ∙ desk) ∙ at) own.1 number own.2
    ∙ sym (between-refused c.args.layout.now (jobs_of c.args.self.now) row c.args.number own.0 c.in-Err.refusal own.1 here)

pub refused-requires-clause-dd : goal.refused-requires-clause-dd
refused-requires-clause-dd c =
    is_some-true (run_of c.args.self.now.tables.desk c.args.job) c.in-Some.ensures.run
    (λ row at.
    let desk = ap (λ v. v.tables.desk) c.self.view_is in
    let own = named-step (step_of_run row c.args.number) c.in-Some.name (c.in-Some.ensures.name row at) in
    let is = c.in_ok-made.ensures.allocated row own.0 (ap (λ tables. run_of tables c.args.job) desk ∙ at) own.1 in
    let here = subst (λ found. IsAllocation (allocation_in c.args.layout.now row own.0 c.args.number c.args.self.now.tables.desk) found) c.in-Err.is
    (subst (λ tables. IsAllocation (allocation_in c.args.layout.now row own.0 c.args.number tables) c.in_ok-made.field-0) desk is) in
    record {
      row = row;
      own = own.0;
      found = ap (λ tables. run_of tables c.args.job) (c.in_ok-made.ensures.desk ∙ desk) ∙ at;
      step_is = own.1;
      there = refused-there c.args.layout.now row own.0 c.args.number c.args.self.now.tables.desk c.in-Err.refusal here;
    })

pub returns-in_err-made-clause-takes : goal.returns-in_err-made-clause-takes
returns-in_err-made-clause-takes c row = if-needs c.from_residual.result _ (between-needs c.args.layout.now (jobs_of c.args.self.now) row c.args.number)
