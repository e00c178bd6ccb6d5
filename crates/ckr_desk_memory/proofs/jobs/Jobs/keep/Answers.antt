use Rattle.std.proofs.Common.{◌≡◌, true, List, ap, ◌∙◌, map, refl, sym, subst}
use Rattle.std.specs.Option.{option_map}
use Rattle.std.specs.Rc.{rc_value}
use Rattle.std.specs.List.{AllByRecursion}
use Rattle.ckr_desk_memory.specs.RunningSteps.{GoesOn, MayRun}
use Rattle.ckr_desk_memory.specs.EventChanges.{points_behind}
use Rattle.ckr_desk_memory.specs.Invariant.{AreJobs}
use Rattle.ckr_desk_memory.specs.Parts.{IsPointCounted, step_seen}
use Rattle.ckr_desk_plans.specs.declared.running_step.RunningStep.{RunningStep}
use Rattle.ckr_points.specs.Follows.{follows}
use Rattle.ckr_points.specs.Restart.{after_event}
use Rattle.ckr_points.specs.Rows.{TablesModel}
use Rattle.ckr_volumes.specs.declared.layout.Layout.{Layout}
use Rattle.ckr_desk_memory.specs.Plans.{HasCounts}
use Rattle.ckr_desk_memory.specs.Rewrite.{HasRecordPlace}
use Rattle.ckr_desk_memory.specs.View.{JobsView, RunningStepView}
use Rattle.ckr_desk_turn.specs.Desk.{failed_behind}
use Rattle.ckr_desk_memory.proofs.AcceptedDecks.{may-continue}
use Rattle.ckr_desk_memory.proofs.Holders.LeftRuns.{left-behind}
use Rattle.ckr_desk_memory.proofs.Holders.OwnSteps.{own-behind}
use Rattle.ckr_desk_memory.proofs.Rewrites.{place-behind}
use Rattle.ckr_desk_memory.proofs.RunningSteps.Events.{jobs-behind, may-run, started-behind}
use Rattle.ckr_desk_memory.proofs.RunningSteps.Served.{counted-all}
use Rattle.ckr_desk_memory.proofs.Points.{counted-behind}
use Rattle.ckr_desk_memory.proofs.jobs.Jobs.keep.Goals as goal
use Rattle.ckr_desk_memory.proofs.jobs.Jobs.keep.Goals.{After-keep_running}

pub go_on-requires-clause-follows : goal.go_on-requires-clause-follows
go_on-requires-clause-follows c = (c.requires.follows.0, c.requires.follows.2)

pub go_on-requires-clause-continues : goal.go_on-requires-clause-continues
go_on-requires-clause-continues c = may-continue c.args.event.now c.args.self.now.tables.desk c.requires.follows.1.rows

pub keep_running-requires-clause-may : goal.keep_running-requires-clause-may
keep_running-requires-clause-may c =
    subst (λ (j : JobsView). MayRun c.args.event.now j.tables.desk c.args.prepared.step j.running_room) (sym c.self.view_is)
    (subst (MayRun c.args.event.now c.go_on.new.self.tables.desk c.args.prepared.step) (sym c.go_on.ensures.room)
    (may-run c.requires.follows.0 c.args.self.now c.args.event.now (option_map rc_value c.args.deck) c.args.prepared.step c.go_on.new.self.tables.desk c.go_on.ensures.numbered c.go_on.ensures.few c.requires.follows.1
    c.requires.follows.2 c.requires.prepared.started c.go_on.ensures.tables))

pub keep_running-requires-clause-counted : goal.keep_running-requires-clause-counted
keep_running-requires-clause-counted c =
    subst (AllByRecursion HasCounts) (sym (ap (λ (j : JobsView). j.running) c.self.view_is ∙ c.go_on.ensures.running))
    (counted-all c.requires.follows.0 c.args.self.now.running c.requires.follows.1.running)

-- the running steps and the jobs behind the event
abbrev running_after : After-keep_running → List RunningStepView
running_after c = map step_seen c.keep_running.new.running.items

desk_is : (c : After-keep_running) → c.self.inside.tables.desk ≡ after_event c.args.event.now (option_map rc_value c.args.deck) c.args.self.now.tables.desk
desk_is c = ap (λ (j : JobsView). j.tables.desk) c.self.view_is ∙ c.go_on.ensures.tables

goes-on : (c : After-keep_running) → GoesOn c.args.event.now c.self.inside.tables.desk c.args.self.now.points c.args.self.now.running (running_after c)
goes-on c =
    subst (λ (on : List RunningStepView). GoesOn c.args.event.now c.self.inside.tables.desk c.args.self.now.points on (running_after c))
    (ap (λ (j : JobsView). j.running) c.self.view_is ∙ c.go_on.ensures.running)
    (c.keep_running.ensures c.args.self.now.points
    (started-behind c.requires.follows.0 c.args.self.now c.args.event.now (option_map rc_value c.args.deck) c.args.prepared.step c.self.inside.tables.desk c.go_on.ensures.numbered c.requires.follows.1 c.requires.follows.2
    c.requires.prepared.started (desk_is c)))

jobs-after : (c : After-keep_running) (layout : Layout) (new : JobsView) → new.tables.desk ≡ c.self.inside.tables.desk → new.running ≡ running_after c → AreJobs layout c.args.self.now
    → follows layout c.args.self.now.tables.desk c.args.event.now (option_map rc_value c.args.deck) ≡ true → AreJobs layout new
jobs-after c layout new desk running are follow =
    jobs-behind layout c.args.self.now new c.args.event.now (option_map rc_value c.args.deck) c.args.prepared.step c.go_on.ensures.numbered c.requires.accepted follow c.requires.prepared.started
    (desk ∙ desk_is c)
    (subst (λ (t : TablesModel). GoesOn c.args.event.now t c.args.self.now.points c.args.self.now.running new.running) (sym desk)
    (subst (GoesOn c.args.event.now c.self.inside.tables.desk c.args.self.now.points c.args.self.now.running) (sym running) (goes-on c))) are

counted-after : (c : After-keep_running) → AllByRecursion HasCounts (running_after c)
counted-after c =
    let new : JobsView = record c.args.self.now { tables = c.self.inside.tables; running = running_after c } in
    counted-all c.requires.follows.0 (running_after c) (jobs-after c c.requires.follows.0 new refl refl c.requires.follows.1 c.requires.follows.2).running

pub keep_points-requires-clause-counted : goal.keep_points-requires-clause-counted
keep_points-requires-clause-counted c =
    subst (λ (items : List RunningStep). AllByRecursion HasCounts (map step_seen items)) (sym c.as_slice.ensures.value) (counted-after (goal.at.keep_points-requires-clause-counted c).After-keep_running)

pub invariant_of-self : goal.invariant_of-self
invariant_of-self c = record {
  queued = c.self.invariant.queued;
  counted =
      subst (AllByRecursion IsPointCounted)
      (sym (c.keep_points.ensures ∙ ap (λ (items : List RunningStep). points_behind c.args.event.now (map step_seen items) c.self.inside.points.items) c.as_slice.ensures.value))
      (counted-behind c.args.event.now (map step_seen c.keep_running.new.running.items) c.self.inside.points.items (counted-after (goal.at.invariant_of-self c).After-keep_running) c.self.invariant.counted);
}

pub returns-clause-running : goal.returns-clause-running
returns-clause-running c = goes-on (goal.at.returns-clause-running c).After-keep_running

pub returns-clause-place : goal.returns-clause-place
returns-clause-place c =
    let are = c.requires.follows.1 in
    subst (HasRecordPlace c.args.event.now) (sym (ap (λ (j : JobsView). j.tables.desk) c.self.view_is ∙ c.go_on.ensures.tables))
    (place-behind c.requires.follows.0 c.args.self.now.tables.desk c.go_on.ensures.numbered are.rows are.laid c.args.event.now (option_map rc_value c.args.deck) c.requires.follows.2)

pub returns-clause-jobs : goal.returns-clause-jobs
returns-clause-jobs c = λ layout are follow. jobs-after (goal.at.returns-clause-jobs c).After-keep_running layout _ refl refl are follow

pub returns-clause-own : goal.returns-clause-own
returns-clause-own c = λ layout are.
    own-behind layout c.args.self.now _ c.args.event.now (option_map rc_value c.args.deck) are.rows c.go_on.ensures.numbered are.placed c.requires.accepted c.requires.deck
    (desk_is (goal.at.returns-clause-own c).After-keep_running) (goes-on (goal.at.returns-clause-own c).After-keep_running)
    (c.keep_points.ensures ∙ ap (λ (items : List RunningStep). points_behind c.args.event.now (map step_seen items) c.self.inside.points.items) c.as_slice.ensures.value
    ∙ ap (points_behind c.args.event.now (map step_seen c.keep_running.new.running.items)) (ap (λ (j : JobsView). j.points) c.self.view_is ∙ c.go_on.ensures.points))

pub returns-clause-left : goal.returns-clause-left
returns-clause-left c = λ layout are.
    left-behind layout c.args.self.now _ _ c.args.event.now (option_map rc_value c.args.deck) are c.go_on.ensures.numbered
    (ap (λ (j : JobsView). j.tables.desk) c.self.view_is ∙ c.go_on.ensures.tables)
    (c.keep_failed.ensures ∙ ap (failed_behind c.args.event.now) (ap (λ (j : JobsView). j.failed) c.self.view_is ∙ c.go_on.ensures.failed))
