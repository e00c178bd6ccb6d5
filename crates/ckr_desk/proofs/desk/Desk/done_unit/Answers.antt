use Rattle.std.proofs.Common.{◌≡◌, List, [], ◌∷◌, None, ap, inr, sym, subst, ◌∙◌}
use Rattle.std.specs.List.{AllByRecursion}
use Rattle.std.specs.Option.{option_map}
use Rattle.ckr_base.proofs.Numbers.{equal-true}
use Rattle.ckr_base.proofs.Sequences.{find-passes}
use Rattle.ckr_desk_refines.proofs.Memory.Units.{running-unit}
use Rattle.ckr_desk_refines.specs.Memory.EventChanges.{is_of_run}
use Rattle.ckr_desk_refines.specs.Memory.OwnSets.{IsRunningOf}
use Rattle.ckr_desk_refines.specs.Memory.OwnSteps.{IsOfOther, PlanCommits, PlanIsOf}
use Rattle.ckr_desk_refines.specs.Memory.Parts.{step_seen}
use Rattle.ckr_desk_refines.specs.Memory.Plans.{behind_unit}
use Rattle.ckr_desk_refines.specs.Memory.View.{RunningStepView}
use Rattle.ckr_outside.specs.Moments.{both_since, in_other_words}
use Rattle.ckr_steps.specs.StepUnit.{HasWorkedOut}
use Rattle.ckr_steps.specs.Writes.{StemsKeeping}
use Rattle.ckr_volumes.specs.declared.layout.Layout.{Layout}
use Rattle.ckr_points.specs.Rows.{TablesModel}
use Rattle.ckr_desk_refines.specs.Tables.View.{RoomyTables}
use Rattle.ckr_desk.specs.State.{AreKept, DeskView}
use Rattle.ckr_desk.specs.Rewrite.{OpensSame}
use Rattle.ckr_desk.specs.Units.{IsLeftByUnit, IsToldOf}
use Rattle.ckr_desk.specs.Preparation.{IsWorkedOut}
use Rattle.ckr_desk.proofs.Layouts.{kept-moved}
use Rattle.ckr_desk.proofs.Units.Preparation.{same-on, told-moved}
use Rattle.ckr_desk.proofs.Units.Readiness.{commits-beside}
use Rattle.ckr_desk.proofs.desk.Desk.done_unit.Goals as goal

pub do_unit-requires-clause-runnable : goal.do_unit-requires-clause-runnable
do_unit-requires-clause-runnable g c κs within = c.in-Some.ensures.runnable c.self.inside.store.layout c.self.invariant.jobs.are

pub do_unit-requires-clause-unit : goal.do_unit-requires-clause-unit
do_unit-requires-clause-unit g c κs within =
    let d = g.D.Disk in
    let old : DeskView g.row.D.Denot = record { store = c.self.inside.store; jobs = c.self.inside.jobs; machine_room = c.self.inside.machine_room } in
    let unit = c.args.unit in
    let of = subst (λ (s : DeskView g.row.D.Denot). IsWorkedOut d.told d.content c.args.run s unit) (sym c.self.view_is) c.requires.unit in
    subst (λ (on : RunningStepView). HasWorkedOut d.told (d.content old.store.disk) old.store.layout on.step on.sets unit)
    (same-on d.told d.content c.args.run old unit of (step_seen c.in-Some.on) (sym c.take_step.ensures.step ∙ ap (option_map step_seen) c.in-Some.is)) of.out

pub invariant_of-self : goal.invariant_of-self
invariant_of-self g c =
    let layout = c.self.inside.store.layout in
    let kept = c.self.invariant.jobs in
    record {
      jobs =
          subst (λ (l : Layout). AreKept l c.take_step.new.self) (sym c.do_unit.ensures.layout)
          (kept-moved layout c.self.inside.jobs c.take_step.new.self (ap (λ (t : RoomyTables). t.desk) c.take_step.ensures.tables) c.take_step.ensures.failed
          (c.take_step.ensures.jobs layout kept.are) (c.take_step.ensures.own kept.own) kept);
      store = c.do_unit.ensures.sound;
    }

pub returns-in_err-do_unit-clause-left : goal.returns-in_err-do_unit-clause-left
returns-in_err-do_unit-clause-left g c =
    let d = g.D.Disk in
    let old : DeskView g.row.D.Denot = record { store = c.self.inside.store; jobs = c.self.inside.jobs; machine_room = c.self.inside.machine_room } in
    let on = step_seen c.in-Some.on in
    rw (← c.self.view_is)
    (in_other_words d.moment d.left_since old.store.disk c.do_unit.new.store.disk
    (λ image. OpensSame d.content d.size old image × StemsKeeping old.store.layout on.sets (d.may_leave old.store.disk) image)
    (IsLeftByUnit d.content d.may_leave d.size c.args.run old)
    (both_since d.moment d.left_since old.store.disk c.do_unit.new.store.disk (OpensSame d.content d.size old) (StemsKeeping old.store.layout on.sets (d.may_leave old.store.disk))
    c.do_unit.ensures.any_moment c.do_unit.ensures.keeps.since)
    (λ image left. (left.0, inr (on, sym c.take_step.ensures.step ∙ ap (option_map step_seen) c.in-Some.is, left.1))))

pub invariant_of-self-2 : goal.invariant_of-self-2
invariant_of-self-2 g c =
    let layout = c.self.inside.store.layout in
    let kept = c.self.invariant.jobs in
    let run = c.args.run in
    let on = step_seen c.in-Some.on in
    let moved = step_seen c.do_unit.new.on in
    let desk = ap (λ (t : RoomyTables). t.desk) c.take_step.ensures.tables in
    let worked = c.in_ok-do_unit.ensures.worked in
    let found = sym c.take_step.ensures.step ∙ ap (option_map step_seen) c.in-Some.is in
    let its : moved.run ≡ run = c.do_unit.ensures.run ∙ equal-true on.run run (find-passes (is_of_run run) c.self.inside.jobs.running on found) in
    record {
      jobs =
          let is : IsRunningOf c.self.inside.jobs.tables.desk moved =
          running-unit c.self.inside.jobs.tables.desk on moved worked.heads c.in_ok-do_unit.field-0 kept.are.rows kept.numbered c.do_unit.ensures.run worked.done (c.in-Some.ensures.own_step kept.own) in
          subst (λ (l : Layout). AreKept l c.put_step.new.self) (sym c.do_unit.ensures.layout)
          (kept-moved layout c.self.inside.jobs c.put_step.new.self (ap (λ (t : RoomyTables). t.desk) c.put_step.ensures.tables ∙ desk) (c.put_step.ensures.failed ∙ c.take_step.ensures.failed)
          (c.put_step.ensures.jobs layout (c.take_step.ensures.jobs layout kept.are) c.in_ok-do_unit.ensures.runnable)
          (c.put_step.ensures.own (c.take_step.ensures.own kept.own) (subst (λ (t : TablesModel). IsRunningOf t moved) (sym desk) is)
          (subst (λ n. AllByRecursion (IsOfOther n) c.take_step.new.self.running) (sym its) (c.take_step.ensures.others kept.own))) kept);
      store = c.do_unit.ensures.sound;
    }

pub returns-clause-commits : goal.returns-clause-commits
returns-clause-commits g c =
    let d = g.D.Disk in
    let old : DeskView g.row.D.Denot = record { store = c.self.inside.store; jobs = c.self.inside.jobs; machine_room = c.self.inside.machine_room } in
    let run = c.args.run in
    let on = step_seen c.in-Some.on in
    let moved = step_seen c.do_unit.new.on in
    let unit = c.args.unit in
    let tables = old.jobs.tables.desk in
    let found = sym c.take_step.ensures.step ∙ ap (option_map step_seen) c.in-Some.is in
    rw (← c.self.view_is)
    (λ answer plan looked.
    let same : looked.of.on ≡ on = same-on d.told d.content run old unit looked.of on found in
    subst (λ (t : TablesModel). PlanCommits t c.put_step.new.self.running plan) (sym (ap (λ (t : RoomyTables). t.desk) c.put_step.ensures.tables ∙ ap (λ (t : RoomyTables). t.desk) c.take_step.ensures.tables))
    (subst (λ (running : List RunningStepView). PlanCommits tables running plan) (sym c.put_step.ensures.running)
    (commits-beside tables run plan (behind_unit on unit) moved c.take_step.new.self.running
    (subst (λ n. PlanIsOf n plan) (equal-true looked.of.on.run run (find-passes (is_of_run run) old.jobs.running looked.of.on looked.of.found)) looked.of_run)
    c.do_unit.ensures.run c.in_ok-do_unit.ensures.lengths (c.take_step.ensures.others c.self.invariant.jobs.own)
    (subst (λ (its : RunningStepView). PlanCommits tables (behind_unit its unit ∷ []) plan) same looked.commits))))

pub returns-clause-done : goal.returns-clause-done
returns-clause-done g c =
    let d = g.D.Disk in
    let old : DeskView g.row.D.Denot = record { store = c.self.inside.store; jobs = c.self.inside.jobs; machine_room = c.self.inside.machine_room } in
    let on = step_seen c.in-Some.on in
    let moved = step_seen c.do_unit.new.on in
    let unit = c.args.unit in
    let did = c.in_ok-do_unit.ensures in
    let found = sym c.take_step.ensures.step ∙ ap (option_map step_seen) c.in-Some.is in
    rw (← c.self.view_is)
    (λ answer plan looked.
    record {
      on = on;
      moved = moved;
      worked = c.in_ok-do_unit.field-0;
      found = found;
      same_run = c.do_unit.ensures.run;
      same_code = c.do_unit.ensures.code;
      did = did.worked;
      goes = λ told. did.goes_on told;
      keeps = c.do_unit.ensures.keeps;
      tables = ap (λ t. t.desk) c.put_step.ensures.tables ∙ ap (λ t. t.desk) c.take_step.ensures.tables;
      failed = c.put_step.ensures.failed ∙ c.take_step.ensures.failed;
      running = c.put_step.ensures.running ∙ ap (λ rest. moved ∷ rest) c.take_step.ensures.running;
      points = c.put_step.ensures.points ∙ c.take_step.ensures.points;
      store = did.kept;
      planned = told-moved old.store.layout old.jobs.tables.desk on moved unit c.in_ok-do_unit.field-0 answer plan c.do_unit.ensures.run
          (c.do_unit.ensures.code ∙ subst (λ (its : RunningStepView). its.code ≡ None) (same-on d.told d.content c.args.run old unit looked.of on found) looked.of.uncoded) did.behind did.lengths did.answer
          (subst (λ (its : RunningStepView). IsToldOf old.store.layout old.jobs.tables.desk (behind_unit its unit) unit.worked answer plan)
          (same-on d.told d.content c.args.run old unit looked.of on found) looked.planned);
    })

pub returns-clause-left : goal.returns-clause-left
returns-clause-left g c =
    let d = g.D.Disk in
    let old : DeskView g.row.D.Denot = record { store = c.self.inside.store; jobs = c.self.inside.jobs; machine_room = c.self.inside.machine_room } in
    let on = step_seen c.in-Some.on in
    rw (← c.self.view_is)
    (in_other_words d.moment d.left_since old.store.disk c.do_unit.new.store.disk
    (λ image. OpensSame d.content d.size old image × StemsKeeping old.store.layout on.sets (d.may_leave old.store.disk) image)
    (IsLeftByUnit d.content d.may_leave d.size c.args.run old)
    (both_since d.moment d.left_since old.store.disk c.do_unit.new.store.disk (OpensSame d.content d.size old) (StemsKeeping old.store.layout on.sets (d.may_leave old.store.disk))
    c.do_unit.ensures.any_moment c.do_unit.ensures.keeps.since)
    (λ image left. (left.0, inr (on, sym c.take_step.ensures.step ∙ ap (option_map step_seen) c.in-Some.is, left.1))))
