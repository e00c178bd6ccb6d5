use Rattle.std.proofs.Common.{◌≡◌, List, ℕ, None, ap, sym, ◌∙◌, subst}
use Rattle.std.proofs.lemmas.Option.{same_Some}
use Rattle.ckr_base.specs.declared.programs.NextDue.TheVariants.{Unit as OneUnit}
use Rattle.ckr_steps.specs.Units.{due_of}
use Rattle.ckr_steps.specs.StepUnit.{HasWorkedOut}
use Rattle.ckr_desk_turn.specs.declared.plan.Plan.TheVariants.{Work}
use Rattle.ckr_desk_refines.specs.Memory.Parts.{step_seen}
use Rattle.ckr_desk_refines.specs.Memory.Plans.{HasDue}
use Rattle.ckr_desk_refines.specs.Memory.View.{RunningStepView}
use Rattle.ckr_desk_store.specs.State.{StoreView}
use Rattle.ckr_volumes.specs.declared.layout.Layout.{Layout}
use Rattle.ckr_desk.specs.State.{DeskView}
use Rattle.ckr_desk.proofs.desk.Desk.work_out.Goals as goal

pub ahead-requires-clause-due : goal.ahead-requires-clause-due
ahead-requires-clause-due g c κs within =
    let its = subst (λ (s : DeskView g.row.D.Denot). HasDue s.jobs (Work c.args.run)) (sym c.self.view_is) c.requires.due in
    subst (λ (on : RunningStepView). due_of on.step.parm on.step.state ≡ OneUnit)
    (same_Some its.0 (step_seen c.in-Some.on.now) (sym its.1 ∙ sym c.in-Some.ensures.step)) its.2

pub ahead-requires-clause-counted : goal.ahead-requires-clause-counted
ahead-requires-clause-counted g c κs within = (c.in-Some.ensures.runnable c.self.inside.store.layout c.self.invariant.jobs.are).counted

pub ahead-requires-clause-stored : goal.ahead-requires-clause-stored
ahead-requires-clause-stored g c κs within = (c.in-Some.ensures.runnable c.self.inside.store.layout c.self.invariant.jobs.are).stored

pub ahead-requires-clause-there : goal.ahead-requires-clause-there
ahead-requires-clause-there g c κs within = (c.in-Some.ensures.runnable c.self.inside.store.layout c.self.invariant.jobs.are).there

pub returns-clause-unit : goal.returns-clause-unit
returns-clause-unit g c =
    let d = g.D.Disk in
    let on = step_seen c.in-Some.on.now in
    let unit = c.in_ok-unit.unit in
    record {
      on = on;
      found = sym c.in-Some.ensures.step;
      uncoded = (let its = subst (λ (s : DeskView g.row.D.Denot). HasDue s.jobs (Work c.args.run)) (sym c.self.view_is) c.requires.due in
          subst (λ (on : RunningStepView). on.code ≡ None) (same_Some its.0 (step_seen c.in-Some.on.now) (sym its.1 ∙ sym c.in-Some.ensures.step)) its.3);
      there = (c.in-Some.ensures.runnable c.self.inside.store.layout c.self.invariant.jobs.are).there;
      out = subst (λ (l : Layout). HasWorkedOut d.told (d.content c.ahead.new.self.disk) l on.step on.sets unit) (sym (ap (λ (s : StoreView g.row.D.Denot). s.layout) c.in_ok-unit.ensures.kept))
          (subst (λ (bytes : List ℕ). HasWorkedOut d.told bytes c.self.inside.store.layout on.step on.sets unit) (sym c.ahead.ensures.only_reads.same) c.in_ok-unit.ensures.ahead);
    }
