use Rattle.std.proofs.Common.{arith, find, ap, sym, subst, ◌∙◌, Option, Some, None}
use Rattle.std.specs.Option.{option_copied}
use Rattle.ckr_base.proofs.Sequences.{find-holds}
use Rattle.ckr_desk_memory.specs.EventChanges.{is_point_of}
use Rattle.ckr_desk_memory.specs.Parts.{IsPointCounted}
use Rattle.ckr_desk_memory.specs.Preparation.{HasTaken}
use Rattle.ckr_desk_memory.specs.View.{JobsView, PointView}
use Rattle.ckr_desk_memory.proofs.Starts.Steps.{begun-parm, has-taken, no-taken-run, no-taken-step}
use Rattle.ckr_desk_memory.proofs.jobs.Jobs.taken.Goals as goal

pub resume_step-requires-clause-root : goal.resume_step-requires-clause-root
resume_step-requires-clause-root c = omega (arith, c.root.ensures, c.in-Some-known.ensures.some.fits.root)

pub resume_step-requires-clause-owner : goal.resume_step-requires-clause-owner
resume_step-requires-clause-owner c = (c.in-Some-step_at.ensures.fitting c.in-Some-known.ensures.some.fits).owner

pub resume_step-requires-clause-parm : goal.resume_step-requires-clause-parm
resume_step-requires-clause-parm c =
    begun-parm c.args.self.now.tables.desk c.args.earlier c.in-Some-known.table.now c.in-Some-known.ensures.some c.args.step c.in-Some-step_at.own c.requires c.in-Some-step_at.ensures.step

pub resume_step-requires-clause-counted : goal.resume_step-requires-clause-counted
resume_step-requires-clause-counted c =
    find-holds IsPointCounted (is_point_of c.args.job) c.self.inside.points.items c.in-Some.point.now c.self.invariant.counted
    (ap (find (is_point_of c.args.job)) (sym c.as_slice.ensures.value) ∙ sym c.point_in.ensures ∙ ap option_copied c.in-Some.is)

pub returns-in_default-known-clause-step : goal.returns-in_default-known-clause-step
returns-in_default-known-clause-step c =
    subst (λ (point : Option PointView). HasTaken point c.args.self.now.tables.desk c.args.earlier c.args.step c.args.job None)
    (sym (ap (λ (j : JobsView). find (is_point_of c.args.job) j.points) (sym c.self.view_is) ∙ ap (find (is_point_of c.args.job)) (sym c.as_slice.ensures.value) ∙ sym c.point_in.ensures ∙ ap option_copied c.in-Some.is))
    (no-taken-run c.args.self.now.tables.desk c.args.earlier c.args.step c.args.job c.in-Some.point.now c.in_default-known.ensures.none)

pub returns-in_ok-resume_step-in-Some-step_at-clause-step : goal.returns-in_ok-resume_step-in-Some-step_at-clause-step
returns-in_ok-resume_step-in-Some-step_at-clause-step c =
    let again = c.in_ok-resume_step-in-Some-step_at.field-0 in
    subst (λ (point : Option PointView). HasTaken point c.args.self.now.tables.desk c.args.earlier c.args.step c.args.job (Some again))
    (sym (ap (λ (j : JobsView). find (is_point_of c.args.job) j.points) (sym c.self.view_is) ∙ ap (find (is_point_of c.args.job)) (sym c.as_slice.ensures.value) ∙ sym c.point_in.ensures ∙ ap option_copied c.in-Some.is))
    (has-taken c.args.self.now.tables.desk c.args.earlier c.in-Some-known.table.now c.in-Some-known.ensures.some c.root.result c.args.step c.args.job c.in-Some-step_at.own c.in-Some.point.now again
    c.root.ensures c.in-Some-step_at.ensures.step c.in_ok-resume_step-in-Some-step_at.ensures)

pub returns-in-None-clause-step : goal.returns-in-None-clause-step
returns-in-None-clause-step c =
    subst (λ (point : Option PointView). HasTaken point c.args.self.now.tables.desk c.args.earlier c.args.step c.args.job None)
    (sym (ap (λ (j : JobsView). find (is_point_of c.args.job) j.points) (sym c.self.view_is) ∙ ap (find (is_point_of c.args.job)) (sym c.as_slice.ensures.value) ∙ sym c.point_in.ensures ∙ ap option_copied c.in-Some.is))
    (no-taken-step c.args.self.now.tables.desk c.args.earlier c.in-Some-known.table.now c.in-Some-known.ensures.some c.args.step c.args.job c.in-Some.point.now
    c.in-None.ensures.step)
