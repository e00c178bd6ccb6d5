use Rattle.std.proofs.Common.{List, ◌∷◌, find, ap, sym, ◌∙◌, subst}
use Rattle.std.specs.List.{AllByRecursion}
use Rattle.ckr_desk_memory.specs.EventChanges.{is_point_of, without_point}
use Rattle.ckr_desk_memory.specs.Parts.{IsPointCounted}
use Rattle.ckr_desk_memory.specs.View.{JobsView, PointView}
use Rattle.ckr_desk_memory.proofs.Holders.LeftRuns.{left-alike}
use Rattle.ckr_desk_memory.proofs.Holders.QueuedPoints.{own-known}
use Rattle.ckr_desk_memory.proofs.Points.{counted-put, other-put}
use Rattle.ckr_desk_memory.proofs.jobs.Jobs.put_point.Goals as goal

pub invariant_of-self-2 : goal.invariant_of-self-2
invariant_of-self-2 c = record {
  queued = c.self.invariant.queued;
  counted =
      subst (AllByRecursion IsPointCounted)
      (sym (c.put_point.ensures ∙ ap (λ (points : List PointView). c.args.point ∷ points) (c.forget_point.ensures.items ∙ ap (without_point c.args.point.run) c.in_ok-reserve.ensures.items)))
      (counted-put c.args.point c.self.inside.points.items c.requires c.self.invariant.counted);
}

pub returns-clause-others : goal.returns-clause-others
returns-clause-others c = λ run apart.
    ap (find (is_point_of run)) (c.put_point.ensures ∙ ap (λ (points : List PointView). c.args.point ∷ points) (c.forget_point.ensures.items ∙ ap (without_point c.args.point.run) c.in_ok-reserve.ensures.items))
    ∙ other-put c.args.point c.self.inside.points.items run apart
    ∙ ap (λ (j : JobsView). find (is_point_of run) j.points) c.self.view_is

pub returns-clause-own : goal.returns-clause-own
returns-clause-own c =
    own-known c.args.self.now _ c.args.point (ap (λ (j : JobsView). j.tables) c.self.view_is) (ap (λ (j : JobsView). j.running) c.self.view_is)
    (c.put_point.ensures ∙ ap (λ (points : List PointView). c.args.point ∷ points) (c.forget_point.ensures.items ∙ ap (without_point c.args.point.run) c.in_ok-reserve.ensures.items)
    ∙ ap (λ (j : JobsView). c.args.point ∷ without_point c.args.point.run j.points) c.self.view_is)

pub returns-clause-left : goal.returns-clause-left
returns-clause-left c =
    left-alike c.args.self.now (record c.args.self.now { tables = c.self.inside.tables; failed = c.self.inside.failed.items }) (ap (λ (j : JobsView). j.tables.desk) c.self.view_is) (ap (λ (j : JobsView). j.failed) c.self.view_is)
