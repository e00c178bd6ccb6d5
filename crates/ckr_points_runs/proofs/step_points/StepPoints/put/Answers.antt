use Rattle.std.proofs.Common.{ap, sym, ◌∙◌, map, slice_get}
use Rattle.ckr_library.specs.Places.{lead}
use Rattle.ckr_points.specs.Marks.{with_point}
use Rattle.ckr_points_runs.specs.PointOrder.{are_in_order}
use Rattle.ckr_points_runs.specs.View.{has_step, point_of}
use Rattle.ckr_points_runs.proofs.PointOrder.{order-with_point}
use Rattle.ckr_points_runs.proofs.PointPlaces.{is_lower, put_same, put_new}
use Rattle.ckr_points_runs.proofs.step_points.StepPoints.put.Goals as goal

pub returns-then-has_step-clause-points : goal.returns-then-has_step-clause-points
returns-then-has_step-clause-points c =
    put_same c.args.point c.self.inside.items.items c.place_for-place.result
    (c.place_for-place.ensures.place ∙ ap (lead (is_lower c.args.point)) c.as_slice.ensures.value) (ap (λ xs. has_step c.args.point.step (slice_get xs c.place_for-place.result)) (sym c.as_slice-2.ensures.value) ∙ sym c.has_step.ensures ∙ c.if-has_step.true)
    ∙ ap (λ v. with_point (point_of c.args.point) (map point_of v.items)) c.self.view_is

pub returns-clause-points : goal.returns-clause-points
returns-clause-points c =
    ap (map point_of) c.in-Ok.ensures.items
    ∙ put_new c.args.point c.self.inside.items.items c.place_for-place.result (c.place_for-place.ensures.place ∙ ap (lead (is_lower c.args.point)) c.as_slice.ensures.value) (ap (λ xs. has_step c.args.point.step (slice_get xs c.place_for-place.result)) (sym c.as_slice-2.ensures.value) ∙ sym c.has_step.ensures ∙ c.if-has_step.false)
    ∙ ap (λ v. with_point (point_of c.args.point) (map point_of v.items)) c.self.view_is

pub invariant_of-self : goal.invariant_of-self
invariant_of-self c =
    ap are_in_order (put_same c.args.point c.self.inside.items.items c.place_for-place.result
    (c.place_for-place.ensures.place ∙ ap (lead (is_lower c.args.point)) c.as_slice.ensures.value) (ap (λ xs. has_step c.args.point.step (slice_get xs c.place_for-place.result)) (sym c.as_slice-2.ensures.value) ∙ sym c.has_step.ensures ∙ c.if-has_step.true))
    ∙ order-with_point (point_of c.args.point) (map point_of c.self.inside.items.items) c.self.invariant

pub invariant_of-self-2 : goal.invariant_of-self-2
invariant_of-self-2 c =
    ap (λ xs. are_in_order (map point_of xs)) c.in-Ok.ensures.items
    ∙ ap are_in_order (put_new c.args.point c.self.inside.items.items c.place_for-place.result (c.place_for-place.ensures.place ∙ ap (lead (is_lower c.args.point)) c.as_slice.ensures.value) (ap (λ xs. has_step c.args.point.step (slice_get xs c.place_for-place.result)) (sym c.as_slice-2.ensures.value) ∙ sym c.has_step.ensures ∙ c.if-has_step.false))
    ∙ order-with_point (point_of c.args.point) (map point_of c.self.inside.items.items) c.self.invariant
