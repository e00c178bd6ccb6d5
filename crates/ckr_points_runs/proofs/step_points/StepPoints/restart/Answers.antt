use Rattle.std.proofs.Common.{◌≡◌, true, Some, ap, sym, ◌∙◌, map, slice_get}
use Rattle.std.proofs.lemmas.Option.{same_Some}
use Rattle.ckr_base.proofs.Options.{some-not-none}
use Rattle.ckr_points.specs.Marks.{point_at, with_point}
use Rattle.ckr_points.specs.Restart.{point_restarted}
use Rattle.ckr_points_runs.specs.PointOrder.{are_in_order}
use Rattle.ckr_points_runs.specs.View.{has_step, point_of}
use Rattle.ckr_points_runs.proofs.PointOrder.{first_from, order-with_point, point-inside, point-none, point-restarted, point-there}
use Rattle.ckr_points_runs.proofs.step_points.StepPoints.restart.Goals as goal

pub restart_one-requires : goal.restart_one-requires
restart_one-requires c =
    let items = c.self.inside.items.items in
    let place = c.place_for-place.result in
    let old = c.index_mut.result.now in
    let first : place ≡ first_from c.args.step items = c.place_for-place.ensures.place ∙ ap (first_from c.args.step) c.as_slice.ensures.value in
    let has : has_step c.args.step (slice_get items place) ≡ true = ap (λ xs. has_step c.args.step (slice_get xs place)) (sym c.as_slice-2.ensures.value) ∙ sym c.has_step.ensures ∙ c.if-has_step.true in
    let there : slice_get items place ≡ Some old = point-inside c.args.step items place old has c.index_mut.ensures.value in
    c.requires.few (point_of old) (ap (λ v. point_at (map point_of v.items) c.args.step) (sym c.self.view_is) ∙ point-there c.args.step items c.self.invariant place first old there has)

pub invariant_of-self : goal.invariant_of-self
invariant_of-self c =
    let items = c.self.inside.items.items in
    let place = c.place_for-place.result in
    let old = c.index_mut.result.now in
    let first : place ≡ first_from c.args.step items = c.place_for-place.ensures.place ∙ ap (first_from c.args.step) c.as_slice.ensures.value in
    let has : has_step c.args.step (slice_get items place) ≡ true = ap (λ xs. has_step c.args.step (slice_get xs place)) (sym c.as_slice-2.ensures.value) ∙ sym c.has_step.ensures ∙ c.if-has_step.true in
    let there : slice_get items place ≡ Some old = point-inside c.args.step items place old has c.index_mut.ensures.value in
    ap are_in_order (point-restarted c.args.step items c.self.invariant place first old there has c.restart_one.new.point c.restart_one.ensures)
    ∙ order-with_point (point_restarted (point_of old)) (map point_of items) c.self.invariant

pub returns-then-has_step-clause-points : goal.returns-then-has_step-clause-points
returns-then-has_step-clause-points c = λ point found.
    let items = c.self.inside.items.items in
    let place = c.place_for-place.result in
    let old = c.index_mut.result.now in
    let first : place ≡ first_from c.args.step items = c.place_for-place.ensures.place ∙ ap (first_from c.args.step) c.as_slice.ensures.value in
    let has : has_step c.args.step (slice_get items place) ≡ true = ap (λ xs. has_step c.args.step (slice_get xs place)) (sym c.as_slice-2.ensures.value) ∙ sym c.has_step.ensures ∙ c.if-has_step.true in
    let there : slice_get items place ≡ Some old = point-inside c.args.step items place old has c.index_mut.ensures.value in
    let same : point_of old ≡ point = same_Some (point_of old) point (sym (point-there c.args.step items c.self.invariant place first old there has) ∙ ap (λ v. point_at (map point_of v.items) c.args.step) c.self.view_is ∙ found) in
    point-restarted c.args.step items c.self.invariant place first old there has c.restart_one.new.point c.restart_one.ensures
    ∙ ap (λ one. with_point (point_restarted one) (map point_of items)) same
    ∙ ap (λ v. with_point (point_restarted point) (map point_of v.items)) c.self.view_is

pub returns-else-has_step-clause-points : goal.returns-else-has_step-clause-points
returns-else-has_step-clause-points c = λ point found.
    let items = c.self.inside.items.items in
    let place = c.place_for-place.result in
    let first : place ≡ first_from c.args.step items = c.place_for-place.ensures.place ∙ ap (first_from c.args.step) c.as_slice.ensures.value in
    absurd (some-not-none point
    (sym found ∙ ap (λ v. point_at (map point_of v.items) c.args.step) (sym c.self.view_is)
    ∙ point-none c.args.step items c.self.invariant place first (ap (λ xs. has_step c.args.step (slice_get xs place)) (sym c.as_slice-2.ensures.value) ∙ sym c.has_step.ensures ∙ c.if-has_step.false)))
