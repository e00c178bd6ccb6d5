use Rattle.std.proofs.Common.{◌≡◌, ◌≤◌, subst, ◌<◌, suc, ap, sym, ◌∙◌, arith, add-one, length, map, take, drop, slice_get, slice_set, Some}
use Rattle.std.specs.Option.{option_map}
use Rattle.std.proofs.lemmas.List.{length-map, map-set}
use Rattle.std.proofs.lemmas.Option.{slice_get-map}
use Rattle.ckr_base.proofs.Sequences.{get-from, take-most}
use Rattle.ckr_points.specs.Tables.{point_rewritten}
use Rattle.ckr_points_runs.specs.PointOrder.{are_in_order}
use Rattle.ckr_points_runs.specs.View.{point_of}
use Rattle.ckr_points_runs.proofs.PointOrder.{order-rewritten}
use Rattle.ckr_points_runs.proofs.PointPlaces.{changed_more}
use Rattle.ckr_points_runs.proofs.step_points.StepPoints.rewrite.Goals as goal

pub loop-place-preserved : goal.loop-place-preserved
loop-place-preserved c =
    let items = c.loop-place.self-inside.items.items in
    let place = c.loop-place.place in
    let old = c.index_mut.result.now in
    let new = c.rewrite_one.new.point in
    let before = map point_of c.self.inside.items.items in
    let inside : place < length items = omega (arith, c.loop-place-test.true, c.len-place-end.ensures, c.loop-place.invariant.long, c.loop-place.self-inside.items.ok.0) in
    let here : slice_get (map point_of items) place ≡ Some (point_of old) = slice_get-map point_of items place ∙ ap (option_map point_of) (get-from items place old inside c.index_mut.ensures.value) in
    let more = changed_more (point_rewritten c.args.step) (map point_of items) before place (point_of old) (point_of new) c.loop-place.invariant.done c.loop-place.invariant.left here c.rewrite_one.ensures in
    let written : map point_of (slice_set items place new) ≡ slice_set (map point_of items) place (point_of new) = map-set point_of items place new in
    record {
      done = ap (λ n. take n (map point_of (slice_set items place new))) (add-one place) ∙ ap (take (suc place)) written ∙ more.0 ∙ ap (λ n. map (point_rewritten c.args.step) (take n before)) (sym (add-one place));
      left = ap (λ n. drop n (map point_of (slice_set items place new))) (add-one place) ∙ ap (drop (suc place)) written ∙ more.1 ∙ ap (λ n. drop n before) (sym (add-one place));
      long = c.loop-place.invariant.long;
      room = c.loop-place.invariant.room;
    }

pub invariant_of-self : goal.invariant_of-self
invariant_of-self c =
    let after = map point_of c.loop-place.self-inside.items.items in
    let before = map point_of c.self.inside.items.items in
    let long : length c.loop-place.self-inside.items.items ≤ c.loop-place.place = omega (arith, c.loop-place-test.false, c.len-place-end.ensures, c.loop-place.invariant.long, c.loop-place.self-inside.items.ok.0) in
    let long_before : length c.self.inside.items.items ≤ c.loop-place.place = omega (arith, c.loop-place-test.false, c.len-place-end.ensures, c.self.inside.items.ok.0) in
    let all : after ≡ map (point_rewritten c.args.step) before =
    sym (take-most c.loop-place.place after (subst (λ n. n ≤ c.loop-place.place) (sym (length-map c.loop-place.self-inside.items.items point_of)) long)) ∙ c.loop-place.invariant.done
    ∙ ap (map (point_rewritten c.args.step)) (take-most c.loop-place.place before (subst (λ n. n ≤ c.loop-place.place) (sym (length-map c.self.inside.items.items point_of)) long_before)) in
    ap are_in_order all ∙ order-rewritten c.args.step before ∙ c.self.invariant
