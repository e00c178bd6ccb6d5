use Rattle.std.proofs.Common.{ap, sym, ◌∙◌, slice_get}
use Rattle.ckr_library.specs.NameMaps.{with_entry}
use Rattle.ckr_points_runs.specs.MarkOrder.{has_name, marked, place_in}
use Rattle.ckr_points_runs.proofs.MarkOrder.{replaced, entered}
use Rattle.ckr_points_runs.proofs.marks_in_order.MarksInOrder.enter.Goals as goal

pub invariant_of-self : goal.invariant_of-self
invariant_of-self c =
    (replaced c.self.inside.items.items c.self.invariant c.args.mark c.place_of-place.result
    (c.place_of-place.ensures.place ∙ ap (place_in c.args.mark.name) c.as_slice.ensures.value)
    (ap (λ xs. has_name c.args.mark.name (slice_get xs c.place_of-place.result)) (sym c.as_slice-2.ensures.value) ∙ sym c.has_name.ensures ∙ c.if-has_name.true)).1

pub returns-then-has_name-clause-items : goal.returns-then-has_name-clause-items
returns-then-has_name-clause-items c =
    (replaced c.self.inside.items.items c.self.invariant c.args.mark c.place_of-place.result
    (c.place_of-place.ensures.place ∙ ap (place_in c.args.mark.name) c.as_slice.ensures.value)
    (ap (λ xs. has_name c.args.mark.name (slice_get xs c.place_of-place.result)) (sym c.as_slice-2.ensures.value) ∙ sym c.has_name.ensures ∙ c.if-has_name.true)).0
    ∙ ap (λ v. with_entry c.args.mark.name c.args.mark (marked v.items)) c.self.view_is

pub invariant_of-self-2 : goal.invariant_of-self-2
invariant_of-self-2 c =
    (entered c.self.inside.items.items c.self.invariant c.args.mark c.place_of-place.result
    (c.place_of-place.ensures.place ∙ ap (place_in c.args.mark.name) c.as_slice.ensures.value)
    (ap (λ xs. has_name c.args.mark.name (slice_get xs c.place_of-place.result)) (sym c.as_slice-2.ensures.value) ∙ sym c.has_name.ensures ∙ c.if-has_name.false)
    c.insert.new.self.items c.in-Ok.ensures.items).1

pub returns-clause-items : goal.returns-clause-items
returns-clause-items c =
    (entered c.self.inside.items.items c.self.invariant c.args.mark c.place_of-place.result
    (c.place_of-place.ensures.place ∙ ap (place_in c.args.mark.name) c.as_slice.ensures.value)
    (ap (λ xs. has_name c.args.mark.name (slice_get xs c.place_of-place.result)) (sym c.as_slice-2.ensures.value) ∙ sym c.has_name.ensures ∙ c.if-has_name.false)
    c.insert.new.self.items c.in-Ok.ensures.items).0
    ∙ ap (λ v. with_entry c.args.mark.name c.args.mark (marked v.items)) c.self.view_is
