use Rattle.std.proofs.Common.{ap, sym, ◌∙◌, slice_get}
use Rattle.ckr_points_tables.specs.MarkOrder.{has_name, place_in}
use Rattle.ckr_points_tables.proofs.MarkOrder.{entered, replaced}
use Rattle.ckr_desk_plans.proofs.entry_marks.enter.Goals as goal

pub returns-then-has_name-clause-items : goal.returns-then-has_name-clause-items
returns-then-has_name-clause-items c =
    (replaced c.args.items.now.items c.requires c.args.mark c.place_of-place.result (c.place_of-place.ensures.place ∙ ap (place_in c.args.mark.name) c.as_slice.ensures.value)
    (ap (λ xs. has_name c.args.mark.name (slice_get xs c.place_of-place.result)) (sym c.as_slice-2.ensures.value) ∙ sym c.has_name.ensures ∙ c.if-has_name.true)).0

pub returns-then-has_name-clause-order : goal.returns-then-has_name-clause-order
returns-then-has_name-clause-order c =
    (replaced c.args.items.now.items c.requires c.args.mark c.place_of-place.result (c.place_of-place.ensures.place ∙ ap (place_in c.args.mark.name) c.as_slice.ensures.value)
    (ap (λ xs. has_name c.args.mark.name (slice_get xs c.place_of-place.result)) (sym c.as_slice-2.ensures.value) ∙ sym c.has_name.ensures ∙ c.if-has_name.true)).1

pub returns-clause-items : goal.returns-clause-items
returns-clause-items c =
    (entered c.args.items.now.items c.requires c.args.mark c.place_of-place.result (c.place_of-place.ensures.place ∙ ap (place_in c.args.mark.name) c.as_slice.ensures.value)
    (ap (λ xs. has_name c.args.mark.name (slice_get xs c.place_of-place.result)) (sym c.as_slice-2.ensures.value) ∙ sym c.has_name.ensures ∙ c.if-has_name.false)
    c.insert.new.self.items c.in_ok-insert.ensures.items).0

pub returns-clause-order : goal.returns-clause-order
returns-clause-order c =
    (entered c.args.items.now.items c.requires c.args.mark c.place_of-place.result (c.place_of-place.ensures.place ∙ ap (place_in c.args.mark.name) c.as_slice.ensures.value)
    (ap (λ xs. has_name c.args.mark.name (slice_get xs c.place_of-place.result)) (sym c.as_slice-2.ensures.value) ∙ sym c.has_name.ensures ∙ c.if-has_name.false)
    c.insert.new.self.items c.in_ok-insert.ensures.items).1
