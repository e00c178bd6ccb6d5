use Rattle.std.proofs.Common.{ap, length, subst, sym, ◌+◌, ◌<◌, ◌∙◌}
use Rattle.ckr_base.proofs.Sequences.{get-from}
use Rattle.ckr_library.proofs.ItemEdits.{item-removed, item-taken, name-within, place-seen}
use Rattle.ckr_library.proofs.shelf.Shelf.remove.Goals as goal

pub remove-item-requires : goal.remove-item-requires
remove-item-requires c =
    subst (λ n. c.place_of-place.result < n) (sym (ap length c.as_slice.ensures.value) ∙ c.as_slice.ensures.len)
    (name-within c.self.inside.order.items c.self.inside.items.items c.self.invariant c.args.self.now.sets (ap (λ v. v.sets) c.self.view_is) c.args.name.now (λ _. Unit {0}) c.requires c.place_of-place.result (place-seen _ _ _ _ c.as_slice.ensures.value c.as_slice-2.ensures.value c.args.name.now c.place_of-place.result c.place_of-place.ensures.place))

pub invariant_of-self : goal.invariant_of-self
invariant_of-self c =
    (item-removed c.self.inside.order.items c.self.inside.items.items c.self.invariant c.args.self.now.sets (ap (λ v. v.sets) c.self.view_is) c.args.name.now (λ _. Unit {0}) c.requires c.place_of-place.result c.remove-item.result
    (place-seen _ _ _ _ c.as_slice.ensures.value c.as_slice-2.ensures.value c.args.name.now c.place_of-place.result c.place_of-place.ensures.place)
    (get-from c.self.inside.order.items c.place_of-place.result c.remove-item.result (name-within c.self.inside.order.items c.self.inside.items.items c.self.invariant c.args.self.now.sets (ap (λ v. v.sets) c.self.view_is) c.args.name.now (λ _. Unit {0}) c.requires c.place_of-place.result (place-seen _ _ _ _ c.as_slice.ensures.value c.as_slice-2.ensures.value c.args.name.now c.place_of-place.result c.place_of-place.ensures.place)) c.remove-item.ensures.value)
    c.swap_remove-held.new.self.items c.swap_remove-held.result c.swap_remove-held.ensures.items _ c.len.result (sym c.as_slice-2.ensures.len ∙ ap length c.as_slice-2.ensures.value) (ap (λ n. n + 1) c.len.ensures ∙ c.swap_remove-held.ensures.len)
    c.swap_remove-held.ensures.by_index.0 c.swap_remove-held.ensures.by_index.1 c.remove-item.new.self.items c.remove-item.ensures.items c.renumber.new.order.items c.renumber.ensures.items).0

pub returns-clause-set : goal.returns-clause-set
returns-clause-set c =
    item-taken c.self.inside.order.items c.self.inside.items.items c.self.invariant c.args.self.now.sets (ap (λ v. v.sets) c.self.view_is) c.args.name.now (λ _. Unit {0}) c.requires c.place_of-place.result c.remove-item.result
    (place-seen _ _ _ _ c.as_slice.ensures.value c.as_slice-2.ensures.value c.args.name.now c.place_of-place.result c.place_of-place.ensures.place)
    (get-from c.self.inside.order.items c.place_of-place.result c.remove-item.result (name-within c.self.inside.order.items c.self.inside.items.items c.self.invariant c.args.self.now.sets (ap (λ v. v.sets) c.self.view_is) c.args.name.now (λ _. Unit {0}) c.requires c.place_of-place.result (place-seen _ _ _ _ c.as_slice.ensures.value c.as_slice-2.ensures.value c.args.name.now c.place_of-place.result c.place_of-place.ensures.place)) c.remove-item.ensures.value)
    c.swap_remove-held.result c.swap_remove-held.ensures.value

pub returns-clause-sets : goal.returns-clause-sets
returns-clause-sets c =
    (item-removed c.self.inside.order.items c.self.inside.items.items c.self.invariant c.args.self.now.sets (ap (λ v. v.sets) c.self.view_is) c.args.name.now (λ _. Unit {0}) c.requires c.place_of-place.result c.remove-item.result
    (place-seen _ _ _ _ c.as_slice.ensures.value c.as_slice-2.ensures.value c.args.name.now c.place_of-place.result c.place_of-place.ensures.place)
    (get-from c.self.inside.order.items c.place_of-place.result c.remove-item.result (name-within c.self.inside.order.items c.self.inside.items.items c.self.invariant c.args.self.now.sets (ap (λ v. v.sets) c.self.view_is) c.args.name.now (λ _. Unit {0}) c.requires c.place_of-place.result (place-seen _ _ _ _ c.as_slice.ensures.value c.as_slice-2.ensures.value c.args.name.now c.place_of-place.result c.place_of-place.ensures.place)) c.remove-item.ensures.value)
    c.swap_remove-held.new.self.items c.swap_remove-held.result c.swap_remove-held.ensures.items _ c.len.result (sym c.as_slice-2.ensures.len ∙ ap length c.as_slice-2.ensures.value) (ap (λ n. n + 1) c.len.ensures ∙ c.swap_remove-held.ensures.len)
    c.swap_remove-held.ensures.by_index.0 c.swap_remove-held.ensures.by_index.1 c.remove-item.new.self.items c.remove-item.ensures.items c.renumber.new.order.items c.renumber.ensures.items).1
