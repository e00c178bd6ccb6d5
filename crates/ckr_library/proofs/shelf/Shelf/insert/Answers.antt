use Rattle.std.proofs.Common.{ap, length, subst, sym, ◌∙◌, ◌≤◌}
use Rattle.ckr_library.specs.declared.shelf.Held.{Held}
use Rattle.ckr_library.specs.Catalog.{fresh_holding}
use Rattle.ckr_library.proofs.ItemEdits.{item-inserted, place-seen}
use Rattle.ckr_library.proofs.shelf.Shelf.insert.Goals as goal

pub invariant_of-self : goal.invariant_of-self
invariant_of-self c =
    let held : Held = record { name = c.args.name; set = c.args.set; kept = c.new-kept.result } in
    (item-inserted c.self.inside.order.items c.self.inside.items.items c.self.invariant c.args.self.now.sets (ap (λ v. v.sets) c.self.view_is) held c.place_of-place.result
    (place-seen _ _ _ _ c.as_slice.ensures.value c.as_slice-2.ensures.value c.args.name c.place_of-place.result c.place_of-place.ensures.place) (subst (λ order. c.place_of-place.result ≤ length order) c.as_slice.ensures.value c.place_of-place.ensures.bound)
    c.requires.absent (fresh_holding c.args.set) (ap (λ kept. record { set = c.args.set; kept = kept }) c.new-kept.ensures.items)
    c.len.result (c.len.ensures ∙ sym c.as_slice-2.ensures.len ∙ ap length c.as_slice-2.ensures.value) c.insert.new.self.items c.in-Ok.ensures.items c.push.new.self.items c.in-Ok-push.ensures.items).0

pub returns-clause-sets : goal.returns-clause-sets
returns-clause-sets c =
    let held : Held = record { name = c.args.name; set = c.args.set; kept = c.new-kept.result } in
    (item-inserted c.self.inside.order.items c.self.inside.items.items c.self.invariant c.args.self.now.sets (ap (λ v. v.sets) c.self.view_is) held c.place_of-place.result
    (place-seen _ _ _ _ c.as_slice.ensures.value c.as_slice-2.ensures.value c.args.name c.place_of-place.result c.place_of-place.ensures.place) (subst (λ order. c.place_of-place.result ≤ length order) c.as_slice.ensures.value c.place_of-place.ensures.bound)
    c.requires.absent (fresh_holding c.args.set) (ap (λ kept. record { set = c.args.set; kept = kept }) c.new-kept.ensures.items)
    c.len.result (c.len.ensures ∙ sym c.as_slice-2.ensures.len ∙ ap length c.as_slice-2.ensures.value) c.insert.new.self.items c.in-Ok.ensures.items c.push.new.self.items c.in-Ok-push.ensures.items).1
