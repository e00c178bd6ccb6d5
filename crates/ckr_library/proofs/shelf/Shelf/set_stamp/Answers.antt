use Rattle.std.proofs.Common.{ap, refl}
use Rattle.ckr_library.specs.Catalog.{with_stamp}
use Rattle.ckr_library.proofs.ItemEdits.{item-changed, slot-seen}
use Rattle.ckr_library.proofs.shelf.Shelf.set_stamp.Goals as goal

pub invariant_of-self : goal.invariant_of-self
invariant_of-self c =
    (item-changed c.self.inside.order.items c.self.inside.items.items c.self.invariant c.args.self.now.sets (ap (λ v. v.sets) c.self.view_is) c.args.name.now (λ _. Unit {0}) c.requires c.item_of-item.result
    (slot-seen _ _ _ _ c.as_slice.ensures.value c.as_slice-2.ensures.value c.args.name.now c.item_of-item.result c.item_of-item.ensures.item)
    c.index_mut.result.now (record c.index_mut.result.now { set = record c.index_mut.result.now.set { stamp = c.args.stamp } }) c.index_mut.ensures.value refl (with_stamp c.args.stamp) refl).0

pub returns-clause-sets : goal.returns-clause-sets
returns-clause-sets c =
    (item-changed c.self.inside.order.items c.self.inside.items.items c.self.invariant c.args.self.now.sets (ap (λ v. v.sets) c.self.view_is) c.args.name.now (λ _. Unit {0}) c.requires c.item_of-item.result
    (slot-seen _ _ _ _ c.as_slice.ensures.value c.as_slice-2.ensures.value c.args.name.now c.item_of-item.result c.item_of-item.ensures.item)
    c.index_mut.result.now (record c.index_mut.result.now { set = record c.index_mut.result.now.set { stamp = c.args.stamp } }) c.index_mut.ensures.value refl (with_stamp c.args.stamp) refl).1
