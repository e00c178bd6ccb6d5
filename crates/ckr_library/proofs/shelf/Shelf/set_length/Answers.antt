use Rattle.std.proofs.Common.{◌≤◌, ap, slice_set, subst}
use Rattle.ckr_library.specs.Catalog.{entry_room, with_length}
use Rattle.ckr_library.specs.Shelves.{picked}
use Rattle.ckr_library.proofs.EntryRooms.{room_under}
use Rattle.ckr_library.proofs.ItemEdits.{item-changed, item-rooms, slot-seen}
use Rattle.ckr_library.proofs.shelf.Shelf.set_length.Goals as goal

pub invariant_of-self : goal.invariant_of-self
invariant_of-self c =
    (item-changed c.self.inside.order.items c.self.inside.items.items c.self.invariant c.args.self.now.sets (ap (λ v. v.sets) c.self.view_is) c.args.name.now (λ _. Unit {0}) c.requires c.item_of-item.result
    (slot-seen _ _ _ _ c.as_slice.ensures.value c.as_slice-2.ensures.value c.args.name.now c.item_of-item.result c.item_of-item.ensures.item)
    c.index_mut.result.now c.cut.new.held c.index_mut.ensures.value c.cut.ensures.name (with_length c.args.length) c.cut.ensures.holding).0

pub returns-clause-sets : goal.returns-clause-sets
returns-clause-sets c =
    (item-changed c.self.inside.order.items c.self.inside.items.items c.self.invariant c.args.self.now.sets (ap (λ v. v.sets) c.self.view_is) c.args.name.now (λ _. Unit {0}) c.requires c.item_of-item.result
    (slot-seen _ _ _ _ c.as_slice.ensures.value c.as_slice-2.ensures.value c.args.name.now c.item_of-item.result c.item_of-item.ensures.item)
    c.index_mut.result.now c.cut.new.held c.index_mut.ensures.value c.cut.ensures.name (with_length c.args.length) c.cut.ensures.holding).1

pub returns-clause-entries : goal.returns-clause-entries
returns-clause-entries c name =
    subst (λ v. entry_room v name ≤ room_under (picked c.self.inside.order.items (slice_set c.self.inside.items.items c.item_of-item.result c.cut.new.held)) name) c.self.view_is (
    item-rooms c.self.inside.order.items c.self.inside.items.items c.self.invariant c.args.self.now.sets (ap (λ v. v.sets) c.self.view_is) c.args.name.now (λ _. Unit {0}) c.requires c.item_of-item.result
    (slot-seen _ _ _ _ c.as_slice.ensures.value c.as_slice-2.ensures.value c.args.name.now c.item_of-item.result c.item_of-item.ensures.item)
    c.index_mut.result.now c.cut.new.held c.index_mut.ensures.value c.cut.ensures.name c.cut.ensures.room name)
