use Rattle.std.proofs.Common.{OnOk, ap, slice_set, subst, sym, ◌<◌, ◌∙◌, ◌≤◌}
use Rattle.ckr_library.specs.Catalog.{entry_room}
use Rattle.ckr_library.specs.Shelves.{picked}
use Rattle.ckr_library.proofs.EntryRooms.{room_under}
use Rattle.ckr_library.proofs.ItemEdits.{item-room, item-room-after, item-rooms, item-same, slot-seen}
use Rattle.ckr_library.proofs.shelf.Shelf.reserve_entry.Goals as goal

pub invariant_of-self : goal.invariant_of-self
invariant_of-self c =
    (item-same c.self.inside.order.items c.self.inside.items.items c.self.invariant c.args.self.now.sets (ap (λ v. v.sets) c.self.view_is) c.args.name.now (λ _. Unit {0}) c.requires c.item_of-item.result
    (slot-seen _ _ _ _ c.as_slice.ensures.value c.as_slice-2.ensures.value c.args.name.now c.item_of-item.result c.item_of-item.ensures.item)
    c.index_mut.result.now c.make_room.new.held c.index_mut.ensures.value c.make_room.ensures.name c.make_room.ensures.holding).0

pub returns-clause-sets : goal.returns-clause-sets
returns-clause-sets c =
    (item-same c.self.inside.order.items c.self.inside.items.items c.self.invariant c.args.self.now.sets (ap (λ v. v.sets) c.self.view_is) c.args.name.now (λ _. Unit {0}) c.requires c.item_of-item.result
    (slot-seen _ _ _ _ c.as_slice.ensures.value c.as_slice-2.ensures.value c.args.name.now c.item_of-item.result c.item_of-item.ensures.item)
    c.index_mut.result.now c.make_room.new.held c.index_mut.ensures.value c.make_room.ensures.name c.make_room.ensures.holding).1

pub returns-clause-ok : goal.returns-clause-ok
returns-clause-ok c =
    subst (λ n. OnOk c.make_room.result (0 < n)) (sym (item-room-after c.self.inside.order.items c.self.inside.items.items c.self.invariant c.args.self.now.sets (ap (λ v. v.sets) c.self.view_is) c.args.name.now (λ _. Unit {0}) c.requires c.item_of-item.result
    (slot-seen _ _ _ _ c.as_slice.ensures.value c.as_slice-2.ensures.value c.args.name.now c.item_of-item.result c.item_of-item.ensures.item)
    c.index_mut.result.now c.make_room.new.held c.index_mut.ensures.value c.make_room.ensures.name)) c.make_room.ensures.ok

pub returns-clause-succeeds : goal.returns-clause-succeeds
returns-clause-succeeds c more =
    c.make_room.ensures.succeeds (subst (λ n. 0 < n) (ap (λ v. entry_room v c.args.name.now) (sym c.self.view_is) ∙ item-room c.self.inside.order.items c.self.inside.items.items c.self.invariant c.args.self.now.sets (ap (λ v. v.sets) c.self.view_is) c.args.name.now (λ _. Unit {0}) c.requires c.item_of-item.result
    (slot-seen _ _ _ _ c.as_slice.ensures.value c.as_slice-2.ensures.value c.args.name.now c.item_of-item.result c.item_of-item.ensures.item)
    c.index_mut.result.now c.index_mut.ensures.value) more)

pub returns-clause-entries : goal.returns-clause-entries
returns-clause-entries c name =
    subst (λ v. entry_room v name ≤ room_under (picked c.self.inside.order.items (slice_set c.self.inside.items.items c.item_of-item.result c.make_room.new.held)) name) c.self.view_is (
    item-rooms c.self.inside.order.items c.self.inside.items.items c.self.invariant c.args.self.now.sets (ap (λ v. v.sets) c.self.view_is) c.args.name.now (λ _. Unit {0}) c.requires c.item_of-item.result
    (slot-seen _ _ _ _ c.as_slice.ensures.value c.as_slice-2.ensures.value c.args.name.now c.item_of-item.result c.item_of-item.ensures.item)
    c.index_mut.result.now c.make_room.new.held c.index_mut.ensures.value c.make_room.ensures.name c.make_room.ensures.room name)
