use Rattle.std.proofs.Common.{ap, refl, subst, sym, ◌<◌, ◌∙◌}
use Rattle.ckr_library.specs.Catalog.{entry_room, with_kept}
use Rattle.ckr_library.specs.Shelves.{holding_of}
use Rattle.ckr_library.proofs.EntryRooms.{on-err, on-ok}
use Rattle.ckr_library.proofs.ItemEdits.{item-changed, item-room, item-same, slot-seen}
use Rattle.ckr_library.proofs.shelf.Shelf.keep.Goals as goal

pub invariant_of-self : goal.invariant_of-self
invariant_of-self c =
    (item-changed c.self.inside.order.items c.self.inside.items.items c.self.invariant c.args.self.now.sets (ap (λ v. v.sets) c.self.view_is) c.args.name.now (λ _. Unit {0}) c.requires c.item_of-item.result
    (slot-seen _ _ _ _ c.as_slice.ensures.value c.as_slice-2.ensures.value c.args.name.now c.item_of-item.result c.item_of-item.ensures.item)
    c.index_mut.result.now c.put.new.held c.index_mut.ensures.value c.put.ensures.name (λ _. holding_of c.put.new.held) refl).0

pub returns-clause-ok : goal.returns-clause-ok
returns-clause-ok c =
    on-ok c.put.result (λ kept. (item-changed c.self.inside.order.items c.self.inside.items.items c.self.invariant c.args.self.now.sets (ap (λ v. v.sets) c.self.view_is) c.args.name.now (λ _. Unit {0}) c.requires c.item_of-item.result
    (slot-seen _ _ _ _ c.as_slice.ensures.value c.as_slice-2.ensures.value c.args.name.now c.item_of-item.result c.item_of-item.ensures.item)
    c.index_mut.result.now c.put.new.held c.index_mut.ensures.value c.put.ensures.name (with_kept c.args.kept) kept).1) c.put.ensures.ok

pub returns-clause-err : goal.returns-clause-err
returns-clause-err c =
    on-err c.put.result (λ same. (item-same c.self.inside.order.items c.self.inside.items.items c.self.invariant c.args.self.now.sets (ap (λ v. v.sets) c.self.view_is) c.args.name.now (λ _. Unit {0}) c.requires c.item_of-item.result
    (slot-seen _ _ _ _ c.as_slice.ensures.value c.as_slice-2.ensures.value c.args.name.now c.item_of-item.result c.item_of-item.ensures.item)
    c.index_mut.result.now c.put.new.held c.index_mut.ensures.value c.put.ensures.name same).1) c.put.ensures.err

pub returns-clause-succeeds : goal.returns-clause-succeeds
returns-clause-succeeds c more =
    c.put.ensures.succeeds (subst (λ n. 0 < n) (ap (λ v. entry_room v c.args.name.now) (sym c.self.view_is) ∙ item-room c.self.inside.order.items c.self.inside.items.items c.self.invariant c.args.self.now.sets (ap (λ v. v.sets) c.self.view_is) c.args.name.now (λ _. Unit {0}) c.requires c.item_of-item.result
    (slot-seen _ _ _ _ c.as_slice.ensures.value c.as_slice-2.ensures.value c.args.name.now c.item_of-item.result c.item_of-item.ensures.item)
    c.index_mut.result.now c.index_mut.ensures.value) more)
