use Rattle.ckr_desk_store.proofs.Soundness.{book_inside}
use Rattle.ckr_desk_store.proofs.store.Store.append.Goals as goal

pub append_parts-requires-clause-inside : goal.append_parts-requires-clause-inside
append_parts-requires-clause-inside g c κs within =
    let d = g.D.Disk in
    book_inside d.told d.content d.may_leave d.moment d.left_since d.size _ c.self.invariant.sound
