use Rattle.std.proofs.Common.{◌∙◌, ap}
use Rattle.ckr_library.specs.Places.{lead}
use Rattle.ckr_queue.specs.Queue.{is_below, queued, RoomyQueue}
use Rattle.ckr_queue.proofs.Edits.{inserted}
use Rattle.ckr_queue.proofs.queue.Queue.submit.Goals as goal

pub invariant_of-self-2 : goal.invariant_of-self-2
invariant_of-self-2 c =
    record {
      rise =
          (inserted c.self.inside.entries.items c.args.self.now.entries c.self.invariant.rise (ap (λ (q : RoomyQueue). q.entries) c.self.view_is) (queued c.args.number c.args.uses) c.place_for-place.result c.insert.new.self.items
          (c.place_for-place.ensures.place ∙ ap (lead (is_below c.args.number)) c.as_slice.ensures.value) c.in_ok-insert.ensures.items c.requires).0;
      next_is = tt;
    }

pub returns-clause-ok : goal.returns-clause-ok
returns-clause-ok c =
    (inserted c.self.inside.entries.items c.args.self.now.entries c.self.invariant.rise (ap (λ (q : RoomyQueue). q.entries) c.self.view_is) (queued c.args.number c.args.uses) c.place_for-place.result c.insert.new.self.items
    (c.place_for-place.ensures.place ∙ ap (lead (is_below c.args.number)) c.as_slice.ensures.value) c.in_ok-insert.ensures.items c.requires).1
