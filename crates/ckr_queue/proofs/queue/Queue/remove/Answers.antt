use Rattle.std.proofs.Common.{◌∙◌, ap, sym}
use Rattle.std.specs.List.{position}
use Rattle.ckr_queue.specs.Queue.{is_of, RoomyQueue}
use Rattle.ckr_queue.proofs.Edits.{removed, removed_none}
use Rattle.ckr_queue.proofs.queue.Queue.remove.Goals as goal

pub invariant_of-self : goal.invariant_of-self
invariant_of-self c =
    record {
      rise =
          (removed c.self.inside.entries.items c.args.self.now.entries c.self.invariant.rise (ap (λ (q : RoomyQueue). q.entries) c.self.view_is) c.args.number c.in-Some.place c.remove.new.self.items
          (sym c.in-Some.is ∙ c.place_of.ensures ∙ ap (position (is_of c.args.number)) c.as_slice.ensures.value) c.remove.ensures.items).0;
      next_is = tt;
    }

pub returns-in-Some : goal.returns-in-Some
returns-in-Some c =
    (removed c.self.inside.entries.items c.args.self.now.entries c.self.invariant.rise (ap (λ (q : RoomyQueue). q.entries) c.self.view_is) c.args.number c.in-Some.place c.remove.new.self.items
    (sym c.in-Some.is ∙ c.place_of.ensures ∙ ap (position (is_of c.args.number)) c.as_slice.ensures.value) c.remove.ensures.items).1

pub returns-in_default : goal.returns-in_default
returns-in_default c =
    removed_none c.self.inside.entries.items c.args.self.now.entries c.self.invariant.rise (ap (λ (q : RoomyQueue). q.entries) c.self.view_is) c.args.number
    (sym c.in_default.is ∙ c.place_of.ensures ∙ ap (position (is_of c.args.number)) c.as_slice.ensures.value)
