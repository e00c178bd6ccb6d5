use Rattle.std.proofs.Common.{refl, ◌∙◌, ap, sym}
use Rattle.std.specs.List.{position}
use Rattle.ckr_queue.specs.Queue.{is_of, RoomyQueue}
use Rattle.ckr_queue.proofs.Edits.{changed, changed_none}
use Rattle.ckr_queue.proofs.queue.Queue.set_state.Goals as goal

pub invariant_of-self : goal.invariant_of-self
invariant_of-self c =
    record {
      rise =
          (changed c.self.inside.entries.items c.args.self.now.entries c.self.invariant.rise (ap (λ (q : RoomyQueue). q.entries) c.self.view_is) c.args.number c.args.state c.in-Some.place c.index_mut.result.now _
          (sym c.in-Some.is ∙ c.place_of.ensures ∙ ap (position (is_of c.args.number)) c.as_slice.ensures.value) c.index_mut.ensures.value refl).0;
      next_is = tt;
    }

pub returns-in-Some : goal.returns-in-Some
returns-in-Some c =
    (changed c.self.inside.entries.items c.args.self.now.entries c.self.invariant.rise (ap (λ (q : RoomyQueue). q.entries) c.self.view_is) c.args.number c.args.state c.in-Some.place c.index_mut.result.now _
    (sym c.in-Some.is ∙ c.place_of.ensures ∙ ap (position (is_of c.args.number)) c.as_slice.ensures.value) c.index_mut.ensures.value refl).1

pub returns-in_default : goal.returns-in_default
returns-in_default c =
    changed_none c.self.inside.entries.items c.args.self.now.entries c.self.invariant.rise (ap (λ (q : RoomyQueue). q.entries) c.self.view_is) c.args.number c.args.state
    (sym c.in_default.is ∙ c.place_of.ensures ∙ ap (position (is_of c.args.number)) c.as_slice.ensures.value)
