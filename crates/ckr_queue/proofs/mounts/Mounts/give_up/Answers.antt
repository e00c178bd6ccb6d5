use Rattle.std.proofs.Common.{◌∙◌, sym}
use Rattle.ckr_queue.proofs.MountChanges.{counted-stored, given-list, given-used, stored-counted, stored-given, stored-none, stored-sound}
use Rattle.ckr_queue.proofs.mounts.Mounts.give_up.Goals as goal

pub end_use-requires-clause-list : goal.end_use-requires-clause-list
end_use-requires-clause-list c =
    let stored = counted-stored c.self.invariant c.self.view_is in
    given-list stored c.args.initiator c.requires.first c.requires.last c.in-Some.volumes c.index-self-initiator.result (sym c.in-Some.is ∙ c.take.ensures.value)
    c.deref.result.now c.deref.ensures.0

pub end_use-requires-clause-used : goal.end_use-requires-clause-used
end_use-requires-clause-used c =
    let stored = counted-stored c.self.invariant c.self.view_is in
    given-used stored c.args.initiator c.requires.first c.requires.last c.in-Some.volumes c.index-self-initiator.result (sym c.in-Some.is ∙ c.take.ensures.value)
    c.deref.result.now c.deref.ensures.0

pub invariant_of-self : goal.invariant_of-self
invariant_of-self c =
    let stored = counted-stored c.self.invariant c.self.view_is in
    rw c.take.ensures.after (stored-counted (stored-given stored c.args.initiator c.requires.first c.requires.last c.in-Some.volumes c.index-self-initiator.result (sym c.in-Some.is ∙ c.take.ensures.value)
    c.deref.result.now c.deref.ensures.0 c.end_use.new.self c.end_use.ensures))

pub returns-in-Some-clause-held : goal.returns-in-Some-clause-held
returns-in-Some-clause-held c =
    let stored = counted-stored c.self.invariant c.self.view_is in
    rw c.take.ensures.after (stored-given stored c.args.initiator c.requires.first c.requires.last c.in-Some.volumes c.index-self-initiator.result (sym c.in-Some.is ∙ c.take.ensures.value)
    c.deref.result.now c.deref.ensures.0 c.end_use.new.self c.end_use.ensures).seen

pub returns-in-Some-clause-sound : goal.returns-in-Some-clause-sound
returns-in-Some-clause-sound c =
    let stored = counted-stored c.self.invariant c.self.view_is in
    rw c.take.ensures.after (stored-sound (stored-given stored c.args.initiator c.requires.first c.requires.last c.in-Some.volumes c.index-self-initiator.result (sym c.in-Some.is ∙ c.take.ensures.value)
    c.deref.result.now c.deref.ensures.0 c.end_use.new.self c.end_use.ensures))

pub returns-in_default-clause-held : goal.returns-in_default-clause-held
returns-in_default-clause-held c =
    let stored = counted-stored c.self.invariant c.self.view_is in
    rw c.take.ensures.after (stored-none stored c.args.initiator c.requires.first c.requires.last c.index-self-initiator.result (sym c.in_default.is ∙ c.take.ensures.value)).seen
