use Rattle.ckr_queue.proofs.MountChanges.{counted-stored, stored-counted, stored-sound, stored-taken, taken-room}
use Rattle.ckr_queue.proofs.mounts.Mounts.take.Goals as goal

pub begin_use-requires-clause-room : goal.begin_use-requires-clause-room
begin_use-requires-clause-room c =
    let stored = counted-stored c.self.invariant c.self.view_is in
    taken-room stored c.args.volumes.items c.deref.result.now c.deref.ensures.0 c.requires.list

pub invariant_of-self : goal.invariant_of-self
invariant_of-self c =
    let stored = counted-stored c.self.invariant c.self.view_is in
    stored-counted (stored-taken stored c.args.initiator c.requires.first c.requires.last c.args.volumes c.deref.result.now c.begin_use.new.self c.deref.ensures.0 c.begin_use.ensures
    c.requires.none c.requires.list c.requires.mounted)

pub returns-clause-held : goal.returns-clause-held
returns-clause-held c =
    let stored = counted-stored c.self.invariant c.self.view_is in
    (stored-taken stored c.args.initiator c.requires.first c.requires.last c.args.volumes c.deref.result.now c.begin_use.new.self c.deref.ensures.0 c.begin_use.ensures
    c.requires.none c.requires.list c.requires.mounted).seen

pub returns-clause-sound : goal.returns-clause-sound
returns-clause-sound c =
    let stored = counted-stored c.self.invariant c.self.view_is in
    stored-sound (stored-taken stored c.args.initiator c.requires.first c.requires.last c.args.volumes c.deref.result.now c.begin_use.new.self c.deref.ensures.0 c.begin_use.ensures
    c.requires.none c.requires.list c.requires.mounted)
