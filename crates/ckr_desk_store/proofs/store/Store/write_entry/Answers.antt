use Rattle.std.proofs.Common.{length, ap, sym, subst}
use Rattle.ckr_library.specs.Catalog.{records_of}
use Rattle.ckr_steps.proofs.EntryRecords.{records-keeping}
use Rattle.ckr_volumes.specs.declared.layout.Layout.{Layout}
use Rattle.ckr_volumes.specs.Layouts.{StandsIn}
use Rattle.ckr_desk_store.proofs.EntryWrites.{alone, alone-keeping}
use Rattle.ckr_desk_store.proofs.Soundness.{events_keeping, opens_keeping, sound_keeping}
use Rattle.ckr_desk_store.proofs.store.Store.write_entry.Goals as goal

pub invariant_of-self : goal.invariant_of-self
invariant_of-self g c =
    let d = g.D.Disk in
    let laws = g.met.D.Disk g.world.𝓛 g.world.𝓜 g.world.𝓡 ((λ s x. x), (λ x. x), (λ x. x), λ x. x) in
    let set = c.args.set.now in
    let stands : StandsIn c.self.inside.layout set = subst (λ (l : Layout). StandsIn l set) (sym (ap (λ s. s.layout) c.self.view_is)) c.requires.stands in
    record {
      sound = sound_keeping d.told d.content d.may_leave d.moment d.left_since d.size _ c.self.invariant.sound (alone set) c.write_for_good.new.disk
          (alone-keeping d.told d.content d.may_leave d.moment d.left_since c.self.inside.layout set (records_of (length c.args.entry.now)) c.self.inside.disk c.write_for_good.new.disk stands c.write_for_good.ensures.changes)
          c.write_for_good.ensures.size (laws.counts_now c.write_for_good.new.disk) (laws.tells c.write_for_good.new.disk);
      settled = λ _. c.in-Ok.ensures.settled;
    }

-- so the store as it is seen then is sound
pub returns-in-Ok-clause-sound : goal.returns-in-Ok-clause-sound
returns-in-Ok-clause-sound g c = (invariant_of-self g c).sound

pub returns-in-Ok-clause-keeps : goal.returns-in-Ok-clause-keeps
returns-in-Ok-clause-keeps g c =
    let d = g.D.Disk in
    rw (← c.self.view_is)
    (λ library name stored was.
    records-keeping c.self.inside.layout name c.args.set.now library (records_of (length c.args.entry.now)) stored was d.told d.content d.may_leave d.moment d.left_since c.self.inside.disk c.write_for_good.new.disk c.write_for_good.ensures.changes)

pub returns-in-Ok-clause-events : goal.returns-in-Ok-clause-events
returns-in-Ok-clause-events g c =
    let d = g.D.Disk in
    let set = c.args.set.now in
    let stands : StandsIn c.self.inside.layout set = subst (λ (l : Layout). StandsIn l set) (sym (ap (λ s. s.layout) c.self.view_is)) c.requires.stands in
    rw (← c.self.view_is)
    (events_keeping d.told d.content d.may_leave d.moment d.left_since d.size _ c.self.invariant.sound (alone set) c.write_for_good.new.disk
    (alone-keeping d.told d.content d.may_leave d.moment d.left_since c.self.inside.layout set (records_of (length c.args.entry.now)) c.self.inside.disk c.write_for_good.new.disk stands c.write_for_good.ensures.changes))

pub returns-in-Ok-clause-any_moment : goal.returns-in-Ok-clause-any_moment
returns-in-Ok-clause-any_moment g c =
    let d = g.D.Disk in
    let set = c.args.set.now in
    let stands : StandsIn c.self.inside.layout set = subst (λ (l : Layout). StandsIn l set) (sym (ap (λ s. s.layout) c.self.view_is)) c.requires.stands in
    rw (← c.self.view_is)
    (opens_keeping d.told d.content d.may_leave d.moment d.left_since d.size _ c.self.invariant.sound (alone set) c.write_for_good.new.disk
    (alone-keeping d.told d.content d.may_leave d.moment d.left_since c.self.inside.layout set (records_of (length c.args.entry.now)) c.self.inside.disk c.write_for_good.new.disk stands c.write_for_good.ensures.changes))

pub returns-in-Err-clause-keeps : goal.returns-in-Err-clause-keeps
returns-in-Err-clause-keeps g c =
    let d = g.D.Disk in
    rw (← c.self.view_is)
    (λ library name stored was.
    records-keeping c.self.inside.layout name c.args.set.now library (records_of (length c.args.entry.now)) stored was d.told d.content d.may_leave d.moment d.left_since c.self.inside.disk c.write_for_good.new.disk c.write_for_good.ensures.changes)

pub returns-in-Err-clause-events : goal.returns-in-Err-clause-events
returns-in-Err-clause-events g c =
    let d = g.D.Disk in
    let set = c.args.set.now in
    let stands : StandsIn c.self.inside.layout set = subst (λ (l : Layout). StandsIn l set) (sym (ap (λ s. s.layout) c.self.view_is)) c.requires.stands in
    rw (← c.self.view_is)
    (events_keeping d.told d.content d.may_leave d.moment d.left_since d.size _ c.self.invariant.sound (alone set) c.write_for_good.new.disk
    (alone-keeping d.told d.content d.may_leave d.moment d.left_since c.self.inside.layout set (records_of (length c.args.entry.now)) c.self.inside.disk c.write_for_good.new.disk stands c.write_for_good.ensures.changes))

pub returns-in-Err-clause-any_moment : goal.returns-in-Err-clause-any_moment
returns-in-Err-clause-any_moment g c =
    let d = g.D.Disk in
    let set = c.args.set.now in
    let stands : StandsIn c.self.inside.layout set = subst (λ (l : Layout). StandsIn l set) (sym (ap (λ s. s.layout) c.self.view_is)) c.requires.stands in
    rw (← c.self.view_is)
    (opens_keeping d.told d.content d.may_leave d.moment d.left_since d.size _ c.self.invariant.sound (alone set) c.write_for_good.new.disk
    (alone-keeping d.told d.content d.may_leave d.moment d.left_since c.self.inside.layout set (records_of (length c.args.entry.now)) c.self.inside.disk c.write_for_good.new.disk stands c.write_for_good.ensures.changes))
