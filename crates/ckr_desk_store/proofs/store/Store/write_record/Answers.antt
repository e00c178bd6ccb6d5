use Rattle.std.proofs.Common.{◌≤◌, ◌+◌, ap, sym, subst, arith}
use Rattle.std.proofs.lemmas.Bool.{false≢true}
use Rattle.ckr_volumes.specs.declared.layout.Layout.{Layout}
use Rattle.ckr_volumes.specs.Addresses.{address_behind}
use Rattle.ckr_volumes.specs.Places.{address_of}
use Rattle.ckr_volumes.specs.Layouts.{StandsIn}
use Rattle.ckr_desk_store.proofs.Soundness.{same_events, opens_elsewhere, sound_elsewhere}
use Rattle.ckr_desk_store.proofs.store.Store.write_record.Goals as goal

pub invariant_of-self : goal.invariant_of-self
invariant_of-self g c =
    let d = g.D.Disk in
    let laws = g.met.D.Disk g.world.𝓛 g.world.𝓜 g.world.𝓡 ((λ s x. x), (λ x. x), (λ x. x), λ x. x) in
    let layout = c.self.inside.layout in
    let stands : StandsIn layout c.args.set.now = subst (λ (l : Layout). StandsIn l c.args.set.now) (sym (ap (λ s. s.layout) c.self.view_is)) c.requires.stands in
    let behind : 512 + layout.book ≤ address_of layout c.args.set.now c.args.place = omega (arith, address_behind layout c.self.invariant.sound.laid c.args.set.now stands c.args.place c.requires.place) in
    record {
      sound = sound_elsewhere d.told d.content d.may_leave d.moment d.left_since d.size _ c.self.invariant.sound _ _ behind c.write_record.new.disk c.write_record.ensures.changes
          c.write_record.ensures.size (laws.counts_now c.write_record.new.disk) (laws.tells c.write_record.new.disk);
      settled = λ is. absurd (false≢true is);
    }

-- so the store as it is seen then is sound
pub returns-in-Ok-clause-sound : goal.returns-in-Ok-clause-sound
returns-in-Ok-clause-sound g c = (invariant_of-self g c).sound

pub returns-in-Ok-clause-events : goal.returns-in-Ok-clause-events
returns-in-Ok-clause-events g c =
    let d = g.D.Disk in
    let layout = c.self.inside.layout in
    let stands : StandsIn layout c.args.set.now = subst (λ (l : Layout). StandsIn l c.args.set.now) (sym (ap (λ s. s.layout) c.self.view_is)) c.requires.stands in
    let behind : 512 + layout.book ≤ address_of layout c.args.set.now c.args.place = omega (arith, address_behind layout c.self.invariant.sound.laid c.args.set.now stands c.args.place c.requires.place) in
    rw (← c.self.view_is) (same_events d.told d.content d.may_leave d.moment d.left_since d.size _ c.self.invariant.sound _ _ behind c.write_record.new.disk c.write_record.ensures.changes)

pub returns-in-Ok-clause-any_moment : goal.returns-in-Ok-clause-any_moment
returns-in-Ok-clause-any_moment g c =
    let d = g.D.Disk in
    let layout = c.self.inside.layout in
    let stands : StandsIn layout c.args.set.now = subst (λ (l : Layout). StandsIn l c.args.set.now) (sym (ap (λ s. s.layout) c.self.view_is)) c.requires.stands in
    let behind : 512 + layout.book ≤ address_of layout c.args.set.now c.args.place = omega (arith, address_behind layout c.self.invariant.sound.laid c.args.set.now stands c.args.place c.requires.place) in
    rw (← c.self.view_is) (opens_elsewhere d.told d.content d.may_leave d.moment d.left_since d.size _ c.self.invariant.sound _ _ behind c.write_record.new.disk c.write_record.ensures.changes)

pub returns-in-Err-clause-events : goal.returns-in-Err-clause-events
returns-in-Err-clause-events g c =
    let d = g.D.Disk in
    let layout = c.self.inside.layout in
    let stands : StandsIn layout c.args.set.now = subst (λ (l : Layout). StandsIn l c.args.set.now) (sym (ap (λ s. s.layout) c.self.view_is)) c.requires.stands in
    let behind : 512 + layout.book ≤ address_of layout c.args.set.now c.args.place = omega (arith, address_behind layout c.self.invariant.sound.laid c.args.set.now stands c.args.place c.requires.place) in
    rw (← c.self.view_is) (same_events d.told d.content d.may_leave d.moment d.left_since d.size _ c.self.invariant.sound _ _ behind c.write_record.new.disk c.write_record.ensures.changes)

pub returns-in-Err-clause-any_moment : goal.returns-in-Err-clause-any_moment
returns-in-Err-clause-any_moment g c =
    let d = g.D.Disk in
    let layout = c.self.inside.layout in
    let stands : StandsIn layout c.args.set.now = subst (λ (l : Layout). StandsIn l c.args.set.now) (sym (ap (λ s. s.layout) c.self.view_is)) c.requires.stands in
    let behind : 512 + layout.book ≤ address_of layout c.args.set.now c.args.place = omega (arith, address_behind layout c.self.invariant.sound.laid c.args.set.now stands c.args.place c.requires.place) in
    rw (← c.self.view_is) (opens_elsewhere d.told d.content d.may_leave d.moment d.left_since d.size _ c.self.invariant.sound _ _ behind c.write_record.new.disk c.write_record.ensures.changes)
