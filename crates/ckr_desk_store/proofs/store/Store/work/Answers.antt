use Rattle.std.proofs.lemmas.Bool.{false≢true}
use Rattle.ckr_desk_store.proofs.Soundness.{events_keeping, opens_keeping, sound_keeping}
use Rattle.ckr_desk_store.proofs.store.Store.work.Goals as goal

pub invariant_of-self : goal.invariant_of-self
invariant_of-self g c =
    let d = g.D.Disk in
    let laws = g.met.D.Disk g.world.𝓛 g.world.𝓜 g.world.𝓡 ((λ s x. x), (λ x. x), (λ x. x), λ x. x) in
    record {
      sound = sound_keeping d.told d.content d.may_leave d.moment d.left_since d.size _ c.self.invariant.sound _ c.work.new.disk c.work.ensures.keeps
          c.work.ensures.size (laws.counts_now c.work.new.disk) (laws.tells c.work.new.disk);
      settled = λ is. absurd (false≢true is);
    }

-- so the store as it is seen then is sound
pub returns-in-Ok-clause-sound : goal.returns-in-Ok-clause-sound
returns-in-Ok-clause-sound g c = (invariant_of-self g c).sound

pub returns-in-Ok-clause-goes_on : goal.returns-in-Ok-clause-goes_on
returns-in-Ok-clause-goes_on g c = rw (← c.self.view_is) (λ told. c.in-Ok.ensures.goes_on told)

pub returns-in-Ok-clause-events : goal.returns-in-Ok-clause-events
returns-in-Ok-clause-events g c =
    let d = g.D.Disk in
    rw (← c.self.view_is) (events_keeping d.told d.content d.may_leave d.moment d.left_since d.size _ c.self.invariant.sound _ c.work.new.disk c.work.ensures.keeps)

pub returns-in-Ok-clause-any_moment : goal.returns-in-Ok-clause-any_moment
returns-in-Ok-clause-any_moment g c =
    let d = g.D.Disk in
    rw (← c.self.view_is) (opens_keeping d.told d.content d.may_leave d.moment d.left_since d.size _ c.self.invariant.sound _ c.work.new.disk c.work.ensures.keeps)

pub returns-in-Err-clause-events : goal.returns-in-Err-clause-events
returns-in-Err-clause-events g c =
    let d = g.D.Disk in
    rw (← c.self.view_is) (events_keeping d.told d.content d.may_leave d.moment d.left_since d.size _ c.self.invariant.sound _ c.work.new.disk c.work.ensures.keeps)

pub returns-in-Err-clause-any_moment : goal.returns-in-Err-clause-any_moment
returns-in-Err-clause-any_moment g c =
    let d = g.D.Disk in
    rw (← c.self.view_is) (opens_keeping d.told d.content d.may_leave d.moment d.left_since d.size _ c.self.invariant.sound _ c.work.new.disk c.work.ensures.keeps)
