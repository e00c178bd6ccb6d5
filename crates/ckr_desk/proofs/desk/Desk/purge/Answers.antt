use Rattle.std.proofs.Common.{◌∙◌, arith}
use Rattle.ckr_desk.proofs.Calls.Requests.{call-cause, call-fits, call-full, call-kept-by, call-may-fail, call-open, call-state, call-stays, call-told, call-trusted, if-err, on-ok, on-ok-all, on-ok-both, purge-called}
use Rattle.ckr_desk.specs.Submit.{purge_call}
use Rattle.ckr_desk.proofs.desk.Desk.purge.Goals as goal

pub returns-clause-comes : goal.returns-clause-comes
returns-clause-comes g c trusted =
    let d = g.D.Disk in
    let now = c.args.self.now in
    let new = c.take_out.new.self in
    let disk = new.store.disk in
    let laws = g.met.D.Disk g.world.𝓛 g.world.𝓜 g.world.𝓡 ((λ s x. x), (λ x. x), (λ x. x), λ x. x) in
    let call = purge_call now.jobs.tables.desk c.args.job in
    let its = purge-called d.told d.content d.may_leave d.size now trusted c.args.job c.ranges.job.fits in
    record {
      fits = on-ok (call-fits d.told d.content d.may_leave d.size now trusted new c.take_out.ensures.layout call its) c.take_out.result c.take_out.ensures.done;
      after = on-ok-all (call-state d.told d.content d.may_leave d.size now trusted new c.take_out.ensures.layout call its) c.take_out.result c.take_out.ensures.done (c.take_out.ensures.told trusted.tells) (c.take_out.ensures.records trusted.tells) c.take_out.ensures.settled;
      events = on-ok (call-told _ _ call) c.take_out.result (c.take_out.ensures.told trusted.tells);
      trusted = call-trusted d.told d.content d.may_leave d.size now trusted new c.take_out.ensures.layout d.moment d.left_since (laws.counts_now disk)
          (λ image may. laws.sized disk (d.moment disk) image (laws.counts_now disk (d.moment disk) image (omega arith) may) ∙ c.take_out.ensures.size) call its c.take_out.ensures.left
          c.take_out.result c.take_out.ensures.is_open c.take_out.ensures.done (c.take_out.ensures.told trusted.tells) (c.take_out.ensures.records trusted.tells) c.take_out.ensures.settled;
      cause = if-err (call-cause d.told d.content d.may_leave d.size now trusted d.faults new call its) c.take_out.result c.take_out.ensures.cause;
    }

pub returns-clause-keeps : goal.returns-clause-keeps
returns-clause-keeps g c =
    let d = g.D.Disk in
    let now = c.args.self.now in
    let new = c.take_out.new.self in
    let call = purge_call now.jobs.tables.desk c.args.job in
    record {
      is_open = on-ok-both (call-open d.faults now new call) c.take_out.result c.take_out.ensures.done c.take_out.ensures.is_open;
      same_layout = c.take_out.ensures.layout;
      same_size = c.take_out.ensures.size;
      never_falls = c.take_out.ensures.faults;
      stopped = c.take_out.ensures.stopped;
      may_fail = if-err (call-may-fail d.faults now new call) c.take_out.result c.take_out.ensures.cause;
      stays = if-err (call-stays d.faults now new d.content d.may_leave call) c.take_out.result c.take_out.ensures.cause;
    }

pub returns-clause-kept : goal.returns-clause-kept
returns-clause-kept g c is_open trusted =
    let d = g.D.Disk in
    let now = c.args.self.now in
    let call = purge_call now.jobs.tables.desk c.args.job in
    let its = purge-called d.told d.content d.may_leave d.size now trusted c.args.job c.ranges.job.fits in
    let laws = g.met.D.Disk g.world.𝓛 g.world.𝓜 g.world.𝓡 ((λ s x. x), (λ x. x), (λ x. x), λ x. x) in
    call-kept-by d.told d.content d.may_leave d.size now trusted d.moment d.left_since
    c.take_out.ensures.sound is_open d.faults c.take_out.new.self call c.take_out.result its (laws.only_now now.store.disk)
    (c.take_out.ensures.left is_open) c.take_out.ensures.cause

pub returns-clause-told : goal.returns-clause-told
returns-clause-told g c tells = on-ok (call-told _ _ (purge_call c.args.self.now.jobs.tables.desk c.args.job)) c.take_out.result (c.take_out.ensures.told tells)

pub returns-clause-full : goal.returns-clause-full
returns-clause-full g c = if-err (call-full g.D.Disk.faults c.args.self.now c.take_out.new.self (purge_call c.args.self.now.jobs.tables.desk c.args.job)) c.take_out.result c.take_out.ensures.cause
