use Rattle.std.proofs.Common.{◌∙◌, arith}
use Rattle.ckr_desk.proofs.Calls.Requests.{call-cause, call-fits, call-full, call-kept-by, call-may-fail, call-open, call-state, call-stays, call-told, call-trusted, if-err, on-ok, on-ok-all, on-ok-both, submit-called}
use Rattle.ckr_desk.proofs.Trust.Counts.{book-limit, trusted-numbered}
use Rattle.ckr_desk.specs.Submit.{submit_call}
use Rattle.ckr_desk.proofs.desk.Desk.submit.Goals as goal

pub returns-clause-comes : goal.returns-clause-comes
returns-clause-comes g c trusted =
    let d = g.D.Disk in
    let now = c.args.self.now in
    let new = c.hand_in.new.self in
    let disk = new.store.disk in
    let laws = g.met.D.Disk g.world.𝓛 g.world.𝓜 g.world.𝓡 ((λ s x. x), (λ x. x), (λ x. x), λ x. x) in
    let call = submit_call now.jobs.tables.desk c.args.cards.now in
    let its = submit-called d.told d.content d.may_leave d.size now trusted c.args.cards.now c.requires.some in
    record {
      fits = on-ok (call-fits d.told d.content d.may_leave d.size now trusted new c.hand_in.ensures.layout call its) c.hand_in.result c.hand_in.ensures.done;
      after = on-ok-all (call-state d.told d.content d.may_leave d.size now trusted new c.hand_in.ensures.layout call its) c.hand_in.result c.hand_in.ensures.done (c.hand_in.ensures.told trusted.tells) (c.hand_in.ensures.records trusted.tells) c.hand_in.ensures.settled;
      events = on-ok (call-told _ _ call) c.hand_in.result (c.hand_in.ensures.told trusted.tells);
      trusted = call-trusted d.told d.content d.may_leave d.size now trusted new c.hand_in.ensures.layout d.moment d.left_since (laws.counts_now disk)
          (λ image may. laws.sized disk (d.moment disk) image (laws.counts_now disk (d.moment disk) image (omega arith) may) ∙ c.hand_in.ensures.size) call its c.hand_in.ensures.left
          c.hand_in.result c.hand_in.ensures.is_open c.hand_in.ensures.done (c.hand_in.ensures.told trusted.tells) (c.hand_in.ensures.records trusted.tells) c.hand_in.ensures.settled;
      cause = if-err (call-cause d.told d.content d.may_leave d.size now trusted d.faults new call its) c.hand_in.result c.hand_in.ensures.cause;
    }

pub returns-clause-numbered : goal.returns-clause-numbered
returns-clause-numbered g c trusted =
    let d = g.D.Disk in
    let now = c.args.self.now in
    let sound = c.hand_in.ensures.sound in
    trusted-numbered d.told d.content d.may_leave now trusted (book-limit now.store.layout (d.size now.store.disk) sound.header)

pub returns-clause-keeps : goal.returns-clause-keeps
returns-clause-keeps g c =
    let d = g.D.Disk in
    let now = c.args.self.now in
    let new = c.hand_in.new.self in
    let call = submit_call now.jobs.tables.desk c.args.cards.now in
    record {
      is_open = on-ok-both (call-open d.faults now new call) c.hand_in.result c.hand_in.ensures.done c.hand_in.ensures.is_open;
      same_layout = c.hand_in.ensures.layout;
      same_size = c.hand_in.ensures.size;
      never_falls = c.hand_in.ensures.faults;
      stopped = c.hand_in.ensures.stopped;
      may_fail = if-err (call-may-fail d.faults now new call) c.hand_in.result c.hand_in.ensures.cause;
      stays = if-err (call-stays d.faults now new d.content d.may_leave call) c.hand_in.result c.hand_in.ensures.cause;
    }

pub returns-clause-kept : goal.returns-clause-kept
returns-clause-kept g c is_open trusted =
    let d = g.D.Disk in
    let now = c.args.self.now in
    let call = submit_call now.jobs.tables.desk c.args.cards.now in
    let its = submit-called d.told d.content d.may_leave d.size now trusted c.args.cards.now c.requires.some in
    let laws = g.met.D.Disk g.world.𝓛 g.world.𝓜 g.world.𝓡 ((λ s x. x), (λ x. x), (λ x. x), λ x. x) in
    call-kept-by d.told d.content d.may_leave d.size now trusted d.moment d.left_since
    c.hand_in.ensures.sound is_open d.faults c.hand_in.new.self call c.hand_in.result its (laws.only_now now.store.disk)
    (c.hand_in.ensures.left is_open) c.hand_in.ensures.cause

pub returns-clause-told : goal.returns-clause-told
returns-clause-told g c tells = on-ok (call-told _ _ (submit_call c.args.self.now.jobs.tables.desk c.args.cards.now)) c.hand_in.result (c.hand_in.ensures.told tells)

pub returns-clause-full : goal.returns-clause-full
returns-clause-full g c = if-err (call-full g.D.Disk.faults c.args.self.now c.hand_in.new.self (submit_call c.args.self.now.jobs.tables.desk c.args.cards.now)) c.hand_in.result c.hand_in.ensures.cause
