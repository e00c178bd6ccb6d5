use Rattle.std.proofs.Common.{[], ap, arith, inl, inr, subst, sym}
use Rattle.ckr_base.proofs.Results.{err-holds}
use Rattle.ckr_outside.specs.Faults.{Rose}
use Rattle.ckr_desk_store.specs.OpenImages.{event_records}
use Rattle.ckr_desk_store.specs.State.{StoreView}
use Rattle.ckr_volumes.specs.declared.layout.Layout.{Layout}
use Rattle.ckr_desk.proofs.Calls.Stops.{opens-long}
use Rattle.ckr_desk.proofs.Openings.Trust.{IsOpened, IsRead, IsReadAs, WritesAgain, desk-cause, kept-opening, opened-by, opens-again, opens-desk, trusted-opened}
use Rattle.ckr_desk.specs.FirstSync.{FromSync, IsLeft}
use Rattle.ckr_desk.specs.Soundness.{AllSound, HasKept}
use Rattle.ckr_desk.specs.State.{opened_of}
use Rattle.ckr_desk.proofs.desk.Desk.open_on.Goals as goal

pub returns-in_err-desk-clause-cause : goal.returns-in_err-desk-clause-cause
returns-in_err-desk-clause-cause g c =
    let d = g.D.Disk in
    err-holds c.from_residual.result c.in_err-desk.field-0.0 _ c.from_residual.ensures.1
    (desk-cause (Rose (d.faults c.args.disk) (d.faults c.in_err-desk.field-0.0.disk)) d.told (d.content c.args.disk) (d.size c.args.disk) c.in_err-desk.field-0.0.error c.in_err-desk.ensures.cause)

pub returns-in-Ok-clause-opened : goal.returns-in-Ok-clause-opened
returns-in-Ok-clause-opened g c all =
    let d = g.D.Disk in
    let laws = g.met.D.Disk g.world.𝓛 g.world.𝓜 g.world.𝓡 ((λ s x. x), (λ x. x), (λ x. x), λ x. x) in
    let there = c.in_ok-desk.field-0 in
    let e = c.in_ok-desk.ensures in
    let read : IsRead d.told d.content d.may_leave d.size c.args.disk there.desk there.last =
    record {
      reads = record { opens = e.opened all.tells; last_is = e.last all.tells; same = e.only_reads.same; same_size = e.size };
      failed = e.failed;
      running = e.running;
      points = e.points;
      is_open = e.is_open;
    }
    in
    let wrote : WritesAgain d.told d.content d.may_leave d.size there.desk c.write_again.new.self there.last =
    record {
      jobs = c.write_again.ensures.jobs;
      kept = c.in-Ok.ensures.kept;
      settled = c.in-Ok.ensures.settled;
      events = c.write_again.ensures.events all.tells;
      written = c.in-Ok.ensures.written all.tells;
      same_size = c.write_again.ensures.size;
    }
    in
    let is : IsOpened d.told d.content d.may_leave d.size c.args.disk c.write_again.new.self there.last =
    opened-by d.told d.content d.may_leave d.size c.args.disk there.desk c.write_again.new.self there.last read wrote c.in-Ok.ensures.sound
    in
    opens-desk d.told d.content d.may_leave d.size c.args.disk c.write_again.new.self there.last all.tells
    (all.sound (d.content c.args.disk) (laws.reads_an_image c.args.disk all.tells)) is (laws.reads_an_image c.write_again.new.self.store.disk all.tells)

pub returns-in-Ok-clause-trusted : goal.returns-in-Ok-clause-trusted
returns-in-Ok-clause-trusted g c all =
    let d = g.D.Disk in
    let laws = g.met.D.Disk g.world.𝓛 g.world.𝓜 g.world.𝓡 ((λ s x. x), (λ x. x), (λ x. x), λ x. x) in
    let there = c.in_ok-desk.field-0 in
    let e = c.in_ok-desk.ensures in
    let read : IsRead d.told d.content d.may_leave d.size c.args.disk there.desk there.last =
    record {
      reads = record { opens = e.opened all.tells; last_is = e.last all.tells; same = e.only_reads.same; same_size = e.size };
      failed = e.failed;
      running = e.running;
      points = e.points;
      is_open = e.is_open;
    }
    in
    let wrote : WritesAgain d.told d.content d.may_leave d.size there.desk c.write_again.new.self there.last =
    record {
      jobs = c.write_again.ensures.jobs;
      kept = c.in-Ok.ensures.kept;
      settled = c.in-Ok.ensures.settled;
      events = c.write_again.ensures.events all.tells;
      written = c.in-Ok.ensures.written all.tells;
      same_size = c.write_again.ensures.size;
    }
    in
    let is : IsOpened d.told d.content d.may_leave d.size c.args.disk c.write_again.new.self there.last =
    opened-by d.told d.content d.may_leave d.size c.args.disk there.desk c.write_again.new.self there.last read wrote c.in-Ok.ensures.sound
    in
    let new = c.write_again.new.self in
    let disk = new.store.disk in
    trusted-opened d.told d.content d.may_leave d.size c.args.disk new there.last all.tells (all.sound (d.content c.args.disk) (laws.reads_an_image c.args.disk all.tells)) is (laws.reads_an_image disk all.tells)
    (λ image may. opens-long d.told d.content d.may_leave d.moment d.left_since d.size new is.sound is.is_open image may (laws.sized disk (d.moment disk) image (laws.counts_now disk (d.moment disk) image (omega arith) may)))

pub returns-in-Ok-clause-events : goal.returns-in-Ok-clause-events
returns-in-Ok-clause-events g c all =
    let d = g.D.Disk in
    let laws = g.met.D.Disk g.world.𝓛 g.world.𝓜 g.world.𝓡 ((λ s x. x), (λ x. x), (λ x. x), λ x. x) in
    let there = c.in_ok-desk.field-0 in
    let e = c.in_ok-desk.ensures in
    let read : IsRead d.told d.content d.may_leave d.size c.args.disk there.desk there.last =
    record {
      reads = record { opens = e.opened all.tells; last_is = e.last all.tells; same = e.only_reads.same; same_size = e.size };
      failed = e.failed;
      running = e.running;
      points = e.points;
      is_open = e.is_open;
    }
    in
    let wrote : WritesAgain d.told d.content d.may_leave d.size there.desk c.write_again.new.self there.last =
    record {
      jobs = c.write_again.ensures.jobs;
      kept = c.in-Ok.ensures.kept;
      settled = c.in-Ok.ensures.settled;
      events = c.write_again.ensures.events all.tells;
      written = c.in-Ok.ensures.written all.tells;
      same_size = c.write_again.ensures.size;
    }
    in
    let is : IsOpened d.told d.content d.may_leave d.size c.args.disk c.write_again.new.self there.last =
    opened-by d.told d.content d.may_leave d.size c.args.disk there.desk c.write_again.new.self there.last read wrote c.in-Ok.ensures.sound
    in
    opens-again d.told d.content d.may_leave d.size c.args.disk c.write_again.new.self there.last all.tells
    (all.sound (d.content c.args.disk) (laws.reads_an_image c.args.disk all.tells)) is (laws.reads_an_image c.write_again.new.self.store.disk all.tells)

pub returns-in-Ok-clause-kept : goal.returns-in-Ok-clause-kept
returns-in-Ok-clause-kept g c all =
    let d = g.D.Disk in
    let disk = c.args.disk in
    let new = c.write_again.new.self in
    let laws = g.met.D.Disk g.world.𝓛 g.world.𝓜 g.world.𝓡 ((λ s x. x), (λ x. x), (λ x. x), λ x. x) in
    let there = c.in_ok-desk.field-0 in
    let e = c.in_ok-desk.ensures in
    let reads : IsReadAs d.told d.content d.may_leave d.size disk there.desk there.last =
    record { opens = e.opened all.tells; last_is = e.last all.tells; same = e.only_reads.same; same_size = e.size } in
    subst (λ (l : Layout). FromSync d.content d.may_leave d.moment d.left_since disk new.store.disk (HasKept l (d.size disk) (event_records l (d.content disk)) []))
    (sym (ap (λ (s : StoreView g.row.D.Denot). s.layout) c.in-Ok.ensures.kept))
    (kept-opening d.told d.content d.may_leave d.size disk there.desk there.last (all.sound (d.content disk) (laws.reads_an_image disk all.tells)) reads d.moment d.left_since
    new.store.disk e.synced c.write_again.ensures.left)

pub returns-in_err-desk-clause-left : goal.returns-in_err-desk-clause-left
returns-in_err-desk-clause-left g c =
    err-holds c.from_residual.result c.in_err-desk.field-0.0 _ c.from_residual.ensures.1 (inl c.in_err-desk.ensures.left)

pub returns-clause-left : goal.returns-clause-left
returns-clause-left g c =
    let d = g.D.Disk in
    let disk = c.args.disk in
    let laws = g.met.D.Disk g.world.𝓛 g.world.𝓜 g.world.𝓡 ((λ s x. x), (λ x. x), (λ x. x), λ x. x) in
    let there = c.in_ok-desk.field-0 in
    let e = c.in_ok-desk.ensures in
    subst (IsLeft d.content d.may_leave d.moment d.left_since d.size d.told (AllSound d.told d.may_leave d.size disk) c.in-Err.error disk) (sym c.close.ensures.disk)
    (inr (record {
      failed = c.in-Err.ensures.cause.0;
      opened = opened_of there.desk;
      opens = e.opened;
      kept = λ all.
          kept-opening d.told d.content d.may_leave d.size disk there.desk there.last (all.sound (d.content disk) (laws.reads_an_image disk all.tells))
          (record { opens = e.opened all.tells; last_is = e.last all.tells; same = e.only_reads.same; same_size = e.size }) d.moment d.left_since
          c.write_again.new.self.store.disk e.synced c.write_again.ensures.left;
    }))
