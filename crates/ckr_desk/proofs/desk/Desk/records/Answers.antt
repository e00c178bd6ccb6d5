use Rattle.std.proofs.Common.{Some, None, Err, ap, append-nil, refl, subst, sym, ◌∙◌}
use Rattle.std.specs.Option.{option_copied, option_map}
use Rattle.ckr_base.proofs.Results.{err-holds}
use Rattle.ckr_book.specs.Book.{room_of}
use Rattle.ckr_library.specs.declared.sets.DataSet.{DataSet}
use Rattle.ckr_outside.specs.Disk.{EachSince}
use Rattle.ckr_desk_store.specs.State.{IsSound}
use Rattle.ckr_volumes.specs.Records.{records_on}
use Rattle.ckr_desk.proofs.Calls.Requests.{reading-kept}
use Rattle.ckr_desk.proofs.Images.Soundness.{kept-still}
use Rattle.ckr_desk.proofs.Calls.Records.{events-read, free-stands, not-stopped, of-desk, reading-fails-by, reading-full, reading-may-fail, reading-stays, same-layout, state-read, trusted-read}
use Rattle.ckr_desk.proofs.Units.Preparation.{err-is}
use Rattle.ckr_desk.specs.CallOutcomes.{HasComeTo, KeepsDesk}
use Rattle.ckr_desk.specs.Soundness.{state_of}
use Rattle.ckr_desk.specs.State.{DeskView}
use Rattle.ckr_desk.proofs.desk.Desk.records.Goals as goal

pub read_all-requires-clause-stands : goal.read_all-requires-clause-stands
read_all-requires-clause-stands g c κs within =
    free-stands c.self.inside.store.layout c.self.inside.jobs.tables.desk c.args.name.now c.in-Some-free_set.set.now c.self.invariant.jobs.are.laid.stand
    (sym c.free_set.ensures.set ∙ ap option_copied c.in-Some-free_set.is)

pub returns-in_ok-read_all-in-Some-free_set-clause-records : goal.returns-in_ok-read_all-in-Some-free_set-clause-records
returns-in_ok-read_all-in-Some-free_set-clause-records g c trusted =
    let d = g.D.Disk in
    let now = c.args.self.now in
    ap Some (c.in_ok-read_all-in-Some-free_set.ensures.read trusted.tells)
    ∙ ap (option_map (λ (its : DataSet). records_on (d.content c.self.inside.store.disk) c.self.inside.store.layout its its.length)) (sym (ap option_copied c.in-Some-free_set.is))
    ∙ of-desk d.told d.content d.may_leave d.moment d.left_since c.self.inside.jobs c.self.inside.machine_room c.self.inside.store now c.args.name.now _ c.self.view_is c.free_set.ensures.records trusted

pub returns-in_ok-read_all-in-Some-free_set-clause-kept : goal.returns-in_ok-read_all-in-Some-free_set-clause-kept
returns-in_ok-read_all-in-Some-free_set-clause-kept g c is_open trusted =
    let d = g.D.Disk in
    let now = c.args.self.now in
    reading-kept d.told d.content d.may_leave d.size now trusted d.moment d.left_since
    (subst (λ s. IsSound d.content d.may_leave d.size s.store) c.self.view_is c.self.invariant.store) is_open (record { store = c.read_all.new.store; jobs = c.self.inside.jobs; machine_room = c.self.inside.machine_room }) (subst (λ s. EachSince d.moment d.left_since s.store.disk c.read_all.new.store.disk (d.may_leave s.store.disk)) c.self.view_is c.read_all.ensures.only_reads.since)

pub returns-in_err-read_all-in-Some-free_set-clause-kept : goal.returns-in_err-read_all-in-Some-free_set-clause-kept
returns-in_err-read_all-in-Some-free_set-clause-kept g c is_open trusted =
    let d = g.D.Disk in
    let now = c.args.self.now in
    reading-kept d.told d.content d.may_leave d.size now trusted d.moment d.left_since
    (subst (λ s. IsSound d.content d.may_leave d.size s.store) c.self.view_is c.self.invariant.store) is_open (record { store = c.read_all.new.store; jobs = c.self.inside.jobs; machine_room = c.self.inside.machine_room }) (subst (λ s. EachSince d.moment d.left_since s.store.disk c.read_all.new.store.disk (d.may_leave s.store.disk)) c.self.view_is c.read_all.ensures.only_reads.since)

pub returns-in-None-clause-records : goal.returns-in-None-clause-records
returns-in-None-clause-records g c trusted =
    let d = g.D.Disk in
    let now = c.args.self.now in
    ap (option_map (λ (its : DataSet). records_on (d.content c.self.inside.store.disk) c.self.inside.store.layout its its.length)) (sym (ap option_copied c.in-None.is))
    ∙ of-desk d.told d.content d.may_leave d.moment d.left_since c.self.inside.jobs c.self.inside.machine_room c.self.inside.store now c.args.name.now _ c.self.view_is c.free_set.ensures.records trusted

pub returns-in-None-clause-comes : goal.returns-in-None-clause-comes
returns-in-None-clause-comes g c trusted = record { fits = refl; after = refl; events = sym (append-nil _); trusted = trusted; cause = tt }

pub returns-in-None-clause-kept : goal.returns-in-None-clause-kept
returns-in-None-clause-kept g c is_open trusted =
    let d = g.D.Disk in
    let now = c.args.self.now in
    let laws = g.met.D.Disk g.world.𝓛 g.world.𝓜 g.world.𝓡 ((λ s x. x), (λ x. x), (λ x. x), λ x. x) in
    kept-still d.told d.content d.may_leave d.size now trusted d.moment d.left_since (laws.only_now now.store.disk) (laws.sized now.store.disk (d.moment now.store.disk))

pub returns-in_ok-read_all-in-Some-free_set-clause-comes : goal.returns-in_ok-read_all-in-Some-free_set-clause-comes
returns-in_ok-read_all-in-Some-free_set-clause-comes g c trusted =
    let d = g.D.Disk in
    let now = c.args.self.now in
    let jobs = c.self.inside.jobs in
    let store = c.self.inside.store in
    let later = c.read_all.new.store in
    let kept = c.in_ok-read_all-in-Some-free_set.ensures.kept in
    let reads = c.read_all.ensures.only_reads in
    record {
      fits = refl;
      after = state-read d.told d.content d.may_leave d.moment d.left_since jobs c.self.inside.machine_room store later now c.self.view_is kept reads;
      events = events-read d.told d.content d.may_leave d.moment d.left_since jobs c.self.inside.machine_room store later now c.self.view_is kept reads;
      trusted = trusted-read d.told d.content d.may_leave d.moment d.left_since jobs c.self.inside.machine_room store later now c.self.view_is kept reads trusted;
      cause = tt;
    }

pub returns-in_err-read_all-in-Some-free_set-clause-comes : goal.returns-in_err-read_all-in-Some-free_set-clause-comes
returns-in_err-read_all-in-Some-free_set-clause-comes g c trusted =
    let d = g.D.Disk in
    let now = c.args.self.now in
    let new : DeskView g.row.D.Denot = record { store = c.read_all.new.store; jobs = c.self.inside.jobs; machine_room = c.self.inside.machine_room } in
    let error = c.in_err-read_all-in-Some-free_set.field-0.0 in
    subst (HasComeTo d.told d.content d.may_leave None (state_of d.content now) now new) (sym (err-is c.from_residual.result error c.from_residual.ensures.1))
    (record {
      fits = tt;
      after = tt;
      events = tt;
      trusted = tt;
      cause = reading-fails-by d.faults c.self.inside.store c.read_all.new.store (room_of now.store.book) error c.in_err-read_all-in-Some-free_set.ensures.cause;
    })

pub returns-in_err-read_all-in-Some-free_set-clause-full : goal.returns-in_err-read_all-in-Some-free_set-clause-full
returns-in_err-read_all-in-Some-free_set-clause-full g c =
    let d = g.D.Disk in
    let error = c.in_err-read_all-in-Some-free_set.field-0.0 in
    err-holds c.from_residual.result error _ c.from_residual.ensures.1
    (reading-full d.faults c.self.inside.store c.read_all.new.store (room_of c.args.self.now.store.book) error c.in_err-read_all-in-Some-free_set.ensures.cause)

pub returns-in_err-read_all-in-Some-free_set-clause-keeps : goal.returns-in_err-read_all-in-Some-free_set-clause-keeps
returns-in_err-read_all-in-Some-free_set-clause-keeps g c =
    let d = g.D.Disk in
    let old : DeskView g.row.D.Denot = record { store = c.self.inside.store; jobs = c.self.inside.jobs; machine_room = c.self.inside.machine_room } in
    let new : DeskView g.row.D.Denot = record { store = c.read_all.new.store; jobs = c.self.inside.jobs; machine_room = c.self.inside.machine_room } in
    let error = c.in_err-read_all-in-Some-free_set.field-0.0 in
    let cause = c.in_err-read_all-in-Some-free_set.ensures.cause in
    rw (← c.self.view_is)
    (subst (KeepsDesk d.content d.may_leave d.faults d.size old new) (sym (err-is c.from_residual.result error c.from_residual.ensures.1))
    (record {
      is_open = tt;
      same_layout = same-layout d.faults old.store new.store error cause;
      same_size = c.read_all.ensures.size;
      never_falls = c.read_all.ensures.faults;
      stopped = not-stopped old.store.fault (Err error) (sym c.fault.ensures ∙ c.in_default.is);
      may_fail = reading-may-fail d.faults old.store new.store error cause;
      stays = reading-stays d.faults old.store new.store d.content d.may_leave d.moment d.left_since c.self.inside.jobs c.self.inside.machine_room c.read_all.ensures.only_reads error cause;
    }))
