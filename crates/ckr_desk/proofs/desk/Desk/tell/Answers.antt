use Rattle.std.proofs.Common.{◌≡◌, ◌++◌, ◌∷◌, [], true, sym, ◌∙◌, subst, OnOk}
use Rattle.ckr_base.proofs.Results.{err-holds}
use Rattle.ckr_points.specs.Follows.{follows}
use Rattle.ckr_points.specs.Rows.{TablesModel}
use Rattle.ckr_events.specs.Event.{spelling}
use Rattle.ckr_outside.specs.Disk.{EachSince}
use Rattle.ckr_desk_refines.specs.Memory.Invariant.{IsAnyAccepted}
use Rattle.ckr_desk_refines.specs.Tables.Invariant.{MaySubmit}
use Rattle.ckr_desk_refines.specs.Memory.OwnSets.{CommitsItsOwn}
use Rattle.ckr_desk_refines.specs.Memory.OwnSteps.{LeavesLeft}
use Rattle.ckr_desk_refines.specs.Moves.{HasSameRecords}
use Rattle.ckr_desk_store.specs.OpenImages.{event_records}
use Rattle.ckr_desk_store.specs.State.{IsSound, StoreView}
use Rattle.ckr_desk.proofs.Calls.Requests.{if-err, on-ok}
use Rattle.ckr_desk.proofs.Calls.Stops.{nothing-left, prepared-cause, prepared-gone, prepared-left, same-left, unready-cause}
use Rattle.ckr_desk.specs.declared.error.DeskError.TheVariants.{NoMemory}
use Rattle.ckr_desk.specs.Calls.{HasGoneOn, IsLeftBy, NotEntered}
use Rattle.ckr_desk.specs.Preparation.{IsReady}
use Rattle.ckr_desk.proofs.desk.Desk.tell.Goals as goal

pub returns-in-Some-clause-left : goal.returns-in-Some-clause-left
returns-in-Some-clause-left g c is_open =
    let d = g.D.Disk in
    let now = c.args.self.now in
    let laws = g.met.D.Disk g.world.𝓛 g.world.𝓜 g.world.𝓡 ((λ s x. x), (λ x. x), (λ x. x), λ x. x) in
    nothing-left d.told d.content d.may_leave d.moment d.left_since d.size c.args.event.now c.args.deck now
    (subst (λ s. IsSound d.content d.may_leave d.size s.store) c.self.view_is c.self.invariant.store) is_open (laws.only_now now.store.disk)

pub returns-in_err-ready-clause-left : goal.returns-in_err-ready-clause-left
returns-in_err-ready-clause-left g c is_open =
    let d = g.D.Disk in
    let now = c.args.self.now in
    let laws = g.met.D.Disk g.world.𝓛 g.world.𝓜 g.world.𝓡 ((λ s x. x), (λ x. x), (λ x. x), λ x. x) in
    same-left d.moment d.left_since now.store c.make_ready.new.self.store (IsLeftBy d.content d.may_leave d.size c.args.event.now c.args.deck now) c.make_ready.ensures.store
    (nothing-left d.told d.content d.may_leave d.moment d.left_since d.size c.args.event.now c.args.deck now
    (subst (λ s. IsSound d.content d.may_leave d.size s.store) c.self.view_is c.self.invariant.store) is_open (laws.only_now now.store.disk))

pub returns-in_err-ready-clause-cause : goal.returns-in_err-ready-clause-cause
returns-in_err-ready-clause-cause g c =
    let d = g.D.Disk in
    err-holds c.from_residual.result c.in_err-ready.field-0.0 _ c.from_residual.ensures.1
    (unready-cause c.args.event.now c.args.deck d.faults c.args.self.now c.make_ready.new.self c.in_err-ready.field-0.0 c.in_err-ready.ensures.cause)

pub returns-in_err-shared-clause-left : goal.returns-in_err-shared-clause-left
returns-in_err-shared-clause-left g c is_open =
    let d = g.D.Disk in
    let now = c.args.self.now in
    let laws = g.met.D.Disk g.world.𝓛 g.world.𝓜 g.world.𝓡 ((λ s x. x), (λ x. x), (λ x. x), λ x. x) in
    same-left d.moment d.left_since now.store c.make_ready.new.self.store (IsLeftBy d.content d.may_leave d.size c.args.event.now c.args.deck now) c.make_ready.ensures.store
    (nothing-left d.told d.content d.may_leave d.moment d.left_since d.size c.args.event.now c.args.deck now
    (subst (λ s. IsSound d.content d.may_leave d.size s.store) c.self.view_is c.self.invariant.store) is_open (laws.only_now now.store.disk))

pub returns-in_err-shared-clause-cause : goal.returns-in_err-shared-clause-cause
returns-in_err-shared-clause-cause g c =
    err-holds c.from_residual-in_err-shared.result NoMemory _ c.from_residual-in_err-shared.ensures.1
    (record { jobs = c.make_ready.ensures.jobs; store = c.make_ready.ensures.store })

pub enter-requires-clause-deck : goal.enter-requires-clause-deck
enter-requires-clause-deck g c κs within = subst (MaySubmit c.args.event.now) (sym c.in_ok-shared.ensures.value) c.requires.deck

pub enter-requires-clause-accepted : goal.enter-requires-clause-accepted
enter-requires-clause-accepted g c κs within = subst (IsAnyAccepted c.args.event.now) (sym c.in_ok-shared.ensures.value) c.requires.accepted

pub enter-requires-clause-ready : goal.enter-requires-clause-ready
enter-requires-clause-ready g c κs within =
    subst (λ deck. IsReady c.args.event.now deck c.make_ready.new.self c.in_ok-ready.ready) (c.as_ref.ensures.value ∙ sym c.in_ok-shared.ensures.value) c.in_ok-ready.ensures.ready

pub enter-requires-clause-follows : goal.enter-requires-clause-follows
enter-requires-clause-follows g c κs within =
    subst (λ deck. follows c.make_ready.new.self.store.layout c.make_ready.new.self.jobs.tables.desk c.args.event.now deck ≡ true) (sym c.in_ok-shared.ensures.value)
    (subst (λ (s : StoreView g.row.D.Denot). follows s.layout c.make_ready.new.self.jobs.tables.desk c.args.event.now c.args.deck ≡ true) (sym c.make_ready.ensures.store)
    (subst (λ (tables : TablesModel). follows c.args.self.now.store.layout tables c.args.event.now c.args.deck ≡ true) (sym c.make_ready.ensures.jobs.tables) c.requires.follows))

pub enter-requires-clause-commits : goal.enter-requires-clause-commits
enter-requires-clause-commits g c κs within =
    subst (λ (tables : TablesModel). CommitsItsOwn c.args.event.now tables c.make_ready.new.self.jobs.running) (sym c.make_ready.ensures.jobs.tables)
    (subst (CommitsItsOwn c.args.event.now c.args.self.now.jobs.tables.desk) (sym c.make_ready.ensures.jobs.running) c.requires.commits)

pub enter-requires-clause-leaves : goal.enter-requires-clause-leaves
enter-requires-clause-leaves g c κs within = subst (LeavesLeft c.args.event.now) (sym c.make_ready.ensures.jobs.failed) c.requires.leaves

pub returns-clause-ok : goal.returns-clause-ok
returns-clause-ok g c =
    let now = c.args.self.now in
    let mid = c.make_ready.new.self in
    let new = c.enter.new.self in
    let same = c.make_ready.ensures.jobs in
    on-ok
    (λ told.
    let gone = subst (λ deck. HasGoneOn c.args.event.now deck mid new) c.in_ok-shared.ensures.value told in
    prepared-gone c.args.event.now c.args.deck now.store now.jobs mid.jobs now.machine_room mid.machine_room same.tables same.running same.failed same.points new
    (subst (λ (s : StoreView g.row.D.Denot). HasGoneOn c.args.event.now c.args.deck (record { store = s; jobs = mid.jobs; machine_room = mid.machine_room }) new) c.make_ready.ensures.store gone))
    c.enter.result c.enter.ensures.ok

pub returns-clause-told : goal.returns-clause-told
returns-clause-told g c told =
    let d = g.D.Disk in
    let new = c.enter.new.self in
    subst (λ (s : StoreView g.row.D.Denot). OnOk c.enter.result (event_records s.layout (d.content new.store.disk) ≡ event_records s.layout (d.content s.disk) ++ spelling c.args.event.now ∷ [])) c.make_ready.ensures.store
    (c.enter.ensures.told told)

pub returns-clause-records : goal.returns-clause-records
returns-clause-records g c told =
    let d = g.D.Disk in
    let new = c.enter.new.self in
    subst (λ (s : StoreView g.row.D.Denot). OnOk c.enter.result (HasSameRecords s.layout (d.content s.disk) (d.content new.store.disk))) c.make_ready.ensures.store
    (c.enter.ensures.records told)

pub returns-clause-left : goal.returns-clause-left
returns-clause-left g c is_open =
    let d = g.D.Disk in
    let now = c.args.self.now in
    let mid = c.make_ready.new.self in
    let new = c.enter.new.self in
    prepared-left c.args.event.now c.args.deck now.store now.jobs mid.jobs now.machine_room mid.machine_room c.make_ready.ensures.jobs.tables d.content d.may_leave d.moment d.left_since d.size new.store.disk
    (subst (λ (s : StoreView g.row.D.Denot). EachSince d.moment d.left_since s.disk new.store.disk (IsLeftBy d.content d.may_leave d.size c.args.event.now c.args.deck (record { store = s; jobs = mid.jobs; machine_room = mid.machine_room }))) c.make_ready.ensures.store
    (subst (λ deck. EachSince d.moment d.left_since mid.store.disk new.store.disk (IsLeftBy d.content d.may_leave d.size c.args.event.now deck mid)) c.in_ok-shared.ensures.value c.enter.ensures.left))

pub returns-clause-cause : goal.returns-clause-cause
returns-clause-cause g c =
    let d = g.D.Disk in
    let now = c.args.self.now in
    let mid = c.make_ready.new.self in
    let new = c.enter.new.self in
    let same = c.make_ready.ensures.jobs in
    if-err
    (λ error not.
    prepared-cause c.args.event.now c.args.deck now.store now.jobs mid.jobs now.machine_room mid.machine_room same.tables same.running same.failed same.points d.faults new error
    (subst (λ (s : StoreView g.row.D.Denot). NotEntered d.faults (record { store = s; jobs = mid.jobs; machine_room = mid.machine_room }) new error) c.make_ready.ensures.store not))
    c.enter.result c.enter.ensures.cause
