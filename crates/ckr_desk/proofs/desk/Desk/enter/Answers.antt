use Rattle.std.proofs.Common.{◌≤◌, ◌+◌, IfErr, length, ap, refl, subst, sym, ◌∙◌}
use Rattle.std.specs.Option.{option_map}
use Rattle.std.specs.Rc.{rc_value}
use Rattle.std.proofs.lemmas.Bool.{and_from}
use Rattle.ckr_book.specs.Book.{IsBeforeOrAfter, room_of}
use Rattle.ckr_events.specs.Event.{spelling}
use Rattle.ckr_desk_refines.proofs.Memory.RunNumbers.{numbered-behind}
use Rattle.ckr_desk_refines.proofs.Memory.RewriteCounts.{counted-may}
use Rattle.ckr_desk_refines.specs.Memory.RewriteCounts.{may_count}
use Rattle.ckr_desk_refines.specs.Memory.OwnSets.{CommitsItsOwn}
use Rattle.ckr_desk_refines.specs.Memory.OwnSteps.{KnowsItsPoint, LeavesLeft}
use Rattle.ckr_desk_turn.specs.Queue.{AreNumbered}
use Rattle.ckr_outside.specs.Disk.{EachSince, SameOutside}
use Rattle.ckr_points.specs.Rows.{TablesModel}
use Rattle.ckr_desk_store.specs.OpenImages.{Opens, event_records}
use Rattle.ckr_volumes.specs.declared.layout.Layout.{Layout}
use Rattle.ckr_volumes.specs.Records.{records_on}
use Rattle.ckr_desk.proofs.Images.Records.{records-stay}
use Rattle.ckr_desk.proofs.Layouts.{append-layout, failed-layout, kept-stay}
use Rattle.ckr_desk.proofs.Calls.Stops.{appended-store, unappended, unsynced}
use Rattle.ckr_desk.proofs.Units.Preparation.{err-is}
use Rattle.ckr_desk.specs.Errors.{of_store}
use Rattle.ckr_desk.specs.Calls.{NotEntered, may_follow}
use Rattle.ckr_desk.specs.State.{AreKept, DeskView}
use Rattle.ckr_desk.proofs.desk.Desk.enter.Goals as goal

pub returns-clause-records : goal.returns-clause-records
returns-clause-records g c =
    let d = g.D.Disk in
    let layout = c.self.inside.store.layout in
    rw (← c.self.view_is)
    (λ told set n stands within.
    records-stay layout c.self.invariant.store.laid (d.content c.sync.new.self.disk) (d.content c.append.new.self.disk)
    (subst (λ (l : Layout). SameOutside 512 l.book (d.content c.sync.new.self.disk) (d.content c.append.new.self.disk)) (ap (λ s. s.layout) c.in_ok-sync.ensures.kept) (c.append.ensures.changes.reads told))
    set n stands within
    ∙ ap (λ bytes. records_on bytes layout set n) c.sync.ensures.only_reads.same)

pub keep-requires-clause-count : goal.keep-requires-clause-count
keep-requires-clause-count g c =
    counted-may c.args.event.now c.self.inside.jobs.tables.desk.sets (ap (λ s. may_count c.args.event.now s.jobs.tables.desk.sets) c.self.view_is ∙ c.requires.ready.counts)

pub returns-in_err-append-clause-left : goal.returns-in_err-append-clause-left
returns-in_err-append-clause-left g c =
    let d = g.D.Disk in
    let old = c.self.inside in
    let is_open = ap (λ s. s.store.fault) c.self.view_is ∙ c.requires.is_open in
    let follows = ap (may_follow c.args.event.now (option_map rc_value c.args.deck)) c.self.view_is ∙ c.requires.follows in
    let counts = ap (λ s. may_count c.args.event.now s.jobs.tables.desk.sets) c.self.view_is ∙ c.requires.ready.counts in
    let mid = c.sync.new.self in
    rw (← c.self.view_is)
    (appended-store d.told d.content d.may_leave d.moment d.left_since d.size c.args.event.now (option_map rc_value c.args.deck) (record { store = old.store; jobs = old.jobs; machine_room = old.machine_room }) mid c.append.new.self
    c.in_ok-sync.ensures.kept (and_from _ _ follows counts) c.self.invariant.store.laid
    (c.sync.ensures.any_moment is_open) c.sync.ensures.only_reads c.sync.ensures.size c.in_ok-sync.ensures.settled
    (subst (λ bytes. EachSince d.moment d.left_since mid.disk c.append.new.self.disk (Opens mid.layout (d.size mid.disk) (IsBeforeOrAfter (event_records mid.layout (d.content mid.disk)) bytes))) c.of.ensures
    (c.append.ensures.any_moment (ap (λ s. s.fault) c.in_ok-sync.ensures.kept ∙ is_open))) c.append.ensures.changes)

pub returns-clause-left : goal.returns-clause-left
returns-clause-left g c =
    let d = g.D.Disk in
    let old = c.self.inside in
    let is_open = ap (λ s. s.store.fault) c.self.view_is ∙ c.requires.is_open in
    let follows = ap (may_follow c.args.event.now (option_map rc_value c.args.deck)) c.self.view_is ∙ c.requires.follows in
    let counts = ap (λ s. may_count c.args.event.now s.jobs.tables.desk.sets) c.self.view_is ∙ c.requires.ready.counts in
    let mid = c.sync.new.self in
    rw (← c.self.view_is)
    (appended-store d.told d.content d.may_leave d.moment d.left_since d.size c.args.event.now (option_map rc_value c.args.deck) (record { store = old.store; jobs = old.jobs; machine_room = old.machine_room }) mid c.append.new.self
    c.in_ok-sync.ensures.kept (and_from _ _ follows counts) c.self.invariant.store.laid
    (c.sync.ensures.any_moment is_open) c.sync.ensures.only_reads c.sync.ensures.size c.in_ok-sync.ensures.settled
    (subst (λ bytes. EachSince d.moment d.left_since mid.disk c.append.new.self.disk (Opens mid.layout (d.size mid.disk) (IsBeforeOrAfter (event_records mid.layout (d.content mid.disk)) bytes))) c.of.ensures
    (c.append.ensures.any_moment (ap (λ s. s.fault) c.in_ok-sync.ensures.kept ∙ is_open))) c.append.ensures.changes)

pub invariant_of-self : goal.invariant_of-self
invariant_of-self g c =
    record {
      jobs =
          kept-stay c.self.inside.store.layout c.sync.new.self.layout c.self.inside.jobs c.self.inside.jobs
          (failed-layout g.D.Disk.faults c.self.inside.store c.sync.new.self c.in_err-sync.field-0.0 c.in_err-sync.ensures.cause) refl refl refl refl c.self.invariant.jobs;
      store = c.sync.ensures.sound;
    }

pub invariant_of-self-in_err-append : goal.invariant_of-self-in_err-append
invariant_of-self-in_err-append g c =
    record {
      jobs =
          kept-stay c.self.inside.store.layout c.append.new.self.layout c.self.inside.jobs c.self.inside.jobs
          (append-layout g.D.Disk.faults c.sync.new.self c.append.new.self _ c.in_err-append.field-0.0 c.in_err-append.ensures.cause ∙ ap (λ s. s.layout) c.in_ok-sync.ensures.kept) refl refl refl refl c.self.invariant.jobs;
      store = c.append.ensures.sound;
    }

pub invariant_of-self-2 : goal.invariant_of-self-2
invariant_of-self-2 g c =
    let event = c.args.event.now in
    let deck = (option_map rc_value c.args.deck) in
    let layout = c.self.inside.store.layout in
    let jobs = c.self.inside.jobs in
    let kept = c.self.invariant.jobs in
    let follow = ap (may_follow event deck) c.self.view_is ∙ c.requires.follows in
    record {
      jobs =
          subst (λ (l : Layout). AreKept l c.keep.new.self) (sym (ap (λ s. s.layout) c.in_ok-append.ensures.kept ∙ ap (λ s. s.layout) c.in_ok-sync.ensures.kept))
          (record {
            are = c.keep.ensures.jobs layout kept.are follow;
            own = c.keep.ensures.own layout kept.are kept.own follow (subst (λ (s : DeskView g.row.D.Denot). KnowsItsPoint event s.jobs.tables.desk s.jobs.points) (sym c.self.view_is) c.requires.knows) (subst (λ (s : DeskView g.row.D.Denot). CommitsItsOwn event s.jobs.tables.desk s.jobs.running) (sym c.self.view_is) c.requires.commits);
            left = c.keep.ensures.left layout kept.are kept.left follow (subst (λ (s : DeskView g.row.D.Denot). LeavesLeft event s.jobs.failed) (sym c.self.view_is) c.requires.leaves);
            numbered = subst (λ (tables : TablesModel). AreNumbered 1 tables.runs) (sym c.keep.ensures.tables)
                (numbered-behind layout jobs.tables.desk event deck follow kept.numbered);
          });
      store = c.append.ensures.sound;
    }

-- ---- where the disk fails

pub returns-in_err-sync-clause-layout : goal.returns-in_err-sync-clause-layout
returns-in_err-sync-clause-layout g c =
    failed-layout g.D.Disk.faults c.self.inside.store c.sync.new.self c.in_err-sync.field-0.0 c.in_err-sync.ensures.cause ∙ ap (λ (s : DeskView g.row.D.Denot). s.store.layout) c.self.view_is

pub returns-in_err-sync-clause-cause : goal.returns-in_err-sync-clause-cause
returns-in_err-sync-clause-cause g c =
    let d = g.D.Disk in
    let old : DeskView g.row.D.Denot = record { store = c.self.inside.store; jobs = c.self.inside.jobs; machine_room = c.self.inside.machine_room } in
    let error = c.in_err-sync.field-0.0 in
    rw (← c.self.view_is)
    (subst (λ r. IfErr r (NotEntered d.faults old (record { store = c.sync.new.self; jobs = c.self.inside.jobs; machine_room = c.self.inside.machine_room }))) (sym (err-is c.from_residual.result (of_store error) c.from_residual.ensures.1))
    (unsynced d.faults old c.sync.new.self error (ap (λ s. s.store.fault) c.self.view_is ∙ c.requires.is_open) c.in_err-sync.ensures.cause))

pub returns-in_err-append-clause-layout : goal.returns-in_err-append-clause-layout
returns-in_err-append-clause-layout g c =
    append-layout g.D.Disk.faults c.sync.new.self c.append.new.self _ c.in_err-append.field-0.0 c.in_err-append.ensures.cause
    ∙ ap (λ s. s.layout) c.in_ok-sync.ensures.kept ∙ ap (λ (s : DeskView g.row.D.Denot). s.store.layout) c.self.view_is

pub returns-in_err-append-clause-cause : goal.returns-in_err-append-clause-cause
returns-in_err-append-clause-cause g c =
    let d = g.D.Disk in
    let old : DeskView g.row.D.Denot = record { store = c.self.inside.store; jobs = c.self.inside.jobs; machine_room = c.self.inside.machine_room } in
    let error = c.in_err-append.field-0.0 in
    rw (← c.self.view_is)
    (subst (λ r. IfErr r (NotEntered d.faults old (record { store = c.append.new.self; jobs = c.self.inside.jobs; machine_room = c.self.inside.machine_room }))) (sym (err-is c.from_residual-in_err-append.result (of_store error) c.from_residual-in_err-append.ensures.1))
    (unappended d.faults old c.sync.new.self c.append.new.self _ error (ap (λ s. s.store.fault) c.self.view_is ∙ c.requires.is_open) c.in_ok-sync.ensures.kept c.sync.ensures.faults
    (subst (λ bytes. length bytes + 6 ≤ room_of c.self.inside.store.book) (sym c.of.ensures)
    (subst (λ (s : DeskView g.row.D.Denot). length (spelling c.args.event.now) + 6 ≤ room_of s.store.book) (sym c.self.view_is) c.requires.ready.fits))
    c.in_err-append.ensures.cause))
