use Rattle.std.proofs.Common.{◌≤◌, ◌+◌, ◌∙◌, List, ℕ, ap, length, refl, subst, sym}
use Rattle.ckr_library.specs.Catalog.{records_of}
use Rattle.ckr_outside.specs.Moments.{both_since}
use Rattle.ckr_steps.specs.EntryRecords.{ChangesRecords, HasEntry, StemsFromRecords}
use Rattle.ckr_volumes.specs.Layouts.{StandsIn}
use Rattle.ckr_desk_store.specs.State.{StoreView}
use Rattle.ckr_desk.proofs.Layouts.{failed-layout, kept-stay}
use Rattle.ckr_desk.specs.Checkpoint.{HasWrittenEntry}
use Rattle.ckr_desk.specs.Rewrite.{OpensSame}
use Rattle.ckr_desk.specs.State.{DeskView}
use Rattle.ckr_desk.proofs.desk.Desk.write_entry.Goals as goal

pub write_entry-requires-clause-stands : goal.write_entry-requires-clause-stands
write_entry-requires-clause-stands g c κs within = subst (λ (s : DeskView g.row.D.Denot). StandsIn s.store.layout c.args.made.now.set) (sym c.self.view_is) c.requires.made.space.stands

pub write_entry-requires-clause-records : goal.write_entry-requires-clause-records
write_entry-requires-clause-records g c κs within = c.requires.made.space.records

pub write_entry-requires-clause-space : goal.write_entry-requires-clause-space
write_entry-requires-clause-space g c κs within =
    subst (λ (bytes : List ℕ). c.args.made.now.set.length + records_of (length bytes) ≤ c.args.made.now.set.space) (sym c.as_slice.ensures.value) c.requires.made.space.space

pub invariant_of-self : goal.invariant_of-self
invariant_of-self g c =
    record {
      jobs =
          kept-stay c.self.inside.store.layout c.write_entry.new.self.layout c.self.inside.jobs c.self.inside.jobs
          (failed-layout g.D.Disk.faults c.self.inside.store c.write_entry.new.self c.in_err-write_entry.field-0.0 c.in_err-write_entry.ensures.cause) refl refl refl refl c.self.invariant.jobs;
      store = c.write_entry.ensures.sound;
    }

pub invariant_of-self-2 : goal.invariant_of-self-2
invariant_of-self-2 g c =
    record {
      jobs =
          kept-stay c.self.inside.store.layout c.write_entry.new.self.layout c.self.inside.jobs c.self.inside.jobs
          (ap (λ (s : StoreView g.row.D.Denot). s.layout) c.in_ok-write_entry.ensures.kept) refl refl refl refl c.self.invariant.jobs;
      store = c.write_entry.ensures.sound;
    }

pub returns-clause-written : goal.returns-clause-written
returns-clause-written g c =
    let d = g.D.Disk in
    let old : DeskView g.row.D.Denot = record { store = c.self.inside.store; jobs = c.self.inside.jobs; machine_room = c.self.inside.machine_room } in
    let new : DeskView g.row.D.Denot = record { store = c.write_entry.new.self; jobs = c.self.inside.jobs; machine_room = c.self.inside.machine_room } in
    let made = c.args.made.now in
    subst (λ (s : DeskView g.row.D.Denot). HasWrittenEntry d.told d.content d.may_leave d.moment d.left_since made s new) c.self.view_is
    (record {
      entry = λ told. subst (HasEntry (d.content c.write_entry.new.self.disk) old.store.layout made.set made.set.length) c.as_slice.ensures.value (c.in_ok-write_entry.ensures.written told);
      changes = subst (λ (bytes : List ℕ). ChangesRecords d.told d.content d.may_leave d.moment d.left_since old.store.layout made.set made.set.length (records_of (length bytes)) old.store.disk c.write_entry.new.self.disk)
          c.as_slice.ensures.value c.write_entry.ensures.changes;
      events = c.write_entry.ensures.events;
      settled = c.in_ok-write_entry.ensures.settled;
      jobs = refl;
      store = c.in_ok-write_entry.ensures.kept;
    })

pub returns-in_err-write_entry-clause-left : goal.returns-in_err-write_entry-clause-left
returns-in_err-write_entry-clause-left g c =
    let d = g.D.Disk in
    let old : DeskView g.row.D.Denot = record { store = c.self.inside.store; jobs = c.self.inside.jobs; machine_room = c.self.inside.machine_room } in
    let made = c.args.made.now in
    rw (← c.self.view_is)
    (both_since d.moment d.left_since old.store.disk c.write_entry.new.self.disk (OpensSame d.content d.size old)
    (StemsFromRecords old.store.layout made.set made.set.length (records_of (length made.entry.items)) (d.may_leave old.store.disk))
    (c.write_entry.ensures.any_moment (ap (λ (s : DeskView g.row.D.Denot). s.store.fault) c.self.view_is ∙ c.requires.is_open))
    (subst (λ (bytes : List ℕ). ChangesRecords d.told d.content d.may_leave d.moment d.left_since old.store.layout made.set made.set.length (records_of (length bytes)) old.store.disk c.write_entry.new.self.disk)
    c.as_slice.ensures.value c.write_entry.ensures.changes).since)

pub returns-clause-left : goal.returns-clause-left
returns-clause-left g c =
    let d = g.D.Disk in
    let old : DeskView g.row.D.Denot = record { store = c.self.inside.store; jobs = c.self.inside.jobs; machine_room = c.self.inside.machine_room } in
    let made = c.args.made.now in
    rw (← c.self.view_is)
    (both_since d.moment d.left_since old.store.disk c.write_entry.new.self.disk (OpensSame d.content d.size old)
    (StemsFromRecords old.store.layout made.set made.set.length (records_of (length made.entry.items)) (d.may_leave old.store.disk))
    (c.write_entry.ensures.any_moment (ap (λ (s : DeskView g.row.D.Denot). s.store.fault) c.self.view_is ∙ c.requires.is_open))
    (subst (λ (bytes : List ℕ). ChangesRecords d.told d.content d.may_leave d.moment d.left_since old.store.layout made.set made.set.length (records_of (length bytes)) old.store.disk c.write_entry.new.self.disk)
    c.as_slice.ensures.value c.write_entry.ensures.changes).since)
