use Rattle.std.proofs.Common.{◌≡◌, ◌≤◌, ◌∙◌, ap, arith, sym, subst, None}
use Rattle.ckr_book.specs.Book.{room_of}
use Rattle.ckr_desk_refines.specs.Memory.RewriteCounts.{may_count}
use Rattle.ckr_desk_refines.specs.Memory.Invariant.{IsAnyAccepted}
use Rattle.ckr_desk_refines.specs.Memory.OwnSets.{CommitsItsOwn}
use Rattle.ckr_desk_refines.specs.Memory.OwnSteps.{KnowsItsPoint, LeavesLeft}
use Rattle.ckr_desk_refines.specs.Memory.Plans.{IsToldReply}
use Rattle.ckr_desk_refines.specs.Memory.Preparation.{IsPrepared}
use Rattle.ckr_desk_refines.specs.Memory.View.{JobsView}
use Rattle.ckr_events.specs.declared.event.Event.{Event}
use Rattle.ckr_points.specs.Follows.{follows}
use Rattle.ckr_desk_refines.specs.Tables.Invariant.{MaySubmit}
use Rattle.ckr_volumes.specs.declared.layout.Layout.{Layout}
use Rattle.ckr_desk.specs.declared.preparation.Ready.{Ready}
use Rattle.ckr_desk.specs.Preparation.{IsReady}
use Rattle.ckr_desk.specs.State.{DeskView, need_of}
use Rattle.ckr_desk.proofs.Checkpoints.Event.{done-reply}
use Rattle.ckr_desk.proofs.Checkpoints.Results.{taken-turned, untold-turned, unwritten-turned}
use Rattle.ckr_desk.proofs.Units.Preparation.{err-is}
use Rattle.ckr_desk.specs.Units.{HasTurned}
use Rattle.ckr_desk.proofs.desk.Desk.take.Goals as goal

-- what is ready stays so while the entry is written
ready-same : {D : Type 0} (event : Event) (old mid : DeskView D) (ready : Ready) → mid.jobs ≡ old.jobs → room_of mid.store.book ≡ room_of old.store.book → IsReady event None old ready → IsReady event None mid ready
ready-same event old mid ready jobs room is = record {
  counted = is.counted;
  small = is.small;
  fits = subst (λ n. need_of event ≤ n) (sym room) is.fits;
  counts = ap (λ (j : JobsView). may_count event j.tables.desk.sets) jobs ∙ is.counts;
  prepared = subst (λ (j : JobsView). IsPrepared j event None ready.prepared) (sym jobs) is.prepared;
}

pub enter-requires-clause-knows : goal.enter-requires-clause-knows
enter-requires-clause-knows g c κs within = subst (λ (e : Event). KnowsItsPoint e c.write_entry.new.self.jobs.tables.desk c.write_entry.new.self.jobs.points) (sym c.requires.attempt.its.of.event) tt

pub enter-requires-clause-deck : goal.enter-requires-clause-deck
enter-requires-clause-deck g c κs within = subst (λ (e : Event). MaySubmit e None) (sym c.requires.attempt.its.of.event) tt

pub enter-requires-clause-accepted : goal.enter-requires-clause-accepted
enter-requires-clause-accepted g c κs within = subst (λ (e : Event). IsAnyAccepted e None) (sym c.requires.attempt.its.of.event) tt

pub enter-requires-clause-follows : goal.enter-requires-clause-follows
enter-requires-clause-follows g c κs within =
    ap (λ (l : Layout). follows l c.write_entry.new.self.jobs.tables.desk c.args.made.event None) c.write_entry.ensures.layout
    ∙ ap (λ (j : JobsView). follows c.args.self.now.store.layout j.tables.desk c.args.made.event None) c.write_entry.ensures.jobs
    ∙ c.requires.attempt.its.follows

pub enter-requires-clause-commits : goal.enter-requires-clause-commits
enter-requires-clause-commits g c κs within = subst (λ (j : JobsView). CommitsItsOwn c.args.made.event j.tables.desk j.running) (sym c.write_entry.ensures.jobs) c.requires.attempt.its.commits

pub enter-requires-clause-leaves : goal.enter-requires-clause-leaves
enter-requires-clause-leaves g c κs within = subst (λ (e : Event). LeavesLeft e c.write_entry.new.self.jobs.failed) (sym c.requires.attempt.its.of.event) tt

pub enter-requires-clause-ready : goal.enter-requires-clause-ready
enter-requires-clause-ready g c κs within =
    ready-same c.args.made.event c.args.self.now c.write_entry.new.self c.args.ready c.write_entry.ensures.jobs
    (ap (λ s. room_of s.book) c.in_ok-write_entry.ensures.written.store) c.requires.attempt.ready_for

pub returns-clause-spelled : goal.returns-clause-spelled
returns-clause-spelled g c = subst IsToldReply (sym c.requires.attempt.reply_is.is) tt

pub returns-in_err-write_entry-clause-turned : goal.returns-in_err-write_entry-clause-turned
returns-in_err-write_entry-clause-turned g c turn answer p =
    let d = g.D.Disk in
    let now = c.args.self.now in
    subst (HasTurned d.told d.content d.may_leave d.moment d.left_since d.size turn answer now c.write_entry.new.self) (sym (err-is c.from_residual.result c.in_err-write_entry.field-0.0 c.from_residual.ensures.1))
    (unwritten-turned d.told d.content d.may_leave d.moment d.left_since d.size now p.trusted turn p.its c.args.run p.planned c.args.made c.requires.attempt.its answer
    c.write_entry.new.self _ _ c.in_err-write_entry.field-0.0 c.in_err-write_entry.ensures.cause c.write_entry.ensures.left)

pub returns-in_err-enter-clause-turned : goal.returns-in_err-enter-clause-turned
returns-in_err-enter-clause-turned g c turn answer p =
    let d = g.D.Disk in
    let now = c.args.self.now in
    subst (HasTurned d.told d.content d.may_leave d.moment d.left_since d.size turn answer now c.enter.new.self) (sym (err-is c.from_residual-in_err-enter.result c.in_err-enter.field-0.0 c.from_residual-in_err-enter.ensures.1))
    (untold-turned d.told d.content d.may_leave d.moment d.left_since d.size now p.trusted turn p.its c.args.run p.planned c.args.made c.requires.attempt.its answer
    c.write_entry.new.self c.in_ok-write_entry.ensures.written c.write_entry.ensures.size c.write_entry.ensures.left c.enter.new.self c.enter.ensures.left d.faults c.in_err-enter.field-0.0 c.in_err-enter.ensures.cause)

pub returns-clause-turned : goal.returns-clause-turned
returns-clause-turned g c turn answer p =
    let d = g.D.Disk in
    let laws = g.met.D.Disk g.world.𝓛 g.world.𝓜 g.world.𝓡 ((λ s x. x), (λ x. x), (λ x. x), λ x. x) in
    let now = c.args.self.now in
    let disk = c.enter.new.self.store.disk in
    taken-turned d.told d.content d.may_leave d.moment d.left_since d.size now p.trusted turn p.its c.args.run p.planned c.args.made c.requires.attempt.its answer
    c.write_entry.new.self c.in_ok-write_entry.ensures.written c.write_entry.ensures.size c.write_entry.ensures.left c.enter.new.self c.enter.ensures.left
    (laws.counts_now disk) (λ image may. laws.sized disk (d.moment disk) image (laws.counts_now disk (d.moment disk) image (omega arith) may) ∙ c.enter.ensures.size)
    c.args.reply
    (done-reply d.told d.content d.may_leave d.moment d.left_since d.size now p.trusted turn p.its c.args.run p.planned c.args.made c.requires.attempt.its answer c.args.reply c.requires.attempt.reply_is)
    c.in_ok-enter.ensures.ok (c.in_ok-enter.ensures.told p.trusted.tells) (c.in_ok-enter.ensures.records p.trusted.tells) c.in_ok-enter.ensures.settled
