use Rattle.std.proofs.Common.{◌∙◌, IfErr, IfSome, Option, arith, ap, subst, sym, None}
use Rattle.std.specs.Option.{is_some}
use Rattle.ckr_desk_refines.specs.Memory.Checkpoint.{Checkpoint}
use Rattle.ckr_desk_refines.specs.Memory.Checkpoints.{IsCheckpointOf}
use Rattle.ckr_desk_refines.specs.Memory.Parts.{step_seen}
use Rattle.ckr_events.specs.declared.event.Event.{Event}
use Rattle.ckr_desk_refines.specs.Tables.Invariant.{MaySubmit}
use Rattle.ckr_points.specs.declared.reply.Chkpt.TheVariants.{Done}
use Rattle.ckr_desk_turn.specs.Spelling.{IsSpelled}
use Rattle.ckr_desk.proofs.Checkpoints.Attempts.{made-same, made-with, not-ready, reply-same, reply-with, unfit-with}
use Rattle.ckr_desk.proofs.Units.Preparation.{err-is}
use Rattle.ckr_desk.specs.Checkpoint.{IsMade, IsReplyWith, IsUnfit, NotAttempted}
use Rattle.ckr_desk.specs.State.{DeskView}
use Rattle.ckr_desk.proofs.desk.Desk.attempt.Goals as goal

pub next_checkpoint-requires-clause-jobs : goal.next_checkpoint-requires-clause-jobs
next_checkpoint-requires-clause-jobs g c = (c.self.inside.store.layout, c.self.invariant.jobs.are)

pub next_checkpoint-requires-clause-counted : goal.next_checkpoint-requires-clause-counted
next_checkpoint-requires-clause-counted g c = (c.in-Some.ensures.runnable c.self.inside.store.layout c.self.invariant.jobs.are).counted

pub checkpoint_reply-reply-requires : goal.checkpoint_reply-reply-requires
checkpoint_reply-reply-requires g c = c.self.invariant.jobs.are.rows

pub checkpoint_reply-reply-requires-2 : goal.checkpoint_reply-reply-requires-2
checkpoint_reply-reply-requires-2 g c = c.self.invariant.jobs.are.rows

pub returns-in_default-2-clause-attempt : goal.returns-in_default-2-clause-attempt
returns-in_default-2-clause-attempt g c =
    let old : DeskView g.row.D.Denot = record { store = c.self.inside.store; jobs = c.self.inside.jobs; machine_room = c.self.inside.machine_room } in
    subst (λ (s : DeskView g.row.D.Denot). IsUnfit c.args.run s c.checkpoint_reply-reply.result) c.self.view_is
    (unfit-with c.args.run old (step_seen c.in-Some.on.now) (sym c.in-Some.ensures.step) (c.in-Some.ensures.own c.self.invariant.jobs.own) c.checkpoint_reply-reply.result c.checkpoint_reply-reply.ensures
    (λ row own at within. sym (c.in_ok-made.ensures.fits row own at within) ∙ ap is_some c.in_default-2.is))

pub make_ready-requires-clause-counted : goal.make_ready-requires-clause-counted
make_ready-requires-clause-counted g c κs within = (subst (λ (o : Option Checkpoint). IfSome o (λ made. IsSpelled made.event)) c.in-Some-2.is c.in_ok-made.ensures.spelled).counted

pub make_ready-requires-clause-small : goal.make_ready-requires-clause-small
make_ready-requires-clause-small g c κs within =
    let short = (subst (λ (o : Option Checkpoint). IfSome o (λ made. IsSpelled made.event)) c.in-Some-2.is c.in_ok-made.ensures.spelled).short in
    omega (arith, short)

pub make_ready-requires-clause-deck : goal.make_ready-requires-clause-deck
make_ready-requires-clause-deck g c κs within =
    let of = subst (λ (o : Option Checkpoint). IfSome o (IsCheckpointOf c.self.inside.jobs.tables.desk (step_seen c.in-Some.on.now))) c.in-Some-2.is c.in_ok-made.ensures.checkpoint in
    subst (λ (e : Event). MaySubmit e None) (sym of.event) tt

pub returns-clause-attempt : goal.returns-clause-attempt
returns-clause-attempt g c =
    let old : DeskView g.row.D.Denot = record { store = c.self.inside.store; jobs = c.self.inside.jobs; machine_room = c.self.inside.machine_room } in
    let now = c.args.self.now in
    let new = c.make_ready.new.self in
    let jobs = c.make_ready.ensures.jobs in
    record {
      its = made-same c.args.run now new jobs c.make_ready.ensures.store c.in-Some-2.made (subst (λ (s : DeskView g.row.D.Denot). IsMade c.args.run s c.in-Some-2.made) c.self.view_is
          (made-with c.args.run old (step_seen c.in-Some.on.now) (sym c.in-Some.ensures.step) c.in_ok-made.field-0 c.in-Some-2.made c.in-Some-2.is c.in_ok-made.ensures.checkpoint
          (c.in_ok-made.ensures.set c.self.inside.store.layout c.self.invariant.jobs.are) c.in_ok-made.ensures.spelled
          (c.in_ok-made.ensures.follows c.self.inside.store.layout c.self.invariant.jobs.are c.self.invariant.jobs.own) (c.in_ok-made.ensures.commits c.self.invariant.jobs.own)));
      ready_for = c.in_ok-ready.ensures.ready;
      reply_is = reply-same c.args.run now new jobs Done c.checkpoint_reply-reply-2.result
          (subst (λ (s : DeskView g.row.D.Denot). IsReplyWith c.args.run s Done c.checkpoint_reply-reply-2.result) c.self.view_is
          (reply-with c.args.run old (step_seen c.in-Some.on.now) (sym c.in-Some.ensures.step) (c.in-Some.ensures.own c.self.invariant.jobs.own) Done c.checkpoint_reply-reply-2.result c.checkpoint_reply-reply-2.ensures));
    }

pub returns-in_err-ready-clause-cause : goal.returns-in_err-ready-clause-cause
returns-in_err-ready-clause-cause g c =
    let old : DeskView g.row.D.Denot = record { store = c.self.inside.store; jobs = c.self.inside.jobs; machine_room = c.self.inside.machine_room } in
    let now = c.args.self.now in
    subst (λ r. IfErr r (NotAttempted c.args.run now c.make_ready.new.self)) (sym (err-is c.from_residual-in_err-ready.result c.in_err-ready.field-0.0 c.from_residual-in_err-ready.ensures.1))
    (not-ready c.args.run now c.make_ready.new.self c.in-Some-2.made (subst (λ (s : DeskView g.row.D.Denot). IsMade c.args.run s c.in-Some-2.made) c.self.view_is
    (made-with c.args.run old (step_seen c.in-Some.on.now) (sym c.in-Some.ensures.step) c.in_ok-made.field-0 c.in-Some-2.made c.in-Some-2.is c.in_ok-made.ensures.checkpoint
    (c.in_ok-made.ensures.set c.self.inside.store.layout c.self.invariant.jobs.are) c.in_ok-made.ensures.spelled
    (c.in_ok-made.ensures.follows c.self.inside.store.layout c.self.invariant.jobs.are c.self.invariant.jobs.own) (c.in_ok-made.ensures.commits c.self.invariant.jobs.own))) c.in_err-ready.field-0.0 c.in_err-ready.ensures.cause)
