use Rattle.std.proofs.Common.{◌≡◌, ◌+◌, ◌<◌, ℕ, List, ◌∷◌, ◌++◌, [], length, take, drop, get_or, refl, sym, ap, subst, ◌∙◌, arith, take-append-drop}
use Rattle.std.proofs.lemmas.List.{take_more}
use Rattle.ckr_base.proofs.Results.{err-holds}
use Rattle.ckr_service.proofs.Streams.Texts.{Carries-Breaks, Carries-trans, nothing_yet}
use Rattle.ckr_service.specs.Flows.{Breaks, Carries}
use Rattle.ckr_session.proofs.Calls.Stops.{events_behind, goes_still, goes_then, stopped_behind}
use Rattle.ckr_service.proofs.flow.Flow.feed.Goals as goal
use Rattle.ckr_session.specs.Model.State.{disk_of}

pub returns-in_err-byte-clause-err : goal.returns-in_err-byte-clause-err
returns-in_err-byte-clause-err g c holds =
    let d = g.D.Disk in
    let l = c.loop-byte.invariant in
    let piece = c.args.piece.now in
    let i = c.loop-byte.byte-index in
    let within : i < length piece = omega arith in
    let whole : piece ≡ (take i piece ++ get_or piece i 0 ∷ []) ++ drop (i + 1) piece =
    sym (take-append-drop (i + 1) piece) ∙ ap (λ t. t ++ drop (i + 1) piece) (take_more piece i 0 within) in
    let f = c.args.self.now in
    let mid = c.loop-byte.self in
    let stop = c.in_err-byte.field-0.0 in
    let goes = l.goes holds in
    let written = g.K.Sink.written in
    let faults = g.K.Sink.faults in
    err-holds c.from_residual.result stop _ c.from_residual.ensures.1
    (stopped_behind d.content d.moment d.left_since d.size f.session.clerk.desk mid.session.clerk.desk (disk_of c.byte.new.self.session.clerk.desk) goes goes.came
    (Breaks d.content stop (faults c.loop-byte.sink) (faults c.byte.new.sink) mid (get_or piece i 0 ∷ []) (written c.loop-byte.sink) (written c.byte.new.sink))
    (Breaks d.content stop (faults c.args.sink.now) (faults c.byte.new.sink) f piece (written c.args.sink.now) (written c.byte.new.sink))
    (events_behind d.content d.moment d.left_since d.size f.session.clerk.desk mid.session.clerk.desk goes)
    (λ came kept breaks.
    Carries-Breaks d.content stop (faults c.args.sink.now) (faults c.loop-byte.sink) (faults c.byte.new.sink) f mid (take i piece) (get_or piece i 0 ∷ []) (drop (i + 1) piece) piece
    (written c.args.sink.now) (written c.loop-byte.sink) (written c.byte.new.sink) goes.came came kept l.sink_later
    (events_behind d.content d.moment d.left_since d.size f.session.clerk.desk mid.session.clerk.desk goes) (l.carries holds) breaks whole)
    (c.in_err-byte.ensures.err (l.trusted holds)))

pub loop-byte-preserved : goal.loop-byte-preserved
loop-byte-preserved g c =
    let l = c.loop-byte.invariant in
    let e = c.in_ok-byte.ensures in
    let piece = c.args.piece.now in
    let i = c.loop-byte.byte-index in
    let within : i < length piece = omega arith in
    let d = g.D.Disk in
    record {
      trusted = λ holds. e.trusted (l.trusted holds);
      goes = λ holds. goes_then d.content d.moment d.left_since d.size c.args.self.now.session.clerk.desk c.loop-byte.self.session.clerk.desk c.byte.new.self.session.clerk.desk (l.goes holds) (e.goes (l.trusted holds));
      carries = λ holds.
          subst (λ (t : List ℕ). Carries g.D.Disk.content c.args.self.now c.byte.new.self t (g.K.Sink.written c.args.sink.now) (g.K.Sink.written c.byte.new.sink)) (sym (take_more piece i 0 within))
          (Carries-trans g.D.Disk.content c.args.self.now c.loop-byte.self c.byte.new.self (take i piece) (get_or piece i 0 ∷ []) (g.K.Sink.written c.args.sink.now) (g.K.Sink.written c.loop-byte.sink) (g.K.Sink.written c.byte.new.sink)
          (l.carries holds) (e.ok (l.trusted holds)));
      is_open = e.is_open;
      few = omega (arith, e.few);
      cards = e.cards;
      sink_later = omega arith;
      disk_later = omega arith;
      size = e.size ∙ l.size;
    }

pub loop-byte-init : goal.loop-byte-init
loop-byte-init g c =
    let d = g.D.Disk in
    let laws = g.met.D.Disk g.world.𝓛 g.world.𝓜 g.world.𝓡 ((λ s x. x), (λ x. x), (λ x. x), λ x. x) in
    let desk = c.args.self.now.session.clerk.desk in
    record {
      trusted = λ holds. holds;
      goes = λ holds. goes_still d.content d.moment d.left_since d.size d.told d.may_leave desk holds (laws.only_now (disk_of desk)) (laws.sized (disk_of desk) (d.moment (disk_of desk)));
      carries = λ holds. nothing_yet d.content c.args.self.now (g.K.Sink.written c.args.sink.now);
      is_open = c.requires.is_open;
      few = omega arith;
      cards = c.requires.cards;
      sink_later = omega arith;
      disk_later = omega arith;
      size = refl;
    }
