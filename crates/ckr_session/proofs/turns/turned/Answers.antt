use Rattle.std.proofs.Common.{◌≡◌, ◌-◌, ◌+◌, ◌++◌, [], ℕ, List, Option, length, suc, true, false, None, refl, ap, sym, subst, ◌∙◌, append-nil, arith}
use Rattle.std.specs.List.{flat_map}
use Rattle.ckr_base.proofs.Results.{err-holds}
use Rattle.ckr_desk.specs.Model.OpenImages.{event_records}
use Rattle.ckr_desk.specs.State.{DeskView, disk_of, layout_of}
use Rattle.ckr_session.specs.declared.stop.Halt.TheVariants as Halts
use Rattle.ckr_session.specs.Events.{turns_events}
use Rattle.ckr_session.specs.Service.{attended_of}
use Rattle.ckr_desk.specs.Model.Layout.{Layout}
use Rattle.ckr_desk.specs.Model.Reply.{Reply}
use Rattle.ckr_session.specs.Calls.{is_rest, turns}
use Rattle.ckr_session.specs.Lines.{IsTold, telling}
use Rattle.ckr_session.specs.Tallies.{with_replies}
use Rattle.ckr_session.specs.Texts.{run_text, with_waiting}
use Rattle.ckr_session.specs.Turns.{Adds, TurnHalt, Turns, TurnsHaltTelling}
use Rattle.ckr_session.proofs.Service.Tallies.{counted_last, counted_more}
use Rattle.ckr_session.proofs.Service.Turns.{adds_behind_text, no_more, turns_begun, turn_counted, turn_made, turn_rests, turns_counted, turns_front, turns_made, turns_halted}
use Rattle.ckr_session.proofs.Calls.Stops.{came_there, goes_still, goes_then, stopped_behind, stopped_here}
use Rattle.ckr_session.proofs.Tellings.{ends_told, front_told, told_here, told_more}
use Rattle.ckr_session.proofs.turns.turned.Goals as goal

abbrev events_at : {D : Type 0} → (D → List ℕ) → DeskView D → List (List ℕ)
events_at content desk = event_records (layout_of desk) (content (disk_of desk))

same_count : (n : ℕ) → n ≡ n - 0
same_count n = omega arith

-- where none waits, nothing more is told
none_waits : (layout : Layout) (initiator : ℕ) (waiting : Option (Reply × ℕ)) (text : List ℕ) → waiting ≡ None → text ≡ text ++ flat_map (run_text layout initiator) (with_waiting waiting [])
none_waits layout initiator waiting text none = sym (ap (λ (w : Option (Reply × ℕ)). text ++ flat_map (run_text layout initiator) (with_waiting w [])) none ∙ append-nil text)

pub loop-init : goal.loop-init
loop-init g c =
    let d = g.D.Disk in
    let laws = g.met.D.Disk g.world.𝓛 g.world.𝓜 g.world.𝓡 ((λ s x. x), (λ x. x), (λ x. x), λ x. x) in
    let desk = c.args.desk.now in
    let s = attended_of d.content c.args.desk.now in
    let lines = c.args.lines.now in
    let from = telling lines (g.K.Sink.written c.args.sink.now) (g.K.Sink.faults c.args.sink.now) in
    record {
      tally = λ holds. ap (λ (k : ℕ). with_replies c.args.tally.now (turns c.args.turn k s)) (sym (same_count c.args.count));
      turns = λ holds. record {
        told = lines.text;
        so = subst (λ (k : ℕ). Turns (layout_of c.args.desk.now) c.args.turn c.args.count k s s None lines.text lines.text (events_at d.content c.args.desk.now) (events_at d.content c.args.desk.now)) (same_count c.args.count)
            (turns_begun (layout_of c.args.desk.now) c.args.turn c.args.count s lines.text (events_at d.content c.args.desk.now));
        is = told_here from from c.requires.fresh refl;
      };
      told = tt;
      few = omega arith;
      is_open = c.requires.is_open;
      layout = refl;
      trusted = λ holds. holds;
      goes = λ holds. goes_still d.content d.moment d.left_since d.size d.told d.may_leave desk holds (laws.only_now (disk_of desk)) (laws.sized (disk_of desk) (d.moment (disk_of desk)));
      later = omega arith;
      size = refl;
      sink_later = omega arith;
      failed = λ failed. cc;
    }

pub loop-preserved : goal.loop-preserved
loop-preserved g c =
    let d = g.D.Disk in
    let i = c.loop.invariant in
    let o = c.in_ok-reply.ensures in
    let layout = layout_of c.args.desk.now in
    let m = c.args.count - (c.loop.counter + 1) in
    let less : c.args.count - c.loop.counter ≡ suc m = omega arith in
    let busy : is_rest c.in_ok-reply.reply ≡ false = sym c.is_rest-rests.ensures ∙ c.if-rests.false in
    let lines = c.write.new.self in
    let adds = subst (λ (l : Layout). Adds l c.args.turn.initiator c.loop.waiting c.in_ok-reply.reply c.in_ok-waiting.waiting lines.text c.add.new.out) (c.layout.ensures.layout ∙ o.layout ∙ i.layout) c.in_ok-waiting.ensures.adds in
    let more = flat_map (run_text layout c.args.turn.initiator) adds.ended in
    let from = telling c.args.lines.now (g.K.Sink.written c.args.sink.now) (g.K.Sink.faults c.args.sink.now) in
    record {
      tally = λ holds.
          counted_more c.args.turn (c.args.count - c.loop.counter) m _ _ c.in_ok-reply.reply c.loop.tally c.count.new.self less (o.fits (i.trusted holds)) (o.reply (i.trusted holds)) (o.after (i.trusted holds)) busy c.count.ensures
          ∙ i.tally holds;
      turns = λ holds.
          (let turns = i.turns holds in
          record {
            told = turns.told ++ more;
            so = turn_made layout c.args.turn c.args.count (c.args.count - c.loop.counter) m _ _ _ c.in_ok-reply.reply _ _ _ turns.told (turns.told ++ more) _ _ _ less (o.fits (i.trusted holds)) (o.reply (i.trusted holds)) (o.after (i.trusted holds)) busy
                (came_there d.content c.loop.desk c.one_turn.new.desk _ o.layout (o.events (i.trusted holds))) turns.so
                (adds_behind_text layout c.args.turn.initiator c.loop.waiting c.in_ok-reply.reply c.in_ok-waiting.waiting lines.text c.add.new.out turns.told adds);
            is = told_more from turns.told more lines.text c.add.new.out lines.failed (g.K.Sink.written c.write.new.sink) (g.K.Sink.faults c.write.new.sink) adds.written
                (c.write.ensures.told from turns.told i.sink_later turns.is);
          });
      told = c.in_ok-waiting.ensures.told;
      few = omega (arith, c.in_ok-waiting.ensures.count, i.few);
      is_open = o.is_open;
      layout = o.layout ∙ i.layout;
      trusted = λ holds. o.trusted (i.trusted holds);
      goes = λ holds. goes_then d.content d.moment d.left_since d.size c.args.desk.now c.loop.desk c.one_turn.new.desk (i.goes holds) (o.goes (i.trusted holds));
      later = omega (arith, i.later, o.later);
      size = o.size ∙ i.size;
      sink_later = omega (arith, i.sink_later, c.write.ensures.later);
      failed = λ failed. c.write.ensures.failed failed (g.K.Sink.faults c.args.sink.now) i.sink_later i.failed;
    }

pub returns-then-rests-clause-text : goal.returns-then-rests-clause-text
returns-then-rests-clause-text g c holds =
    let i = c.loop.invariant in
    let o = c.in_ok-reply.ensures in
    let here = i.trusted holds in
    let layout = layout_of c.args.desk.now in
    let m = c.args.count - (c.loop.counter + 1) in
    let less : c.args.count - c.loop.counter ≡ suc m = omega arith in
    let rests : is_rest c.in_ok-reply.reply ≡ true = sym c.is_rest-rests.ensures ∙ c.if-rests.true in
    let lines = c.write.new.self in
    let adds = subst (λ (l : Layout). Adds l c.args.turn.initiator c.loop.waiting c.in_ok-reply.reply c.in_ok-waiting.waiting lines.text c.add.new.out) (c.layout.ensures.layout ∙ o.layout ∙ i.layout) c.in_ok-waiting.ensures.adds in
    let more = flat_map (run_text layout c.args.turn.initiator) adds.ended in
    let turns = i.turns holds in
    let all = turn_rests layout c.args.turn c.args.count (c.args.count - c.loop.counter) m _ _ _ c.in_ok-reply.reply _ _ _ turns.told (turns.told ++ more) (turns.told ++ more) _ _ _ less (o.fits here) (o.reply here) (o.after here) rests
    (came_there g.D.Disk.content c.loop.desk c.one_turn.new.desk _ o.layout (o.events here)) turns.so
    (adds_behind_text layout c.args.turn.initiator c.loop.waiting c.in_ok-reply.reply c.in_ok-waiting.waiting lines.text c.add.new.out turns.told adds)
    (none_waits layout c.args.turn.initiator c.in_ok-waiting.waiting (turns.told ++ more) (c.in_ok-waiting.ensures.rest rests)) in
    let from = telling c.args.lines.now (g.K.Sink.written c.args.sink.now) (g.K.Sink.faults c.args.sink.now) in
    let written = g.K.Sink.written c.write.new.sink in
    let faults = g.K.Sink.faults c.write.new.sink in
    subst (λ (l : List ℕ). IsTold from l (record { waits = c.add.new.out; failed = lines.failed; written = written; faults = faults })) all.text
    (told_more from turns.told more lines.text c.add.new.out lines.failed written faults adds.written (c.write.ensures.told from turns.told i.sink_later turns.is))

pub returns-then-rests-clause-after : goal.returns-then-rests-clause-after
returns-then-rests-clause-after g c holds =
    let i = c.loop.invariant in
    let o = c.in_ok-reply.ensures in
    let here = i.trusted holds in
    let layout = layout_of c.args.desk.now in
    let m = c.args.count - (c.loop.counter + 1) in
    let less : c.args.count - c.loop.counter ≡ suc m = omega arith in
    let rests : is_rest c.in_ok-reply.reply ≡ true = sym c.is_rest-rests.ensures ∙ c.if-rests.true in
    let lines = c.write.new.self in
    let adds = subst (λ (l : Layout). Adds l c.args.turn.initiator c.loop.waiting c.in_ok-reply.reply c.in_ok-waiting.waiting lines.text c.add.new.out) (c.layout.ensures.layout ∙ o.layout ∙ i.layout) c.in_ok-waiting.ensures.adds in
    let more = flat_map (run_text layout c.args.turn.initiator) adds.ended in
    let turns = i.turns holds in
    let all = turn_rests layout c.args.turn c.args.count (c.args.count - c.loop.counter) m _ _ _ c.in_ok-reply.reply _ _ _ turns.told (turns.told ++ more) (turns.told ++ more) _ _ _ less (o.fits here) (o.reply here) (o.after here) rests
    (came_there g.D.Disk.content c.loop.desk c.one_turn.new.desk _ o.layout (o.events here)) turns.so
    (adds_behind_text layout c.args.turn.initiator c.loop.waiting c.in_ok-reply.reply c.in_ok-waiting.waiting lines.text c.add.new.out turns.told adds)
    (none_waits layout c.args.turn.initiator c.in_ok-waiting.waiting (turns.told ++ more) (c.in_ok-waiting.ensures.rest rests)) in
    all.after

pub returns-then-rests-clause-fits : goal.returns-then-rests-clause-fits
returns-then-rests-clause-fits g c holds =
    let i = c.loop.invariant in
    let o = c.in_ok-reply.ensures in
    let here = i.trusted holds in
    let layout = layout_of c.args.desk.now in
    let m = c.args.count - (c.loop.counter + 1) in
    let less : c.args.count - c.loop.counter ≡ suc m = omega arith in
    let rests : is_rest c.in_ok-reply.reply ≡ true = sym c.is_rest-rests.ensures ∙ c.if-rests.true in
    let lines = c.write.new.self in
    let adds = subst (λ (l : Layout). Adds l c.args.turn.initiator c.loop.waiting c.in_ok-reply.reply c.in_ok-waiting.waiting lines.text c.add.new.out) (c.layout.ensures.layout ∙ o.layout ∙ i.layout) c.in_ok-waiting.ensures.adds in
    let more = flat_map (run_text layout c.args.turn.initiator) adds.ended in
    let turns = i.turns holds in
    let all = turn_rests layout c.args.turn c.args.count (c.args.count - c.loop.counter) m _ _ _ c.in_ok-reply.reply _ _ _ turns.told (turns.told ++ more) (turns.told ++ more) _ _ _ less (o.fits here) (o.reply here) (o.after here) rests
    (came_there g.D.Disk.content c.loop.desk c.one_turn.new.desk _ o.layout (o.events here)) turns.so
    (adds_behind_text layout c.args.turn.initiator c.loop.waiting c.in_ok-reply.reply c.in_ok-waiting.waiting lines.text c.add.new.out turns.told adds)
    (none_waits layout c.args.turn.initiator c.in_ok-waiting.waiting (turns.told ++ more) (c.in_ok-waiting.ensures.rest rests)) in
    all.fits

pub returns-then-rests-clause-events : goal.returns-then-rests-clause-events
returns-then-rests-clause-events g c holds =
    let i = c.loop.invariant in
    let o = c.in_ok-reply.ensures in
    let here = i.trusted holds in
    let layout = layout_of c.args.desk.now in
    let m = c.args.count - (c.loop.counter + 1) in
    let less : c.args.count - c.loop.counter ≡ suc m = omega arith in
    let rests : is_rest c.in_ok-reply.reply ≡ true = sym c.is_rest-rests.ensures ∙ c.if-rests.true in
    let lines = c.write.new.self in
    let adds = subst (λ (l : Layout). Adds l c.args.turn.initiator c.loop.waiting c.in_ok-reply.reply c.in_ok-waiting.waiting lines.text c.add.new.out) (c.layout.ensures.layout ∙ o.layout ∙ i.layout) c.in_ok-waiting.ensures.adds in
    let more = flat_map (run_text layout c.args.turn.initiator) adds.ended in
    let turns = i.turns holds in
    let all = turn_rests layout c.args.turn c.args.count (c.args.count - c.loop.counter) m _ _ _ c.in_ok-reply.reply _ _ _ turns.told (turns.told ++ more) (turns.told ++ more) _ _ _ less (o.fits here) (o.reply here) (o.after here) rests
    (came_there g.D.Disk.content c.loop.desk c.one_turn.new.desk _ o.layout (o.events here)) turns.so
    (adds_behind_text layout c.args.turn.initiator c.loop.waiting c.in_ok-reply.reply c.in_ok-waiting.waiting lines.text c.add.new.out turns.told adds)
    (none_waits layout c.args.turn.initiator c.in_ok-waiting.waiting (turns.told ++ more) (c.in_ok-waiting.ensures.rest rests)) in
    ap (λ (l : Layout). event_records l (g.D.Disk.content (disk_of c.one_turn.new.desk))) (sym (o.layout ∙ i.layout)) ∙ all.events

pub returns-then-rests-clause-tally : goal.returns-then-rests-clause-tally
returns-then-rests-clause-tally g c holds =
    let i = c.loop.invariant in
    let o = c.in_ok-reply.ensures in
    let here = i.trusted holds in
    let m = c.args.count - (c.loop.counter + 1) in
    let less : c.args.count - c.loop.counter ≡ suc m = omega arith in
    let rests : is_rest c.in_ok-reply.reply ≡ true = sym c.is_rest-rests.ensures ∙ c.if-rests.true in
    counted_last c.args.turn (c.args.count - c.loop.counter) m _ c.in_ok-reply.reply c.loop.tally c.count.new.self less (o.fits here) (o.reply here) c.count.ensures rests
    ∙ i.tally holds

pub returns-then-rests-clause-goes : goal.returns-then-rests-clause-goes
returns-then-rests-clause-goes g c holds =
    let d = g.D.Disk in
    let i = c.loop.invariant in
    goes_then d.content d.moment d.left_since d.size c.args.desk.now c.loop.desk c.one_turn.new.desk (i.goes holds) (c.in_ok-reply.ensures.goes (i.trusted holds))

pub returns-then-rests-clause-failed : goal.returns-then-rests-clause-failed
returns-then-rests-clause-failed g c failed =
    let i = c.loop.invariant in
    c.write.ensures.failed failed (g.K.Sink.faults c.args.sink.now) i.sink_later i.failed

-- ---- a turn that isn't made

pub returns-in_err-reply-clause-halt : goal.returns-in_err-reply-clause-halt
returns-in_err-reply-clause-halt g c holds =
    let d = g.D.Disk in
    let i = c.loop.invariant in
    let old = c.args.desk.now in
    let s = attended_of d.content old in
    let layout = layout_of old in
    let halt = c.in_err-reply.field-0.0 in
    let m = c.args.count - (c.loop.counter + 1) in
    let less : c.args.count - c.loop.counter ≡ suc m = omega arith in
    let turns = i.turns holds in
    let from = telling c.args.lines.now (g.K.Sink.written c.args.sink.now) (g.K.Sink.faults c.args.sink.now) in
    let to = telling c.write.new.self (g.K.Sink.written c.write.new.sink) (g.K.Sink.faults c.write.new.sink) in
    let whole = turns_front layout c.args.turn c.args.count (c.args.count - c.loop.counter) _ _ _ _ _ _ _ turns.so in
    err-holds c.from_residual.result halt _ c.from_residual.ensures.1
    (stopped_behind d.content d.moment d.left_since d.size old c.loop.desk (disk_of c.one_turn.new.desk) (i.goes holds) (turns_events c.args.turn (length turns.so.made) s)
    (TurnHalt halt c.args.turn (attended_of d.content c.loop.desk)) (TurnsHaltTelling layout c.args.turn halt c.args.count s from to) turns.so.events
    (λ came kept why. record {
      told = turns.told;
      so = turns_halted layout c.args.turn halt c.args.count (c.args.count - c.loop.counter) m _ _ _ _ turns.told turns.told _ _ came kept less why turns.so (no_more layout c.args.turn c.loop.waiting turns.told i.told);
      ends = ends_told halt from to turns.told whole.0 _ whole.1 (c.write.ensures.told from turns.told i.sink_later turns.is);
    })
    (c.in_err-reply.ensures.halt (i.trusted holds)))

pub returns-in_err-reply-clause-failed : goal.returns-in_err-reply-clause-failed
returns-in_err-reply-clause-failed g c failed =
    let i = c.loop.invariant in
    c.write.ensures.failed failed (g.K.Sink.faults c.args.sink.now) i.sink_later i.failed

-- ---- no memory for a text

pub returns-in_err-waiting-clause-halt : goal.returns-in_err-waiting-clause-halt
returns-in_err-waiting-clause-halt g c holds =
    let d = g.D.Disk in
    let i = c.loop.invariant in
    let o = c.in_ok-reply.ensures in
    let old = c.args.desk.now in
    let s = attended_of d.content old in
    let layout = layout_of old in
    let m = c.args.count - (c.loop.counter + 1) in
    let less : c.args.count - c.loop.counter ≡ suc m = omega arith in
    let here = i.trusted holds in
    let turns = i.turns holds in
    let counted = turn_counted layout c.args.turn c.args.count (c.args.count - c.loop.counter) m _ _ c.in_ok-reply.reply _ _ _ _ _ _ less (o.fits here)
    (came_there d.content c.loop.desk c.one_turn.new.desk _ o.layout (o.events here)) turns.so in
    let written = g.K.Sink.written c.write.new.sink in
    let faults = g.K.Sink.faults c.write.new.sink in
    let from = telling c.args.lines.now (g.K.Sink.written c.args.sink.now) (g.K.Sink.faults c.args.sink.now) in
    let whole = turns_front layout c.args.turn c.args.count (c.args.count - c.loop.counter) _ _ _ _ _ _ _ turns.so in
    err-holds c.from_residual-in_err-waiting.result Halts.Memory _ c.from_residual-in_err-waiting.ensures.1
    (stopped_here d.content d.moment d.left_since d.size old c.one_turn.new.desk (goes_then d.content d.moment d.left_since d.size old c.loop.desk c.one_turn.new.desk (i.goes holds) (o.goes here)) counted.0
    (TurnsHaltTelling layout c.args.turn Halts.Memory c.args.count s from (record { waits = c.add.new.out; failed = c.write.new.self.failed; written = written; faults = faults })) counted.1
    (record {
      told = turns.told;
      so = counted.2;
      ends = front_told from (telling c.write.new.self written faults) turns.told whole.0 _ whole.1 (c.write.ensures.told from turns.told i.sink_later turns.is);
    }))

pub returns-in_err-waiting-clause-failed : goal.returns-in_err-waiting-clause-failed
returns-in_err-waiting-clause-failed g c failed =
    let i = c.loop.invariant in
    c.write.ensures.failed failed (g.K.Sink.faults c.args.sink.now) i.sink_later i.failed

pub returns-in_err-finish-clause-halt : goal.returns-in_err-finish-clause-halt
returns-in_err-finish-clause-halt g c holds =
    let d = g.D.Disk in
    let i = c.loop.invariant in
    let old = c.args.desk.now in
    let s = attended_of d.content old in
    let layout = layout_of old in
    let turns = i.turns holds in
    let written = g.K.Sink.written c.loop.sink in
    let faults = g.K.Sink.faults c.loop.sink in
    let from = telling c.args.lines.now (g.K.Sink.written c.args.sink.now) (g.K.Sink.faults c.args.sink.now) in
    let whole = turns_front layout c.args.turn c.args.count (c.args.count - c.loop.counter) _ _ _ _ _ _ _ turns.so in
    err-holds c.from_residual-in_err-finish.result Halts.Memory _ c.from_residual-in_err-finish.ensures.1
    (stopped_here d.content d.moment d.left_since d.size old c.loop.desk (i.goes holds) (turns_events c.args.turn (length turns.so.made) s)
    (TurnsHaltTelling layout c.args.turn Halts.Memory c.args.count s from (record { waits = c.finish.new.out; failed = c.loop.lines.failed; written = written; faults = faults })) turns.so.events
    (record {
      told = turns.told;
      so = turns_counted layout c.args.turn c.args.count (c.args.count - c.loop.counter) _ _ _ _ _ _ _ turns.so;
      ends = front_told from (telling c.loop.lines written faults) turns.told whole.0 _ whole.1 turns.is;
    }))

-- ---- as many as were asked for

pub returns-clause-text : goal.returns-clause-text
returns-clause-text g c holds =
    let i = c.loop.invariant in
    let layout = layout_of c.args.desk.now in
    let none : c.args.count - c.loop.counter ≡ 0 = omega arith in
    let turns = i.turns holds in
    let more = flat_map (run_text layout c.args.turn.initiator) (with_waiting c.loop.waiting []) in
    let all = turns_made layout c.args.turn c.args.count (c.args.count - c.loop.counter) _ _ _ _ turns.told (turns.told ++ more) _ _ none turns.so refl in
    let last = subst (λ (l : Layout). c.finish.new.out ≡ c.loop.lines.text ++ flat_map (run_text l c.args.turn.initiator) (with_waiting c.loop.waiting [])) (c.layout-2.ensures.layout ∙ i.layout) c.in_ok-finish.ensures in
    let from = telling c.args.lines.now (g.K.Sink.written c.args.sink.now) (g.K.Sink.faults c.args.sink.now) in
    let written = g.K.Sink.written c.loop.sink in
    let faults = g.K.Sink.faults c.loop.sink in
    subst (λ (l : List ℕ). IsTold from l (record { waits = c.finish.new.out; failed = c.loop.lines.failed; written = written; faults = faults })) all.text
    (told_more from turns.told more c.loop.lines.text c.finish.new.out c.loop.lines.failed written faults last turns.is)

pub returns-clause-fits : goal.returns-clause-fits
returns-clause-fits g c holds =
    let i = c.loop.invariant in
    let layout = layout_of c.args.desk.now in
    let none : c.args.count - c.loop.counter ≡ 0 = omega arith in
    let turns = i.turns holds in
    let more = flat_map (run_text layout c.args.turn.initiator) (with_waiting c.loop.waiting []) in
    let all = turns_made layout c.args.turn c.args.count (c.args.count - c.loop.counter) _ _ _ _ turns.told (turns.told ++ more) _ _ none turns.so refl in
    all.fits

pub returns-clause-tally : goal.returns-clause-tally
returns-clause-tally g c holds =
    let i = c.loop.invariant in
    let none : c.args.count - c.loop.counter ≡ 0 = omega arith in
    ap (λ (k : ℕ). with_replies c.loop.tally (turns c.args.turn k (attended_of g.D.Disk.content c.loop.desk))) (sym none) ∙ i.tally holds

pub returns-clause-after : goal.returns-clause-after
returns-clause-after g c holds =
    let i = c.loop.invariant in
    let layout = layout_of c.args.desk.now in
    let none : c.args.count - c.loop.counter ≡ 0 = omega arith in
    let turns = i.turns holds in
    let more = flat_map (run_text layout c.args.turn.initiator) (with_waiting c.loop.waiting []) in
    let all = turns_made layout c.args.turn c.args.count (c.args.count - c.loop.counter) _ _ _ _ turns.told (turns.told ++ more) _ _ none turns.so refl in
    all.after

pub returns-clause-events : goal.returns-clause-events
returns-clause-events g c holds =
    let i = c.loop.invariant in
    let layout = layout_of c.args.desk.now in
    let none : c.args.count - c.loop.counter ≡ 0 = omega arith in
    let turns = i.turns holds in
    let more = flat_map (run_text layout c.args.turn.initiator) (with_waiting c.loop.waiting []) in
    let all = turns_made layout c.args.turn c.args.count (c.args.count - c.loop.counter) _ _ _ _ turns.told (turns.told ++ more) _ _ none turns.so refl in
    ap (λ (l : Layout). event_records l (g.D.Disk.content (disk_of c.loop.desk))) (sym i.layout) ∙ all.events
