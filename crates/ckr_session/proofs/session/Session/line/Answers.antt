use Rattle.std.proofs.Common.{◌≡◌, ◌≤◌, ◌+◌, ◌*◌, ◌∙◌, ap, refl, sym, subst, List, ℕ, length, OnOk, IfErr, ◌++◌}
use Rattle.ckr_desk.specs.State.{disk_of}
use Rattle.ckr_cards.specs.declared.cutter.Line.{Line}
use Rattle.ckr_cards.specs.Card.{stored_line}
use Rattle.ckr_cards.specs.Session.{handed_before, handed_alone}
use Rattle.ckr_session.specs.Lines.{telling}
use Rattle.ckr_session.specs.Service.{HaltsSo, HaltsTelling, ServesTelling, seen, staffed_of}
use Rattle.ckr_session.specs.Stops.{Stopped}
use Rattle.ckr_session.specs.Sessions.{standing_of, cards_left, cards_with}
use Rattle.ckr_session.proofs.Service.Tellings.{serves_behind_quiet, waiting_with}
use Rattle.ckr_session.proofs.Cards.{few_behind, on_ok}
use Rattle.ckr_session.proofs.Calls.Halts.{halts_before_on, halts_behind_on, halts_quiet_on, memory_behind}
use Rattle.ckr_session.proofs.Calls.Stops.{goes_then_on}
use Rattle.ckr_session.proofs.session.Session.line.Goals as goal

pub returns-clause-serves : goal.returns-clause-serves
returns-clause-serves g c holds =
    let content = g.D.Disk.content in
    let s = standing_of c.args.self.now in
    let old = c.args.self.now.clerk in
    let new = c.serve_line.new.clerk in
    let lines = c.args.lines.now in
    let written = g.K.Sink.written c.args.sink.now in
    let faults = g.K.Sink.faults c.args.sink.now in
    let to = telling c.serve_line.new.lines (g.K.Sink.written c.serve_line.new.sink) (g.K.Sink.faults c.serve_line.new.sink) in
    let both = serves_behind_quiet lines.failed written faults c.serve_line.result (seen content old) (seen content c.end_before.new.clerk) (seen content new) _ _ lines.text c.end_before.new.out to
    (c.in_ok-end_before.ensures.serves holds) (c.serve_line.ensures.serves (c.in_ok-end_before.ensures.trusted holds)) in
    subst (λ (k : Line). OnOk c.serve_line.result (ServesTelling (seen content old) (seen content new) (handed_before k s.cards ++ handed_alone k s.number c.args.text.now) (waiting_with lines.failed written faults lines.text) to))
    c.card-kind.ensures.kind both

pub returns-clause-halt : goal.returns-clause-halt
returns-clause-halt g c holds =
    let d = g.D.Disk in
    let s = standing_of c.args.self.now in
    let old = c.args.self.now.clerk in
    let o = c.in_ok-end_before.ensures in
    let lines = c.args.lines.now in
    let written = g.K.Sink.written c.args.sink.now in
    let faults = g.K.Sink.faults c.args.sink.now in
    let to = telling c.serve_line.new.lines (g.K.Sink.written c.serve_line.new.sink) (g.K.Sink.faults c.serve_line.new.sink) in
    let both = halts_behind_on d.content d.moment d.left_since d.size c.serve_line.result lines.failed written faults old c.end_before.new.clerk (disk_of c.serve_line.new.clerk.desk) _ _ lines.text c.end_before.new.out to
    (o.goes holds) (o.serves holds) (c.serve_line.ensures.halt (o.trusted holds)) in
    subst (λ (k : Line). IfErr c.serve_line.result (λ halt. Stopped d.content d.moment d.left_since d.size old.desk (disk_of c.serve_line.new.clerk.desk)
    (HaltsTelling halt (staffed_of d.content old) (handed_before k s.cards ++ handed_alone k s.number c.args.text.now) (waiting_with lines.failed written faults lines.text) to)))
    c.card-kind.ensures.kind both

pub returns-clause-cards : goal.returns-clause-cards
returns-clause-cards g c =
    let old = c.args.self.now in
    let kind = c.card-kind.result in
    let card : List ℕ = stored_line c.args.text.now in
    let cards : cards_with kind (cards_left kind old.deck) card ≡ c.keep_card.new.deck =
    sym (c.in_ok-keep_card.ensures ∙ ap (λ l. cards_with kind l c.stored_line-card.result) c.in_ok-end_before.ensures.deck
    ∙ ap (λ l. cards_with kind (cards_left kind old.deck) l) c.stored_line-card.ensures) in
    on_ok c.serve_line.result _ (record {
      few = subst (λ (l : List ℕ). length l ≤ 81 * (old.number + 1)) cards (few_behind kind old.deck c.args.text.now old.number c.requires.cards.few);
    })

pub returns-in_err-end_before-clause-halt : goal.returns-in_err-end_before-clause-halt
returns-in_err-end_before-clause-halt g c holds =
    let d = g.D.Disk in
    let s = standing_of c.args.self.now in
    let old = c.args.self.now.clerk in
    let disk = disk_of c.end_before.new.clerk.desk in
    let lines = c.args.lines.now in
    let written = g.K.Sink.written c.args.sink.now in
    let faults = g.K.Sink.faults c.args.sink.now in
    halts_quiet_on d.content d.moment d.left_since d.size c.from_residual.result old disk _ (waiting_with lines.failed written faults lines.text) (waiting_with lines.failed written faults c.end_before.new.out) c.requires.fresh refl
    (subst (λ (k : Line). IfErr c.from_residual.result (λ halt. Stopped d.content d.moment d.left_since d.size old.desk disk
    (HaltsSo halt (staffed_of d.content old) (handed_before k s.cards ++ handed_alone k s.number c.args.text.now) c.args.lines.now.text c.end_before.new.out)))
    c.card-kind.ensures.kind
    (halts_before_on d.content d.moment d.left_since d.size c.from_residual.result c.in_err-end_before.field-0.0 old disk _ _ _ _ c.from_residual.ensures.1 (c.in_err-end_before.ensures.halt holds)))

pub returns-in_err-keep_card-clause-halt : goal.returns-in_err-keep_card-clause-halt
returns-in_err-keep_card-clause-halt g c holds =
    let d = g.D.Disk in
    let s = standing_of c.args.self.now in
    let old = c.args.self.now.clerk in
    let new = c.end_before.new.clerk in
    let o = c.in_ok-end_before.ensures in
    let lines = c.args.lines.now in
    let written = g.K.Sink.written c.args.sink.now in
    let faults = g.K.Sink.faults c.args.sink.now in
    halts_quiet_on d.content d.moment d.left_since d.size c.from_residual-in_err-keep_card.result old (disk_of new.desk) _ (waiting_with lines.failed written faults lines.text) (waiting_with lines.failed written faults c.end_before.new.out) c.requires.fresh refl
    (subst (λ (k : Line). IfErr c.from_residual-in_err-keep_card.result (λ halt. Stopped d.content d.moment d.left_since d.size old.desk (disk_of new.desk)
    (HaltsSo halt (staffed_of d.content old) (handed_before k s.cards ++ handed_alone k s.number c.args.text.now) c.args.lines.now.text c.end_before.new.out)))
    c.card-kind.ensures.kind
    (memory_behind d.content d.moment d.left_since d.size c.from_residual-in_err-keep_card.result old new _ _ _ _ _ _ (o.goes holds) (o.serves holds) c.from_residual-in_err-keep_card.ensures.1))

pub returns-clause-goes : goal.returns-clause-goes
returns-clause-goes g c holds =
    goes_then_on g.D.Disk.content g.D.Disk.moment g.D.Disk.left_since g.D.Disk.size c.serve_line.result c.args.self.now.clerk.desk c.end_before.new.clerk.desk c.serve_line.new.clerk.desk
    (c.in_ok-end_before.ensures.goes holds) (c.serve_line.ensures.goes (c.in_ok-end_before.ensures.trusted holds))
