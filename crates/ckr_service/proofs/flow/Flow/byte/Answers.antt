use Rattle.std.proofs.Common.{◌≡◌, ◌==◌, ℕ, false, [], ◌∷◌, ◌++◌, List, map, Option, refl, sym, ap, subst, ◌∙◌, append_assoc, append-nil, arith}
use Rattle.std.specs.List.{slice_split, All}
use Rattle.std.proofs.lemmas.Grind.{common_steps}
use Rattle.std.proofs.lemmas.List.Elements.{All-push}
use Rattle.std.specs.Str.Lines.{strip_carriage_return}
use Rattle.ckr_base.proofs.Results.{err-holds}
use Rattle.ckr_session.specs.Model.State.{disk_of}
use Rattle.ckr_session.specs.Model.Session.{first_session, handed_within as asked_within}
use Rattle.ckr_service.specs.declared.flow.Flow.{Flow}
use Rattle.ckr_session.specs.declared.session.Session.{Session}
use Rattle.ckr_session.specs.declared.stop.Stop.TheVariants as Stops
use Rattle.ckr_service.specs.Flows.{Breaks, Carries, line_requests}
use Rattle.ckr_session.specs.Service.{Serves, StopsWithin, seen, staffed_of}
use Rattle.ckr_session.specs.Sessions.{standing_of}
use Rattle.ckr_service.specs.Stream.{is_line_end}
use Rattle.ckr_service.proofs.Streams.Texts.{line_served_on, line_broken_at, nothing_broken}
use Rattle.ckr_session.proofs.Calls.Stops.{goes_still, stopped_here, stopped_on}
use Rattle.ckr_service.proofs.flow.Flow.byte.Goals as goal

-- a byte that ends no line waits with those before it
byte_waits : {D O : Type 0} (content : D → List ℕ) (f g : Flow D O) (b : ℕ) (now : Option (List ℕ)) → g.session ≡ f.session → g.partial.items ≡ f.partial.items ++ b ∷ [] → is_line_end b ≡ false → Carries content f g (b ∷ []) now now
byte_waits {D = D} {O = O} content f g b now same grown other first taken start p = record {
  parts = p.parts;
  split = λ rest.
      ap (slice_split is_line_end) (append_assoc taken (b ∷ []) rest)
      ∙ p.split (b ∷ rest)
      ∙ ap (λ l. p.parts ++ slice_split is_line_end l) (sym (append_assoc f.partial.items (b ∷ []) rest) ∙ ap (λ l. l ++ rest) (sym grown));
  waits = subst (All (λ x. is_line_end x ≡ false)) (sym grown) (All-push (λ x. is_line_end x ≡ false) f.partial.items b p.waits other);
  standing = ap standing_of same ∙ p.standing;
  text = p.text;
  serves = subst (λ (s : Session D O). Serves first (seen content s.clerk) (asked_within first_session (map strip_carriage_return p.parts)) [] p.text) (sym same) p.serves;
  written = p.written;
}

pub returns-then-byte-eq10-clause-ok : goal.returns-then-byte-eq10-clause-ok
returns-then-byte-eq10-clause-ok g c holds =
    line_served_on g.D.Disk.content c.end_line.result c.args.self.now c.end_line.new.self _ _ c.args.byte c.if-byte-eq10.true (c.end_line.ensures.ok holds)

pub returns-then-byte-eq10-clause-err : goal.returns-then-byte-eq10-clause-err
returns-then-byte-eq10-clause-err g c holds =
    let d = g.D.Disk in
    let f = c.args.self.now in
    stopped_on d.content d.moment d.left_since d.size c.end_line.result f.session.clerk.desk (disk_of c.end_line.new.self.session.clerk.desk)
    (λ stop. StopsWithin stop (g.K.Sink.faults c.args.sink.now) (g.K.Sink.faults c.end_line.new.sink) (staffed_of d.content f.session.clerk) (line_requests f) (g.K.Sink.written c.args.sink.now) (g.K.Sink.written c.end_line.new.sink))
    (λ stop. Breaks d.content stop (g.K.Sink.faults c.args.sink.now) (g.K.Sink.faults c.end_line.new.sink) f (c.args.byte ∷ []) (g.K.Sink.written c.args.sink.now) (g.K.Sink.written c.end_line.new.sink))
    (line_broken_at d.content (g.K.Sink.faults c.args.sink.now) (g.K.Sink.faults c.end_line.new.sink) f (g.K.Sink.written c.args.sink.now) (g.K.Sink.written c.end_line.new.sink) c.args.byte c.if-byte-eq10.true)
    (c.end_line.ensures.err holds)

pub returns-in_err-push-clause-err : goal.returns-in_err-push-clause-err
returns-in_err-push-clause-err g c holds =
    let d = g.D.Disk in
    let laws = g.met.D.Disk g.world.𝓛 g.world.𝓜 g.world.𝓡 ((λ s x. x), (λ x. x), (λ x. x), λ x. x) in
    let f = c.args.self.now in
    let desk = f.session.clerk.desk in
    err-holds c.from_residual.result Stops.Memory _ c.from_residual.ensures.1
    (stopped_here d.content d.moment d.left_since d.size desk desk (goes_still d.content d.moment d.left_since d.size d.told d.may_leave desk holds (laws.only_now (disk_of desk)) (laws.sized (disk_of desk) (d.moment (disk_of desk)))) []
    (Breaks d.content Stops.Memory (g.K.Sink.faults c.args.sink.now) (g.K.Sink.faults c.args.sink.now) f (c.args.byte ∷ []) (g.K.Sink.written c.args.sink.now) (g.K.Sink.written c.args.sink.now))
    (sym (append-nil _))
    (nothing_broken d.content (g.K.Sink.faults c.args.sink.now) (g.K.Sink.faults c.args.sink.now) f (c.args.byte ∷ []) (g.K.Sink.written c.args.sink.now) (omega arith)))

pub returns-clause-goes : goal.returns-clause-goes
returns-clause-goes g c holds =
    let d = g.D.Disk in
    let laws = g.met.D.Disk g.world.𝓛 g.world.𝓜 g.world.𝓡 ((λ s x. x), (λ x. x), (λ x. x), λ x. x) in
    let desk = c.args.self.now.session.clerk.desk in
    goes_still d.content d.moment d.left_since d.size d.told d.may_leave desk holds (laws.only_now (disk_of desk)) (laws.sized (disk_of desk) (d.moment (disk_of desk)))

pub returns-clause-ok : goal.returns-clause-ok
returns-clause-ok g c holds =
    let other : (c.args.byte == 10) ≡ false = grind (arith, common_steps, c.if-byte-eq10.false) in
    byte_waits g.D.Disk.content c.args.self.now _ c.args.byte (g.K.Sink.written c.args.sink.now) refl c.in_ok-push.ensures.items other
