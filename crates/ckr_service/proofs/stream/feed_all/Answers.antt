use Rattle.std.proofs.Common.{◌≡◌, ◌≤◌, ◌+◌, ◌-◌, ◌∙◌, ℕ, List, [], refl, suc, length, take, drop, sym, ap, arith, append-nil}
use Rattle.std.proofs.lemmas.List.{length-take-le}
use Rattle.ckr_base.proofs.Results.{err-holds}
use Rattle.ckr_session.specs.Model.Session.{SessionModel as Standing}
use Rattle.ckr_session.specs.Service.{seen}
use Rattle.ckr_service.specs.Flows.{Carries}
use Rattle.ckr_service.proofs.Streams.Feeds.{begun, fed, fed_all, stopped_within, stopped_by_source, stopped_by_limit, front_take, front_and_last}
use Rattle.ckr_session.proofs.Calls.Stops.{goes_still, goes_then}
use Rattle.ckr_service.proofs.stream.feed_all.Goals as goal
use Rattle.ckr_session.specs.Model.State.{disk_of}

-- so many bytes are taken at most
few_taken : (count taken : ℕ) (buffer : List ℕ) → (taken ≤ length buffer) × (count + taken ≤ 16_777_217) → count + length (take taken buffer) ≤ 16_777_217
few_taken count taken buffer bound = (let whole : length (take taken buffer) ≡ taken = length-take-le taken buffer bound.0 in omega (arith, whole, bound.1))

pub loop-taken-init : goal.loop-taken-init
loop-taken-init g c =
    let b = c.requires.begun in
    let first : c.args.flow.now.session.number + 1 ≡ 1 = ap (λ (s : Standing). s.number) b.standing in
    let nothing : length c.args.flow.now.partial.items ≡ 0 = ap length b.partial in
    let d = g.D.Disk in
    let laws = g.met.D.Disk g.world.𝓛 g.world.𝓜 g.world.𝓡 ((λ s x. x), (λ x. x), (λ x. x), λ x. x) in
    let desk = c.args.flow.now.session.clerk.desk in
    record {
      feeding = begun g.D.Disk.content _ c.args.flow.now _ _ b;
      trusted = λ holds. holds;
      goes = λ holds. goes_still d.content d.moment d.left_since d.size d.told d.may_leave desk holds (laws.only_now (disk_of desk)) (laws.sized (disk_of desk) (d.moment (disk_of desk)));
      is_open = c.requires.is_open;
      few = omega arith;
      lines = omega (arith, first, nothing);
      cards = b.cards;
      source_later = omega arith;
      sink_later = omega arith;
      disk_later = omega arith;
      size = refl;
    }

pub returns-then-taken-eq0-clause-ok : goal.returns-then-taken-eq0-clause-ok
returns-then-taken-eq0-clause-ok g c =
    let i = c.loop-taken.invariant in
    let n = c.in_ok-taken.taken in
    let buffer = c.next_piece.new.buffer in
    fed_all g.D.Disk.content _ (seen g.D.Disk.content c.args.flow.now.session.clerk) c.loop-taken.flow c.loop-taken.count _ _ _ _ _ (take n buffer) i.feeding i.few c.in_ok-taken.ensures.given
    (ap (λ (m : ℕ). take m buffer) c.if-taken-eq0.true) (c.in_ok-taken.ensures.end c.if-taken-eq0.true)

pub returns-in_err-taken-clause-stop : goal.returns-in_err-taken-clause-stop
returns-in_err-taken-clause-stop g c =
    let d = g.D.Disk in
    let i = c.loop-taken.invariant in
    let e = c.in_err-taken.ensures in
    err-holds c.from_residual.result c.in_err-taken.field-0.0 _ c.from_residual.ensures.1
    (stopped_by_source d.content d.moment d.left_since d.size _ c.args.flow.now.session.clerk c.loop-taken.flow c.loop-taken.count _ _ _ _ _ _ _ _ _ _ _ _ _ i.feeding i.few e.kept i.goes i.source_later e.cause.0 e.cause.1)

pub returns-in_err-feed-2-clause-stop : goal.returns-in_err-feed-2-clause-stop
returns-in_err-feed-2-clause-stop g c =
    let d = g.D.Disk in
    let i = c.loop-taken.invariant in
    let e = c.in_err-feed-2.ensures in
    let n = c.in_ok-taken.taken in
    let buffer = c.next_piece.new.buffer in
    err-holds c.from_residual-in_err-feed-2.result c.in_err-feed-2.field-0.0 _ c.from_residual-in_err-feed-2.ensures.1
    (stopped_within d.content d.moment d.left_since d.size _ c.args.flow.now.session.clerk _ c.loop-taken.flow (disk_of c.feed-in-loop-taken.new.self.session.clerk.desk) c.loop-taken.count _ _ _ _ _ _ _ _ [] _ _ _ _ _ _ _ _ _
    i.feeding (few_taken c.loop-taken.count n buffer c.in_ok-taken.ensures.bound) c.in_ok-taken.ensures.given (sym (append-nil _)) i.goes
    (λ holds. e.err (i.trusted holds)) i.sink_later i.disk_later i.trusted e.cause)

pub loop-taken-preserved : goal.loop-taken-preserved
loop-taken-preserved g c =
    let i = c.loop-taken.invariant in
    let n = c.in_ok-taken.taken in
    let buffer = c.next_piece.new.buffer in
    let o = c.in_ok-feed-2.ensures in
    let more = fed g.D.Disk.content _ (seen g.D.Disk.content c.args.flow.now.session.clerk) c.loop-taken.flow _ c.loop-taken.count _ _ _ _ _ _ (take n buffer) i.feeding c.in_ok-taken.ensures.given (λ holds. o.ok (i.trusted holds)) in
    let whole : length (take n buffer) ≡ n = length-take-le n buffer c.in_ok-taken.ensures.bound.0 in
    let d = g.D.Disk in
    record {
      feeding = rw whole at more;
      trusted = λ holds. o.trusted (i.trusted holds);
      goes = λ holds. goes_then d.content d.moment d.left_since d.size c.args.flow.now.session.clerk.desk c.loop-taken.flow.session.clerk.desk c.feed-in-loop-taken.new.self.session.clerk.desk (i.goes holds) (o.goes (i.trusted holds));
      is_open = o.is_open;
      few = omega arith;
      lines = omega (arith, i.lines, o.few, whole);
      cards = o.cards;
      source_later = omega arith;
      sink_later = omega arith;
      disk_later = omega arith;
      size = o.size ∙ i.size;
    }

pub returns-in_err-feed-clause-stop : goal.returns-in_err-feed-clause-stop
returns-in_err-feed-clause-stop g c =
    let d = g.D.Disk in
    let i = c.loop-taken.invariant in
    let e = c.in_err-feed.ensures in
    let m = c.in_ok-taken.taken in
    let buffer = c.next_piece.new.buffer in
    let one_more : m ≡ suc (m - 1) = omega (arith, c.if-taken-eq0.false) in
    err-holds c.from_residual-in_err-feed.result c.in_err-feed.field-0.0 _ c.from_residual-in_err-feed.ensures.1
    (stopped_within d.content d.moment d.left_since d.size _ c.args.flow.now.session.clerk _ c.loop-taken.flow (disk_of c.feed.new.self.session.clerk.desk) c.loop-taken.count _ _ _ _ _ _
    (take m buffer) (take (m - 1) buffer) (drop (m - 1) (take m buffer)) _ _ _ _ _ _ _ _ _ i.feeding (few_taken c.loop-taken.count m buffer c.in_ok-taken.ensures.bound) c.in_ok-taken.ensures.given
    (front_and_last m (m - 1) buffer one_more) i.goes (λ holds. e.err (i.trusted holds)) i.sink_later i.disk_later i.trusted e.cause)

pub returns-then-count-gt-STREAM_LIMIT-clause-stop : goal.returns-then-count-gt-STREAM_LIMIT-clause-stop
returns-then-count-gt-STREAM_LIMIT-clause-stop g c =
    let d = g.D.Disk in
    let i = c.loop-taken.invariant in
    let m = c.in_ok-taken.taken in
    let buffer = c.next_piece.new.buffer in
    let bound = c.in_ok-taken.ensures.bound in
    let one_more : m ≡ suc (m - 1) = omega (arith, c.if-taken-eq0.false) in
    let whole : length (take m buffer) ≡ m = length-take-le m buffer bound.0 in
    stopped_by_limit d.content d.moment d.left_since d.size _ c.args.flow.now.session.clerk c.loop-taken.flow c.feed.new.self c.loop-taken.count (m - 1) _ _ _ _ _ _ (take m buffer) _ i.feeding c.in_ok-taken.ensures.given
    (whole ∙ one_more) (omega (arith, bound.1, c.if-count-gt-STREAM_LIMIT.true, one_more))
    (λ holds. goes_then d.content d.moment d.left_since d.size c.args.flow.now.session.clerk.desk c.loop-taken.flow.session.clerk.desk c.feed.new.self.session.clerk.desk (i.goes holds) (c.in_ok-feed.ensures.goes (i.trusted holds)))
    (λ holds. (let carried : Carries d.content c.loop-taken.flow c.feed.new.self (take (m - 1) (take m buffer)) (g.K.Sink.written c.loop-taken.sink) (g.K.Sink.written c.feed.new.sink) =
    rw (front_take m (m - 1) buffer one_more) (c.in_ok-feed.ensures.ok (i.trusted holds)) in carried))
