use Rattle.std.proofs.Common.{◌+◌, ◌++◌, length, arith, length-append}
use Rattle.std.proofs.lemmas.Result.{on_ok_weaker}
use Rattle.ckr_outside.specs.Disk.{Overwrites}
use Rattle.ckr_outside.specs.Ranges.{overwrites_twice}
use Rattle.ckr_outside.specs.RangeCalls.{within_wider, within_twice}
use Rattle.ckr_book.proofs.book.write_bytes.Goals as goal

pub returns-in_err-write_at-clause-changes : goal.returns-in_err-write_at-clause-changes
returns-in_err-write_at-clause-changes g c =
    let d = g.D.Disk in
    within_wider d.told d.content d.may_leave d.moment d.left_since _ _ c.args.at (length (c.args.front.now ++ c.args.rest.now)) _ _ (omega arith)
    (omega (arith, length-append c.args.front.now c.args.rest.now)) c.write_at.ensures.changes

pub returns-clause-changes : goal.returns-clause-changes
returns-clause-changes g c =
    let d = g.D.Disk in
    let laws = g.met.D.Disk g.world.𝓛 g.world.𝓜 g.world.𝓡 ((λ s x. x), (λ x. x), (λ x. x), λ x. x) in
    let long = length-append c.args.front.now c.args.rest.now in
    within_twice d.told d.content d.may_leave d.moment d.left_since c.args.at (length (c.args.front.now ++ c.args.rest.now)) _ _ _ (laws.counts_now c.write_at.new.self)
    (within_wider d.told d.content d.may_leave d.moment d.left_since _ _ c.args.at (length (c.args.front.now ++ c.args.rest.now)) _ _ (omega arith) (omega (arith, long)) c.write_at.ensures.changes)
    (within_wider d.told d.content d.may_leave d.moment d.left_since _ _ c.args.at (length (c.args.front.now ++ c.args.rest.now)) _ _ (omega arith) (omega (arith, long)) c.write_at-2.ensures.changes)

pub returns-clause-written : goal.returns-clause-written
returns-clause-written g c told =
    let d = g.D.Disk in
    let laws = g.met.D.Disk g.world.𝓛 g.world.𝓜 g.world.𝓡 ((λ s x. x), (λ x. x), (λ x. x), λ x. x) in
    let front = c.args.front.now in
    let rest = c.args.rest.now in
    let old = d.content c.args.disk.now in
    let mid = d.content c.write_at.new.self in
    let new = d.content c.write_at-2.new.self in
    on_ok_weaker _ (λ (written : Overwrites (c.args.at + length front) rest mid new).
    overwrites_twice c.args.at front rest old mid new (omega (arith, length-append front rest, laws.as_long c.args.disk.now told)) (c.in_ok-write_at.ensures.written told) written)
    (c.write_at-2.ensures.written told)
