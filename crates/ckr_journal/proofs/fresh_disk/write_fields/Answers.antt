use Rattle.std.proofs.Common.{◌≡◌, [], ◌∷◌, length, arith}
use Rattle.std.proofs.lemmas.Result.{on_ok_weaker}
use Rattle.ckr_outside.specs.RangeCalls.{within_wider, within_twice}
use Rattle.ckr_journal.proofs.FreshDisks.{written_next}
use Rattle.ckr_journal.proofs.fresh_disk.write_fields.Goals as goal

pub returns-in_err-write_at-clause-changes : goal.returns-in_err-write_at-clause-changes
returns-in_err-write_at-clause-changes g c =
    let d = g.D.Disk in
    within_wider d.told d.content d.may_leave d.moment d.left_since _ _ 1 512 _ _ (omega arith) (omega arith) c.write_at.ensures.changes

pub returns-clause-changes : goal.returns-clause-changes
returns-clause-changes g c =
    let d = g.D.Disk in
    let laws = g.met.D.Disk g.world.𝓛 g.world.𝓜 g.world.𝓡 ((λ s x. x), (λ x. x), (λ x. x), λ x. x) in
    within_twice d.told d.content d.may_leave d.moment d.left_since 1 512 _ _ _ (laws.counts_now c.write_at.new.self)
    (within_wider d.told d.content d.may_leave d.moment d.left_since _ _ 1 512 _ _ (omega arith) (omega arith) c.write_at.ensures.changes)
    (within_wider d.told d.content d.may_leave d.moment d.left_since _ _ 1 512 _ _ (omega arith) (omega arith) c.write_at-2.ensures.changes)

pub returns-clause-written : goal.returns-clause-written
returns-clause-written g c told =
    let d = g.D.Disk in
    let laws = g.met.D.Disk g.world.𝓛 g.world.𝓜 g.world.𝓡 ((λ s x. x), (λ x. x), (λ x. x), λ x. x) in
    let old = d.content c.args.disk.now in
    let as_long : length old ≡ d.size c.args.disk.now = laws.as_long c.args.disk.now told in
    on_ok_weaker _
    (written_next 1 512 c.args.fields.now (0 ∷ []) old (d.content c.write_at.new.self) (d.content c.write_at-2.new.self) (omega arith) (omega (arith, as_long)) (c.in_ok-write_at.ensures.written told))
    (c.write_at-2.ensures.written told)
