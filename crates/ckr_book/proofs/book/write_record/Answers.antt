use Rattle.std.proofs.Common.{◌≡◌, ◌+◌, ◌∷◌, [], ◌++◌, ℕ, List, length, ap, ◌∙◌, subst, arith, length-append}
use Rattle.std.proofs.lemmas.Result.{on_ok_weaker}
use Rattle.std.specs.Int.{w32, to_be_bytes}
use Rattle.ckr_outside.specs.Disk.{Overwrites}
use Rattle.ckr_outside.specs.Ranges.{overwrites_twice}
use Rattle.ckr_outside.specs.RangeCalls.{within_wider, within_twice}
use Rattle.ckr_book.specs.Records.{written_record}
use Rattle.ckr_book.proofs.book.write_record.Goals as goal

pub returns-in_err-write_at-clause-changes : goal.returns-in_err-write_at-clause-changes
returns-in_err-write_at-clause-changes g c =
    let d = g.D.Disk in
    let four : length c.to_be_bytes.result ≡ 4 = ap length c.to_be_bytes.ensures in
    within_wider d.told d.content d.may_leave d.moment d.left_since _ _ (c.args.gate + 1) (length (c.args.front.now ++ c.args.rest.now) + 5) _ _ (omega arith) (omega arith) c.write_at.ensures.changes

pub returns-in_err-write_bytes-clause-changes : goal.returns-in_err-write_bytes-clause-changes
returns-in_err-write_bytes-clause-changes g c =
    let d = g.D.Disk in
    let laws = g.met.D.Disk g.world.𝓛 g.world.𝓜 g.world.𝓡 ((λ s x. x), (λ x. x), (λ x. x), λ x. x) in
    let four : length c.to_be_bytes.result ≡ 4 = ap length c.to_be_bytes.ensures in
    within_twice d.told d.content d.may_leave d.moment d.left_since (c.args.gate + 1) (length (c.args.front.now ++ c.args.rest.now) + 5) _ _ _ (laws.counts_now c.write_at.new.self)
    (within_wider d.told d.content d.may_leave d.moment d.left_since _ _ (c.args.gate + 1) (length (c.args.front.now ++ c.args.rest.now) + 5) _ _ (omega arith) (omega arith) c.write_at.ensures.changes)
    (within_wider d.told d.content d.may_leave d.moment d.left_since _ _ (c.args.gate + 1) (length (c.args.front.now ++ c.args.rest.now) + 5) _ _ (omega arith) (omega arith) c.write_bytes.ensures.changes)

pub returns-clause-changes : goal.returns-clause-changes
returns-clause-changes g c =
    let d = g.D.Disk in
    let laws = g.met.D.Disk g.world.𝓛 g.world.𝓜 g.world.𝓡 ((λ s x. x), (λ x. x), (λ x. x), λ x. x) in
    let four : length c.to_be_bytes.result ≡ 4 = ap length c.to_be_bytes.ensures in
    within_twice d.told d.content d.may_leave d.moment d.left_since (c.args.gate + 1) (length (c.args.front.now ++ c.args.rest.now) + 5) _ _ _ (laws.counts_now c.write_bytes.new.disk)
    (within_twice d.told d.content d.may_leave d.moment d.left_since (c.args.gate + 1) (length (c.args.front.now ++ c.args.rest.now) + 5) _ _ _ (laws.counts_now c.write_at.new.self)
    (within_wider d.told d.content d.may_leave d.moment d.left_since _ _ (c.args.gate + 1) (length (c.args.front.now ++ c.args.rest.now) + 5) _ _ (omega arith) (omega arith) c.write_at.ensures.changes)
    (within_wider d.told d.content d.may_leave d.moment d.left_since _ _ (c.args.gate + 1) (length (c.args.front.now ++ c.args.rest.now) + 5) _ _ (omega arith) (omega arith) c.write_bytes.ensures.changes))
    (within_wider d.told d.content d.may_leave d.moment d.left_since _ _ (c.args.gate + 1) (length (c.args.front.now ++ c.args.rest.now) + 5) _ _ (omega arith) (omega arith) c.write_at-2.ensures.changes)

pub returns-clause-written : goal.returns-clause-written
unfolding written_record
returns-clause-written g c told =
    let d = g.D.Disk in
    let laws = g.met.D.Disk g.world.𝓛 g.world.𝓜 g.world.𝓡 ((λ s x. x), (λ x. x), (λ x. x), λ x. x) in
    let bytes = c.args.front.now ++ c.args.rest.now in
    let size = c.to_be_bytes.result in
    let four : length size ≡ 4 = ap length c.to_be_bytes.ensures in
    let as_long : length (d.content c.args.disk.now) ≡ d.size c.args.disk.now = laws.as_long c.args.disk.now told in
    let first = c.in_ok-write_at.ensures.written told in
    let second : Overwrites (c.args.gate + 1 + length size) bytes (d.content c.write_at.new.self) (d.content c.write_bytes.new.disk) = subst (λ (k : ℕ). Overwrites k bytes (d.content c.write_at.new.self) (d.content c.write_bytes.new.disk)) (omega arith) (c.in_ok-write_bytes.ensures.written told) in
    let both = overwrites_twice (c.args.gate + 1) size bytes (d.content c.args.disk.now) (d.content c.write_at.new.self) (d.content c.write_bytes.new.disk) (omega arith) first second in
    on_ok_weaker _ (λ (written : Overwrites (c.args.gate + 5 + c.length_of-length.result) (0 ∷ []) (d.content c.write_bytes.new.disk) (d.content c.write_at-2.new.self)).
    let third : Overwrites (c.args.gate + 1 + length (size ++ bytes)) (0 ∷ []) (d.content c.write_bytes.new.disk) (d.content c.write_at-2.new.self) = subst (λ (k : ℕ). Overwrites k (0 ∷ []) (d.content c.write_bytes.new.disk) (d.content c.write_at-2.new.self)) (omega (arith, length-append size bytes)) written in
    let all = overwrites_twice (c.args.gate + 1) (size ++ bytes) (0 ∷ []) (d.content c.args.disk.now) (d.content c.write_bytes.new.disk) (d.content c.write_at-2.new.self) (omega (arith, length-append size bytes)) both third in
    subst (λ (l : List ℕ). Overwrites (c.args.gate + 1) (l ++ bytes ++ 0 ∷ []) (d.content c.args.disk.now) (d.content c.write_at-2.new.self)) (c.to_be_bytes.ensures ∙ ap (to_be_bytes w32) c.length_of-length.ensures) all)
    (c.write_at-2.ensures.written told)
