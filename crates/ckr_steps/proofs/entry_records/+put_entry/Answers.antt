use Rattle.std.proofs.Common.{◌≡◌, ◌≢◌, ◌≤◌, ◌<◌, ◌+◌, ◌-◌, ℕ, suc, List, length, take, drop, ap, sym, ◌∙◌, subst, inl, arith}
use Rattle.std.proofs.lemmas.List.{drop_min, take_min}
use Rattle.std.proofs.lemmas.Result.{on_ok_weaker}
use Rattle.ckr_base.proofs.Numbers.{equal-false}
use Rattle.ckr_library.specs.Catalog.{records_of}
use Rattle.ckr_volumes.specs.Lists.{set_at_end}
use Rattle.ckr_steps.specs.EntryRecords.{HasEntry, zero_filled}
use Rattle.ckr_steps.proofs.EntryRecords.{changes-more, changes-one, filled-front, has-more, records-more, written-there}
use Rattle.ckr_steps.proofs.entry_records.+put_entry.Goals as goal

pub returns-in_err-write_record-clause-changes : goal.returns-in_err-write_record-clause-changes
returns-in_err-write_record-clause-changes g t c =
    let d = g.D.Disk in
    let none : length c.args.entry.now ≢ 0 = equal-false (length c.args.entry.now) 0 (sym c.if-is_empty.ensures) in
    let some : 1 ≤ length c.args.entry.now = omega arith in
    let more = records-more (length c.args.entry.now) some in
    let less : c.args.place < c.args.set.now.space = omega (arith, c.requires.space, more) in
    let one : 1 ≤ records_of (length c.args.entry.now) = omega (arith, more) in
    changes-one c.args.layout.now c.requires.layout c.args.set.now c.requires.stands c.args.place less d.told d.content d.may_leave d.moment d.left_since
    (records_of (length c.args.entry.now)) one c.args.disk.now c.write_record.new.disk c.write_record.ensures.changes

pub returns-clause-written : goal.returns-clause-written
returns-clause-written g t c told =
    let d = g.D.Disk in
    let entry : List ℕ = c.args.entry.now in
    let old : List ℕ = d.content c.args.disk.now in
    let mid : List ℕ = d.content c.write_record.new.disk in
    let new : List ℕ = d.content c.put_entry.new.disk in
    let layout = c.args.layout.now in
    let set = c.args.set.now in
    let none : length c.args.entry.now ≢ 0 = equal-false (length c.args.entry.now) 0 (sym c.if-is_empty.ensures) in
    let some : 1 ≤ length entry = omega arith in
    let more = records-more (length entry) some in
    let less : c.args.place < set.space = omega (arith, c.requires.space, more) in
    let far : c.args.place + 1 ≤ set.space = omega (arith, less) in
    let before : c.args.place < c.args.place + 1 = omega arith in
    let image : c.filled.result ≡ zero_filled entry =
    c.filled.ensures.value ∙ ap zero_filled (c.split_at.ensures.front ∙ ap (λ (n : ℕ). take n entry) c.min.ensures ∙ take_min 256 entry) ∙ filled-front entry in
    let rest = c.split_at.ensures.back ∙ ap (λ (n : ℕ). drop n entry) c.min.ensures ∙ drop_min 256 entry in
    on_ok_weaker c.put_entry.result
    (λ has.
    has-more new layout set c.args.place entry some
    ((c.put_entry.ensures.changes.reads told).records c.args.place less (inl before)
    ∙ written-there old mid layout set c.args.place c.filled.result (c.in_ok-write_record.ensures.written told (c.args.place + 1) far ∙ set_at_end old layout set c.args.place c.filled.result)
    ∙ image)
    (subst (HasEntry new layout set (c.args.place + 1)) rest has))
    (c.put_entry.ensures.written told)

pub returns-clause-changes : goal.returns-clause-changes
returns-clause-changes g t c =
    let d = g.D.Disk in
    let laws = g.met.D.Disk g.world.𝓛 g.world.𝓜 g.world.𝓡 ((λ s x. x), (λ x. x), (λ x. x), λ x. x) in
    let entry : List ℕ = c.args.entry.now in
    let none : length c.args.entry.now ≢ 0 = equal-false (length c.args.entry.now) 0 (sym c.if-is_empty.ensures) in
    let some : 1 ≤ length entry = omega arith in
    let more = records-more (length entry) some in
    let less : c.args.place < c.args.set.now.space = omega (arith, c.requires.space, more) in
    let one : 1 ≤ records_of (length entry) = omega (arith, more) in
    let left : length c.split_at.result.1.now ≡ length entry - 256 = omega (arith, c.split_at.ensures.back_len, c.min.ensures) in
    let count : records_of (length entry) ≡ suc (records_of (length c.split_at.result.1.now)) = more ∙ ap (λ (n : ℕ). suc (records_of n)) (sym left) in
    changes-more d.told d.content d.may_leave d.moment d.left_since c.args.layout.now c.args.set.now c.args.place (records_of (length c.split_at.result.1.now)) (records_of (length entry))
    c.args.disk.now c.write_record.new.disk c.put_entry.new.disk count (laws.counts_now c.write_record.new.disk)
    (changes-one c.args.layout.now c.requires.layout c.args.set.now c.requires.stands c.args.place less d.told d.content d.may_leave d.moment d.left_since
    (records_of (length entry)) one c.args.disk.now c.write_record.new.disk c.write_record.ensures.changes)
    c.put_entry.ensures.changes
