use Rattle.std.proofs.Common.{◌≡◌, ◌∙◌, ℕ, ap, arith, refl, sym, take}
use Rattle.ckr_desk_entries.proofs.EntryReads.{pieces-all, pieces-none, pieces_on}
use Rattle.ckr_desk_entries.proofs.DiskReads.{reads-nothing}
use Rattle.ckr_desk_entries.proofs.entries.read_entry.Goals as goal

pub loop-place-init : goal.loop-place-init
loop-place-init g c =
    let d = g.D.Disk in
    let laws = g.met.D.Disk g.world.𝓛 g.world.𝓜 g.world.𝓡 ((λ s x. x), (λ x. x), (λ x. x), λ x. x) in
    record {
      read = λ told. c.new-found.ensures.items ∙ sym (pieces-none (d.content c.args.disk.now) c.args.layout.now c.args.set.now c.args.kept.now.place);
      only_reads = reads-nothing d.content d.may_leave d.moment d.left_since c.args.disk.now (λ image left. laws.only_now c.args.disk.now image left);
      size = refl;
      faults = omega arith;
    }

pub returns-clause-read : goal.returns-clause-read
returns-clause-read g c = λ told.
    let image = g.D.Disk.content c.args.disk.now in
    let kept = c.args.kept.now in
    let end : c.loop-place.place ≡ c.records_of-place-end.result = omega (arith, c.loop-place-test.false, c.loop-place.auto.place-end) in
    c.truncate.ensures.items
    ∙ ap (take kept.bytes) (c.loop-place.invariant.read told)
    ∙ ap (λ (n : ℕ). take kept.bytes (pieces_on image c.args.layout.now c.args.set.now kept.place n)) (end ∙ c.records_of-place-end.ensures)
    ∙ pieces-all image c.args.layout.now c.args.set.now kept.place kept.bytes
