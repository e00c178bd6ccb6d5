use Rattle.std.proofs.Common.{◌≡◌, ◌∙◌, ℕ, ap, arith, refl, sym, take}
use Rattle.ckr_desk_entries.proofs.EntryReads.{pieces-all, pieces-none, pieces_on}
use Rattle.ckr_desk_entries.proofs.DiskReads.{reads-nothing}
use Rattle.ckr_desk_entries.proofs.continuation.read_entry.Goals as goal

pub loop-place-init : goal.loop-place-init
loop-place-init g c =
    let d = g.D.Disk in
    let laws = g.met.D.Disk g.world.𝓛 g.world.𝓜 g.world.𝓡 ((λ s x. x), (λ x. x), (λ x. x), λ x. x) in
    let store = c.args.store.now in
    record {
      read = λ told. c.new-found.ensures.items ∙ sym (pieces-none (d.content store.disk) store.layout c.args.set.now c.args.kept.now.place);
      sound = c.requires.sound;
      kept = refl;
      only_reads = reads-nothing d.content d.may_leave d.moment d.left_since store.disk (λ image left. laws.only_now store.disk image left);
      size = refl;
      faults = omega arith;
    }

pub returns-clause-read : goal.returns-clause-read
returns-clause-read g c = λ told.
    let store = c.args.store.now in
    let image = g.D.Disk.content store.disk in
    let kept = c.args.kept.now in
    let end : c.loop-place.place ≡ c.records_of-place-end.result = omega (arith, c.loop-place-test.false, c.loop-place.auto.place-end) in
    c.truncate.ensures.items
    ∙ ap (take kept.bytes) (c.loop-place.invariant.read told)
    ∙ ap (λ (n : ℕ). take kept.bytes (pieces_on image store.layout c.args.set.now kept.place n)) (end ∙ c.records_of-place-end.ensures)
    ∙ pieces-all image store.layout c.args.set.now kept.place kept.bytes
