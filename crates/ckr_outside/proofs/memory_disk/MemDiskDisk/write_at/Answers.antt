use Rattle.std.proofs.Common.{◌≡◌, ℕ, List, length, sym, ◌∙◌, subst, ap, arith}
use Rattle.std.proofs.lemmas.List.{with_items_is}
use Rattle.std.specs.Vec.{with_items}
use Rattle.ckr_outside.specs.Disk.{SameOutside}
use Rattle.ckr_outside.specs.Changes.{overwritten, content_step}
use Rattle.ckr_outside.specs.Images.{content_to, image_to, since_to, remembers_to, overwritten_outside}
use Rattle.ckr_outside.specs.Ranges.{same_outside_itself}
use Rattle.ckr_outside.specs.declared.changes.Change.TheVariants.{Spoiled, Wrote}
use Rattle.ckr_outside.proofs.DiskCalls.{changes_within}
use Rattle.ckr_outside.proofs.memory_disk.MemDiskDisk.write_at.Goals as goal

pub invariant_of-self-then-call_is_due : goal.invariant_of-self-then-call_is_due
invariant_of-self-then-call_is_due c = record {
  replays = c.args.self.now.replays ∙ sym (content_to c.args.self.now.first.items _ _ (Spoiled _ _) c.in-Ok.ensures.changes);
  bounded = c.args.self.now.bounded;
}

pub returns-then-call_is_due-clause-changes : goal.returns-then-call_is_due-clause-changes
returns-then-call_is_due-clause-changes c =
    let disk = c.args.self.now in
    changes_within disk _ (Spoiled _ _) c.in-Ok.ensures.changes (since_to disk.first.items _ _ (Spoiled _ _) c.in-Ok.ensures.changes)
    c.args.at (length c.args.bytes.now) (same_outside_itself c.args.at (length c.args.bytes.now) disk.bytes.items)
    (image_to disk.first.items _ _ (Spoiled _ _) c.in-Ok.ensures.changes)

pub returns-then-call_is_due-clause-remembers : goal.returns-then-call_is_due-clause-remembers
returns-then-call_is_due-clause-remembers c = remembers_to c.args.self.now.first.items _ _ (Spoiled _ _) c.in-Ok.ensures.changes

pub invariant_of-self-2 : goal.invariant_of-self-2
invariant_of-self-2 c =
    let disk = c.args.self.now in
    let written : c.put.new.content ≡ overwritten c.args.at c.args.bytes.now disk.bytes.items =
    c.put.ensures ∙ ap (λ (l : List ℕ). overwritten c.args.at c.args.bytes.now l) c.deref_mut.ensures.value in
    let as_long : length c.put.new.content ≡ length disk.bytes.items = ap length written ∙ (overwritten_outside c.args.at c.args.bytes.now disk.bytes.items).as_long in
    let back : (with_items disk.bytes c.put.new.content).items ≡ c.put.new.content = with_items_is disk.bytes c.put.new.content (omega (arith, as_long, disk.bytes.ok)) in
    let kept : content_step disk.bytes.items (Wrote c.args.at c.in-Ok-copy_of.kept) ≡ overwritten c.args.at c.args.bytes.now disk.bytes.items =
    ap (λ (l : List ℕ). overwritten c.args.at l disk.bytes.items) c.in-Ok-copy_of.ensures in
    let pushed = content_to disk.first.items _ _ (Wrote c.args.at c.in-Ok-copy_of.kept) c.in-Ok-keep.ensures.changes in
    record {
      replays = back ∙ written ∙ sym kept ∙ ap (λ (l : List ℕ). content_step l (Wrote c.args.at c.in-Ok-copy_of.kept)) disk.replays ∙ sym pushed;
      bounded = omega (arith, ap length back, as_long, disk.bounded);
    }

pub returns-clause-changes : goal.returns-clause-changes
returns-clause-changes c =
    let disk = c.args.self.now in
    let change = Wrote c.args.at c.in-Ok-copy_of.kept in
    let long : length c.in-Ok-copy_of.kept.items ≡ length c.args.bytes.now = ap length c.in-Ok-copy_of.ensures in
    let written : c.put.new.content ≡ overwritten c.args.at c.args.bytes.now disk.bytes.items =
    c.put.ensures ∙ ap (λ (l : List ℕ). overwritten c.args.at c.args.bytes.now l) c.deref_mut.ensures.value in
    let outside = overwritten_outside c.args.at c.args.bytes.now disk.bytes.items in
    let back : (with_items disk.bytes c.put.new.content).items ≡ c.put.new.content = with_items_is disk.bytes c.put.new.content (omega (arith, ap length written, outside.as_long, disk.bytes.ok)) in
    changes_within disk _ change c.in-Ok-keep.ensures.changes (since_to disk.first.items _ _ change c.in-Ok-keep.ensures.changes)
    c.args.at (length c.args.bytes.now) (subst (λ (l : List ℕ). SameOutside c.args.at (length c.args.bytes.now) disk.bytes.items l) (sym (back ∙ written)) outside)
    (λ image now. let stems = image_to disk.first.items _ _ change c.in-Ok-keep.ensures.changes image now in
    (stems.0, stems.1, subst (λ (n : ℕ). SameOutside c.args.at n stems.0 image) long stems.2))

pub returns-clause-remembers : goal.returns-clause-remembers
returns-clause-remembers c = remembers_to c.args.self.now.first.items _ _ (Wrote c.args.at c.in-Ok-copy_of.kept) c.in-Ok-keep.ensures.changes
