use Rattle.std.proofs.Common.{◌≡◌, List, ℕ, length, sym, ◌∙◌, ap, subst, arith}
use Rattle.std.proofs.lemmas.Grind.{common_steps}
use Rattle.ckr_outside.specs.Stop.{left_after, left_image, kept}
use Rattle.ckr_outside.specs.Images.{length-content_after, image_sized}
use Rattle.ckr_outside.specs.MemDisk.{MayLeave, left_of}
use Rattle.ckr_outside.proofs.memory_disk.MemDisk.stop.Goals as goal

pub copy_from_slice-requires : goal.copy_from_slice-requires
copy_from_slice-requires c =
    let disk = c.args.self in
    omega (arith, ap length c.deref.ensures.value, ap length disk.replays, length-content_after disk.first.items disk.changes.items, disk.bytes.ok)

pub returns-clause-image : goal.returns-clause-image
returns-clause-image c =
    let disk = c.args.self in
    let left : c.copy_from_slice-2.new.self.items ≡ left_of c.args.pick disk = grind (arith, common_steps) in
    subst (λ (l : List ℕ). MayLeave disk l) (sym left) (left_image c.args.pick disk.first.items disk.changes.items)

pub returns-clause-size : goal.returns-clause-size
returns-clause-size c =
    let disk = c.args.self in
    let left : c.copy_from_slice-2.new.self.items ≡ left_of c.args.pick disk = grind (arith, common_steps) in
    ap length left ∙ image_sized disk.first.items disk.changes.items (left_of c.args.pick disk) (left_image c.args.pick disk.first.items disk.changes.items)
    ∙ sym (ap length disk.replays ∙ length-content_after disk.first.items disk.changes.items)

pub returns-clause-kept : goal.returns-clause-kept
returns-clause-kept c is =
    let disk = c.args.self in
    let left : c.copy_from_slice-2.new.self.items ≡ left_of c.args.pick disk = grind (arith, common_steps) in
    left ∙ ap (λ pick. left_after pick disk.first.items disk.first.items disk.changes.items) is ∙ kept disk.first.items disk.changes.items ∙ sym disk.replays
