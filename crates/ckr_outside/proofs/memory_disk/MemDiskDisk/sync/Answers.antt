use Rattle.std.proofs.Common.{refl, sym, ◌∙◌, subst}
use Rattle.ckr_outside.specs.Changes.{IsImage}
use Rattle.ckr_outside.specs.Images.{content_to, image_to, image_read, since_to, remembers_to}
use Rattle.ckr_outside.specs.declared.changes.Change.TheVariants.{Nothing, Synced}
use Rattle.ckr_outside.proofs.DiskCalls.{only_reads}
use Rattle.ckr_outside.proofs.memory_disk.MemDiskDisk.sync.Goals as goal

pub invariant_of-self-then-call_is_due : goal.invariant_of-self-then-call_is_due
invariant_of-self-then-call_is_due c = record {
  replays = c.args.self.now.replays ∙ sym (content_to c.args.self.now.first.items _ _ Nothing c.in-Ok.ensures.changes);
  bounded = c.args.self.now.bounded;
}

pub returns-then-call_is_due-clause-only_reads : goal.returns-then-call_is_due-clause-only_reads
returns-then-call_is_due-clause-only_reads c =
    let first = c.args.self.now.first.items in
    only_reads c.args.self.now _ Nothing c.in-Ok.ensures.changes (since_to first _ _ Nothing c.in-Ok.ensures.changes) refl (image_to first _ _ Nothing c.in-Ok.ensures.changes)

pub returns-then-call_is_due-clause-remembers : goal.returns-then-call_is_due-clause-remembers
returns-then-call_is_due-clause-remembers c = remembers_to c.args.self.now.first.items _ _ Nothing c.in-Ok.ensures.changes

pub invariant_of-self-in-Ok-keep : goal.invariant_of-self-in-Ok-keep
invariant_of-self-in-Ok-keep c = record {
  replays = c.args.self.now.replays ∙ sym (content_to c.args.self.now.first.items _ _ Synced c.in-Ok-keep.ensures.changes);
  bounded = c.args.self.now.bounded;
}

-- the one image is what is there
pub returns-clause-durable : goal.returns-clause-durable
returns-clause-durable c image now =
    image_to c.args.self.now.first.items _ _ Synced c.in-Ok-keep.ensures.changes image now ∙ sym c.args.self.now.replays

pub returns-clause-only_reads : goal.returns-clause-only_reads
returns-clause-only_reads c =
    let disk = c.args.self.now in
    only_reads disk _ Synced c.in-Ok-keep.ensures.changes (since_to disk.first.items _ _ Synced c.in-Ok-keep.ensures.changes) refl
    (λ image now. subst (IsImage disk.first.items disk.changes.items) (sym (image_to disk.first.items _ _ Synced c.in-Ok-keep.ensures.changes image now))
    (image_read disk.first.items disk.changes.items))

pub returns-clause-remembers : goal.returns-clause-remembers
returns-clause-remembers c = remembers_to c.args.self.now.first.items _ _ Synced c.in-Ok-keep.ensures.changes
