use Rattle.std.proofs.Common.{refl, sym, ◌∙◌}
use Rattle.ckr_outside.specs.Images.{content_to, image_to, since_to, remembers_to}
use Rattle.ckr_outside.specs.declared.changes.Change.TheVariants.{Nothing}
use Rattle.ckr_outside.proofs.DiskCalls.{only_reads}
use Rattle.ckr_outside.proofs.memory_disk.MemDiskDisk.read.Goals as goal

pub invariant_of-self-then-due : goal.invariant_of-self-then-due
invariant_of-self-then-due c = record {
  replays = c.args.self.now.replays ∙ sym (content_to c.args.self.now.first.items _ _ Nothing c.in-Ok.ensures.changes);
  bounded = c.args.self.now.bounded;
}

pub returns-then-due-clause-only_reads : goal.returns-then-due-clause-only_reads
returns-then-due-clause-only_reads c =
    let first = c.args.self.now.first.items in
    only_reads c.args.self.now _ Nothing c.in-Ok.ensures.changes (since_to first _ _ Nothing c.in-Ok.ensures.changes) refl (image_to first _ _ Nothing c.in-Ok.ensures.changes)

pub returns-then-due-clause-remembers : goal.returns-then-due-clause-remembers
returns-then-due-clause-remembers c = remembers_to c.args.self.now.first.items _ _ Nothing c.in-Ok.ensures.changes

pub invariant_of-self-else-due : goal.invariant_of-self-else-due
invariant_of-self-else-due c = record {
  replays = c.args.self.now.replays ∙ sym (content_to c.args.self.now.first.items _ _ Nothing c.in-Ok.ensures.changes);
  bounded = c.args.self.now.bounded;
}

pub returns-clause-only_reads : goal.returns-clause-only_reads
returns-clause-only_reads c =
    let first = c.args.self.now.first.items in
    only_reads c.args.self.now _ Nothing c.in-Ok.ensures.changes (since_to first _ _ Nothing c.in-Ok.ensures.changes) refl (image_to first _ _ Nothing c.in-Ok.ensures.changes)

pub returns-clause-remembers : goal.returns-clause-remembers
returns-clause-remembers c = remembers_to c.args.self.now.first.items _ _ Nothing c.in-Ok.ensures.changes
