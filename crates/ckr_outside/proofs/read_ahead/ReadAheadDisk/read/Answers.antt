use Rattle.std.proofs.Common.{◌≡◌, ℕ, ◌+◌, ◌≤◌, length, List, sym, ◌∙◌, ap, subst, arith}
use Rattle.std.proofs.lemmas.List.{take_at}
use Rattle.std.proofs.lemmas.Grind.{common_steps}
use Rattle.ckr_outside.specs.Block.{IsBlockOn}
use Rattle.ckr_outside.specs.Disk.{part}
use Rattle.ckr_outside.proofs.Blocks.{block_read}
use Rattle.ckr_outside.proofs.read_ahead.ReadAheadDisk.read.Goals as goal

pub invariant_of-self-2 : goal.invariant_of-self-2
invariant_of-self-2 g c =
    let long : length c.read-2.new.buf ≡ c.room-room.result = grind (arith, common_steps) in
    let whole : c.begin.new.self.bytes.len ≡ length c.read-2.new.buf = grind (arith, common_steps) in
    let fits : c.args.at + c.room-room.result ≤ g.D.Disk.size c.read-2.new.self = grind (arith, common_steps) in
    let asked : length c.deref_mut.result.now ≡ c.room-room.result = grind (arith, common_steps) in
    let read : g.D.Disk.told → c.read-2.new.buf ≡ part c.args.at c.room-room.result (g.D.Disk.content c.read-2.new.self) =
    λ is_told. c.in_ok-read.ensures.read is_told ∙ ap (λ (k : ℕ). part c.args.at k (g.D.Disk.content c.self.inside.disk)) asked ∙ ap (λ (l : List ℕ). part c.args.at c.room-room.result l) (sym c.in_ok-read.ensures.only_reads.same) in
    subst (λ bytes. IsBlockOn g.D.Disk.told (g.D.Disk.content c.read-2.new.self) (g.D.Disk.size c.read-2.new.self) c.begin.new.self.base c.begin.new.self.from (c.args.at + c.room-room.result) bytes) (sym (take_at c.read-2.new.buf _ _ (sym whole)))
    (rw c.begin.ensures (block_read _ _ _ _ _ _ long fits read))
