use Rattle.std.proofs.Common.{◌≡◌, ℕ, take, length, ◌∙◌, ap}
use Rattle.std.proofs.lemmas.Result.{on_ok_weaker}
use Rattle.ckr_outside.specs.Disk.{part}
use Rattle.ckr_journal.proofs.FreshDisks.{front_read}
use Rattle.ckr_journal.proofs.layout.read_front.Goals as goal

pub returns-clause-read : goal.returns-clause-read
returns-clause-read g c told =
    let laws = g.met.D.Disk g.world.𝓛 g.world.𝓜 g.world.𝓡 ((λ s x. x), (λ x. x), (λ x. x), λ x. x) in
    let content = g.D.Disk.content c.args.disk.now in
    on_ok_weaker _ (λ (read : c.read.new.buf ≡ part 0 (length c.args.buf.now) content).
    read ∙ ap (λ (k : ℕ). take k content) c.requires ∙ front_read 512 (g.D.Disk.size c.args.disk.now) content (laws.as_long c.args.disk.now told))
    (c.read.ensures.read told)
