use Rattle.std.proofs.Common.{ℕ, List, Option, ap, ◌∙◌}
use Rattle.ckr_base.specs.declared.programs.Heads.{Heads}
use Rattle.ckr_meaning.specs.States.{first_of}
use Rattle.ckr_steps.specs.Inputs.{head_of, heads_of}
use Rattle.ckr_steps.proofs.heads.heads_of.Goals as goal

abbrev heads : Option (List ℕ) → Option (List ℕ) → Heads
heads first second = record { first = first; second = second }

pub returns-clause-read : goal.returns-clause-read
unfolding heads_of
returns-clause-read g c told =
    let content = g.D.Disk.content in
    let layout = c.args.layout.now in
    let catalog = c.args.library.now in
    let files = c.args.files.now in
    ap (λ first. heads first c.in_ok-second.second) (c.in_ok-first.ensures.read told ∙ ap (head_of (content c.args.disk.now) layout catalog files.first) c.first_of.ensures)
    ∙ ap (heads (head_of (content c.args.disk.now) layout catalog files.first (first_of c.args.state.now)))
    (c.in_ok-second.ensures.read told
    ∙ ap (λ image. head_of image layout catalog files.second c.second_of.result) c.head_of.ensures.only_reads.same
    ∙ ap (head_of (content c.args.disk.now) layout catalog files.second) c.second_of.ensures)
