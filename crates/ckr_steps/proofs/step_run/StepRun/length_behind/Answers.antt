use Rattle.std.proofs.Common.{◌+◌, ap, sym, ◌∙◌}
use Rattle.std.specs.Option.{option_copied}
use Rattle.ckr_steps.specs.Writes.{gained}
use Rattle.ckr_steps.proofs.Lengths.{length-none, length-some}
use Rattle.ckr_steps.proofs.step_run.StepRun.length_behind.Goals as goal

pub returns-in-Some : goal.returns-in-Some
returns-in-Some c =
    let files = c.args.self.now.files in
    let name = c.args.name.now in
    let writes = c.args.ahead.now.writes.items in
    ap (λ n. c.in-Some.set.now.length + n) (c.gained.ensures.count ∙ ap (gained files name) c.as_slice.ensures.value)
    ∙ length-some files name writes c.args.library.now c.in-Some.set.now (sym c.get.ensures ∙ ap option_copied c.in-Some.is)

pub returns-in-None : goal.returns-in-None
returns-in-None c = length-none c.args.self.now.files c.args.name.now c.args.ahead.now.writes.items c.args.library.now (sym c.get.ensures ∙ ap option_copied c.in-None.is)
