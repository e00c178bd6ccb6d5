use Rattle.std.proofs.Common.{arith, ◌≡◌, ◌≤◌, ap, sym, ◌∙◌, false, length, nat_lt}
use Rattle.std.proofs.lemmas.Bool.Decides.{nat_tests}
use Rattle.std.specs.Option.{is_some}
use Rattle.ckr_points.proofs.SyschkSets.{volume-beyond}
use Rattle.ckr_points.proofs.syschk.is_on_volume.Goals as goal

pub returns-in-None : goal.returns-in-None
returns-in-None c =
    let volumes = c.args.layout.now.volumes.items in
    let outside : nat_lt c.args.part.now.volume (length volumes) ≡ false =
    ap (λ place. nat_lt place (length volumes)) (sym c.from.ensures)
    ∙ ap (λ all. nat_lt c.from.result (length all)) (sym c.as_slice.ensures.value)
    ∙ sym c.get.ensures.lookup.0 ∙ ap is_some c.in-None.is in
    let beyond : length volumes ≤ c.args.part.now.volume = grind (arith, nat_tests) in
    sym (volume-beyond c.args.layout.now c.args.serial.now c.args.part.now.volume c.text.ensures.grammar beyond)
