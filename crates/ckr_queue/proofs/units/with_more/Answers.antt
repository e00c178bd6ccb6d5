use Rattle.std.proofs.Common.{◌≡◌, ◌∙◌, ◌∷◌, ◌+◌, ap, drop, get_or, nat_lt, sym}
use Rattle.std.proofs.lemmas.List.{drop_more}
use Rattle.ckr_queue.specs.Units.{are_below_255, is_volume_list, with_more_uses}
use Rattle.ckr_queue.proofs.Lists.{both, first_of, others_stay}
use Rattle.ckr_queue.proofs.units.with_more.Goals as goal

pub loop-volume-preserved : goal.loop-volume-preserved
loop-volume-preserved c =
    let volumes = c.args.volumes.now in
    let place = c.loop-volume.volume-index in
    let volume = get_or volumes place 0 in
    let rest = drop (place + 1) volumes in
    let parts : drop place volumes ≡ volume ∷ rest = drop_more volumes place 0 c.loop-volume-test.true in
    let first = first_of volume rest (sym (ap is_volume_list parts) ∙ c.loop-volume.invariant.list) in
    let tests = both _ _ (sym (ap (are_below_255 c.loop-volume.uses) parts) ∙ c.loop-volume.invariant.room) in
    record {
      same = sym (ap (λ vs. with_more_uses vs c.loop-volume.uses) parts) ∙ c.loop-volume.invariant.same;
      list = first.list;
      room = others_stay (λ n. nat_lt n 255) c.loop-volume.uses volume _ rest first.above tests.1;
    }
