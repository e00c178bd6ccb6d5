use Rattle.std.proofs.Common.{◌≡◌, ◌∙◌, ◌∷◌, ◌+◌, ap, drop, get_or, nat_lt, sym}
use Rattle.std.proofs.lemmas.List.{drop_more}
use Rattle.ckr_queue.specs.Units.{are_used, is_volume_list, with_fewer_uses}
use Rattle.ckr_queue.proofs.Lists.{both, first_of, others_stay}
use Rattle.ckr_queue.proofs.units.with_fewer.Goals as goal

pub loop-volume-preserved : goal.loop-volume-preserved
loop-volume-preserved c =
    let volumes = c.args.volumes.now in
    let place = c.loop-volume.volume-index in
    let volume = get_or volumes place 0 in
    let rest = drop (place + 1) volumes in
    let parts : drop place volumes ≡ volume ∷ rest = drop_more volumes place 0 c.loop-volume-test.true in
    let first = first_of volume rest (sym (ap is_volume_list parts) ∙ c.loop-volume.invariant.list) in
    let tests = both _ _ (sym (ap (are_used c.loop-volume.uses) parts) ∙ c.loop-volume.invariant.used) in
    record {
      same = sym (ap (λ vs. with_fewer_uses vs c.loop-volume.uses) parts) ∙ c.loop-volume.invariant.same;
      list = first.list;
      used = others_stay (nat_lt 0) c.loop-volume.uses volume _ rest first.above tests.1;
    }
