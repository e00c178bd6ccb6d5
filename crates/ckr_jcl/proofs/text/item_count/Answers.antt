use Rattle.std.proofs.Common.{◌≡◌, ◌<◌, length, arith}
use Rattle.std.proofs.lemmas.Grind.{common_steps}
use Rattle.ckr_jcl.proofs.ListItems.{first_length, one_counted, more_counted}
use Rattle.ckr_jcl.proofs.text.item_count.Goals as goal

pub returns-then-length-rest : goal.returns-then-length-rest
returns-then-length-rest c =
    let whole : first_length c.loop-rest.rest.now ≡ length c.loop-rest.rest.now = grind (arith, common_steps) in
    grind (arith, common_steps, one_counted c.loop-rest.rest.now whole)

pub loop-rest-preserved : goal.loop-rest-preserved
loop-rest-preserved c =
    let inside : first_length c.loop-rest.rest.now < length c.loop-rest.rest.now = grind (arith, common_steps) in
    record {
      count = grind (arith, common_steps, more_counted c.loop-rest.rest.now inside);
      bound = grind (arith, common_steps);
    }
