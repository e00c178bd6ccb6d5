use Rattle.std.proofs.Common.{◌≡◌, ◌<◌, true, false, length, arith}
use Rattle.std.proofs.lemmas.Grind.{common_steps}
use Rattle.ckr_jcl.proofs.ListItems.{first_length, first_item}
use Rattle.ckr_base.specs.Grammar.{is_serial}
use Rattle.ckr_jcl_operands.proofs.Serials.{no_serial, last_serial, more_serials}
use Rattle.ckr_jcl_operands.proofs.dd_values.are_serials.Goals as goal

pub returns-then-not-is_serial : goal.returns-then-not-is_serial
returns-then-not-is_serial c =
    let wrong : is_serial (first_item c.loop-rest.rest.now) ≡ false = grind (arith, common_steps) in
    grind (arith, common_steps, no_serial c.loop-rest.rest.now wrong)

pub returns-then-length-rest : goal.returns-then-length-rest
returns-then-length-rest c =
    let right : is_serial (first_item c.loop-rest.rest.now) ≡ true = grind (arith, common_steps) in
    let whole : first_length c.loop-rest.rest.now ≡ length c.loop-rest.rest.now = grind (arith, common_steps) in
    grind (arith, common_steps, last_serial c.loop-rest.rest.now right whole)

pub loop-rest-preserved : goal.loop-rest-preserved
loop-rest-preserved c =
    let right : is_serial (first_item c.loop-rest.rest.now) ≡ true = grind (arith, common_steps) in
    let inside : first_length c.loop-rest.rest.now < length c.loop-rest.rest.now = grind (arith, common_steps) in
    grind (arith, common_steps, more_serials c.loop-rest.rest.now right inside)
