use Rattle.std.proofs.Common.{◌≡◌, ◌<◌, true, false, length, arith}
use Rattle.std.proofs.lemmas.Grind.{common_steps}
use Rattle.ckr_jcl.proofs.ListItems.{first_length, first_item}
use Rattle.ckr_jcl_operands.specs.DdValues.{is_backward}
use Rattle.ckr_jcl_operands.specs.DcbValues.{is_model}
use Rattle.ckr_jcl_operands.proofs.DcbParts.{backward_dcb, own_dcb, model_dcb, model_with_parts}
use Rattle.ckr_jcl_operands.proofs.dcb_values.dcb_in.Goals as goal

pub returns-then-is_backward : goal.returns-then-is_backward
returns-then-is_backward c =
    let backward : is_backward (first_item c.args.list.now) ≡ true = grind (arith, common_steps) in
    grind (arith, common_steps, backward_dcb c.args.list.now backward)

pub returns-then-not-is_model : goal.returns-then-not-is_model
returns-then-not-is_model c =
    let backward : is_backward (first_item c.args.list.now) ≡ false = grind (arith, common_steps) in
    let model : is_model (first_item c.args.list.now) ≡ false = grind (arith, common_steps) in
    grind (arith, common_steps, own_dcb c.args.list.now backward model)

pub returns-then-length-list : goal.returns-then-length-list
returns-then-length-list c =
    let backward : is_backward (first_item c.args.list.now) ≡ false = grind (arith, common_steps) in
    let model : is_model (first_item c.args.list.now) ≡ true = grind (arith, common_steps) in
    let whole : first_length c.args.list.now ≡ length c.args.list.now = grind (arith, common_steps) in
    grind (arith, common_steps, model_dcb c.args.list.now backward model whole)

pub returns : goal.returns
returns c =
    let backward : is_backward (first_item c.args.list.now) ≡ false = grind (arith, common_steps) in
    let model : is_model (first_item c.args.list.now) ≡ true = grind (arith, common_steps) in
    let inside : first_length c.args.list.now < length c.args.list.now = grind (arith, common_steps) in
    grind (arith, common_steps, model_with_parts c.args.list.now backward model inside)
