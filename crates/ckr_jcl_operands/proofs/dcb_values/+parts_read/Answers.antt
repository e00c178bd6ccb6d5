use Rattle.std.proofs.Common.{◌≡◌, ◌<◌, length, arith, sym, Some, None}
use Rattle.std.proofs.lemmas.Grind.{common_steps}
use Rattle.ckr_jcl.proofs.ListItems.{first_length, first_item}
use Rattle.ckr_jcl_operands.specs.DcbValues.{with_part}
use Rattle.ckr_jcl_operands.proofs.DcbParts.{wrong_part, last_part, next_part}
use Rattle.ckr_jcl_operands.proofs.dcb_values.+parts_read.Goals as goal

pub returns-in_err-next : goal.returns-in_err-next
returns-in_err-next t c =
    let wrong : with_part (first_item c.args.list.now) c.args.dcb ≡ None = grind (arith, common_steps) in
    grind (arith, common_steps, wrong_part c.args.list.now c.args.dcb wrong)

pub returns-then-length-list : goal.returns-then-length-list
returns-then-length-list t c =
    let right : with_part (first_item c.args.list.now) c.args.dcb ≡ Some c.in_ok-next.next = grind (arith, common_steps) in
    let whole : first_length c.args.list.now ≡ length c.args.list.now = grind (arith, common_steps) in
    sym (last_part c.args.list.now c.args.dcb _ right whole)

pub returns : goal.returns
returns t c =
    let right : with_part (first_item c.args.list.now) c.args.dcb ≡ Some c.in_ok-next.next = grind (arith, common_steps) in
    let inside : first_length c.args.list.now < length c.args.list.now = grind (arith, common_steps) in
    grind (arith, common_steps, next_part c.args.list.now c.args.dcb c.in_ok-next.next right inside)
