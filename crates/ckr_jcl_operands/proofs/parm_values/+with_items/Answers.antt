use Rattle.std.proofs.Common.{◌≡◌, ◌<◌, ◌+◌, ◌∷◌, [], Some, None, length, drop, arith, sym}
use Rattle.std.proofs.lemmas.Grind.{common_steps}
use Rattle.ckr_cards.specs.Field.{parts_of}
use Rattle.ckr_jcl_operands.specs.JobValues.{onto, parm_item, joined}
use Rattle.ckr_jcl.proofs.ListItems.{first_item, first_length}
use Rattle.ckr_jcl_operands.proofs.Joins.{wrong_joined, last_joined, more_joined, comma-fits, comma-full}
use Rattle.ckr_jcl_operands.proofs.parm_values.+with_items.Goals as goal

pub returns-in_err-first : goal.returns-in_err-first
returns-in_err-first t c =
    let wrong : onto c.args.parm.items (parm_item (first_item c.args.list.now)) ≡ None = grind (arith, common_steps) in
    grind (arith, common_steps, wrong_joined c.args.parm.items c.args.list.now wrong)

pub returns-then-length-list : goal.returns-then-length-list
returns-then-length-list t c =
    let fits : onto c.args.parm.items (parm_item (first_item c.args.list.now)) ≡ Some c.in_ok-first.first.items = grind (arith, common_steps) in
    let whole : first_length c.args.list.now ≡ length c.args.list.now = grind (arith, common_steps) in
    rw (last_joined c.args.list.now whole) (sym fits)

pub returns-in-Some : goal.returns-in-Some
returns-in-Some t c =
    let fits : onto c.args.parm.items (parm_item (first_item c.args.list.now)) ≡ Some c.in_ok-first.first.items = grind (arith, common_steps) in
    let inside : first_length c.args.list.now < length c.args.list.now = grind (arith, common_steps) in
    let room : onto c.in_ok-first.first.items (Some (44 ∷ [])) ≡ Some c.in-Some.next.items = grind (arith, common_steps) in
    rw (more_joined c.args.list.now inside)
    (grind (arith, common_steps, comma-fits c.args.parm.items c.in_ok-first.first.items c.in-Some.next.items (parm_item (first_item c.args.list.now)) (joined (parts_of (drop (first_length c.args.list.now + 1) c.args.list.now))) fits room))

pub returns-in-None : goal.returns-in-None
returns-in-None t c =
    let fits : onto c.args.parm.items (parm_item (first_item c.args.list.now)) ≡ Some c.in_ok-first.first.items = grind (arith, common_steps) in
    let inside : first_length c.args.list.now < length c.args.list.now = grind (arith, common_steps) in
    let full : onto c.in_ok-first.first.items (Some (44 ∷ [])) ≡ None = grind (arith, common_steps) in
    rw (more_joined c.args.list.now inside)
    (sym (comma-full c.args.parm.items c.in_ok-first.first.items (parm_item (first_item c.args.list.now)) (joined (parts_of (drop (first_length c.args.list.now + 1) c.args.list.now))) fits full))
