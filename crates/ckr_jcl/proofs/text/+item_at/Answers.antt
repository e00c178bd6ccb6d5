use Rattle.std.proofs.Common.{◌≡◌, ◌<◌, ◌-◌, suc, length, arith, sym}
use Rattle.std.proofs.lemmas.Grind.{common_steps}
use Rattle.ckr_jcl.proofs.ListItems.{first_length, item_zero, no_item, later_item}
use Rattle.ckr_jcl.proofs.text.+item_at.Goals as goal

pub returns-then-place-eq0 : goal.returns-then-place-eq0
returns-then-place-eq0 t c = grind (arith, common_steps, item_zero c.args.list.now)

pub returns-then-length-list : goal.returns-then-length-list
returns-then-length-list t c =
    let later : c.args.place ≡ suc (c.args.place - 1) = grind (arith, common_steps) in
    let whole : first_length c.args.list.now ≡ length c.args.list.now = grind (arith, common_steps) in
    rw later (sym (no_item c.args.list.now (c.args.place - 1) whole))

pub returns : goal.returns
returns t c =
    let later : c.args.place ≡ suc (c.args.place - 1) = grind (arith, common_steps) in
    let inside : first_length c.args.list.now < length c.args.list.now = grind (arith, common_steps) in
    grind (arith, common_steps, later_item c.args.list.now (c.args.place - 1) inside)
