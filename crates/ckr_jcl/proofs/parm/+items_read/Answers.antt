use Rattle.std.proofs.Common.{◌≡◌, ◌+◌, ◌<◌, ◌∙◌, length, arith, Some, None, sym}
use Rattle.std.proofs.lemmas.Grind.{common_steps}
use Rattle.ckr_jcl.specs.ParmGrammar.{with_item, items_read}
use Rattle.ckr_jcl.specs.Text.{before, behind}
use Rattle.ckr_cards.specs.Field.{is_comma}
use Rattle.ckr_cards.specs.Tables.{pieces_between}
use Rattle.ckr_jcl.proofs.Items.{wrong_item, last_item, next_item}
use Rattle.ckr_jcl.proofs.parm.+items_read.Goals as goal

pub returns-in_default : goal.returns-in_default
returns-in_default t c =
    let wrong : with_item c.args.kind (before 44 c.args.text.now) c.args.parm ≡ None = grind (arith, common_steps) in
    sym (wrong_item c.args.kind c.args.place c.args.text.now c.args.parm wrong)

pub returns-then-length-text : goal.returns-then-length-text
returns-then-length-text t c =
    let right : with_item c.args.kind (before 44 c.args.text.now) c.args.parm ≡ Some c.in-Some.next = grind (arith, common_steps) in
    let whole : length (before 44 c.args.text.now) ≡ length c.args.text.now = grind (arith, common_steps) in
    sym (last_item c.args.kind c.args.place c.args.text.now c.args.parm _ right whole)

pub returns : goal.returns
returns t c =
    let right : with_item c.args.kind (before 44 c.args.text.now) c.args.parm ≡ Some c.in-Some.next = grind (arith, common_steps) in
    let inside : length (before 44 c.args.text.now) < length c.args.text.now = grind (arith, common_steps) in
    let said : c.items_read.result ≡ items_read c.args.kind (c.args.place + length (before 44 c.args.text.now) + 1) (pieces_between is_comma (behind 44 c.args.text.now)) c.in-Some.next = grind (arith, common_steps) in
    said ∙ sym (next_item c.args.kind c.args.place c.args.text.now c.args.parm _ right inside)
