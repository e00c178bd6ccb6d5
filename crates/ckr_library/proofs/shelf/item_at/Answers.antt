use Rattle.std.proofs.Common.{sym, ◌∙◌}
use Rattle.ckr_library.proofs.ItemOrders.{picked-none, picked-some}
use Rattle.ckr_library.proofs.shelf.item_at.Goals as goal

pub returns-in-Some : goal.returns-in-Some
returns-in-Some c = c.held_at.ensures ∙ sym (picked-some c.args.order.now c.args.items.now c.args.place c.in-Some.item c.requires.inside (sym c.in-Some.ensures))

pub returns-in-None : goal.returns-in-None
returns-in-None c = sym (picked-none c.args.order.now c.args.items.now c.args.place c.requires.inside (sym c.in-None.ensures))
