use Rattle.std.proofs.Common.{ap, sym, ◌∙◌, cond, Some, None}
use Rattle.ckr_library.specs.Shelves.{holding_of, picked}
use Rattle.ckr_library.proofs.Shelves.{found_under}
use Rattle.ckr_library.proofs.shelf.find.Goals as goal

pub returns-then-is_same : goal.returns-then-is_same
returns-then-is_same c = ap (λ same. cond same (Some (holding_of c.in-Some.held.now)) None) (sym c.if-is_same.true ∙ c.is_same.ensures) ∙ found_under (picked c.args.order.now c.args.items.now) c.requires.rise c.args.name.now c.place_of.result c.place_of.ensures.place (Some c.in-Some.held.now) c.in-Some.ensures

pub returns-else-is_same : goal.returns-else-is_same
returns-else-is_same c = ap (λ same. cond same (Some (holding_of c.in-Some.held.now)) None) (sym c.if-is_same.false ∙ c.is_same.ensures) ∙ found_under (picked c.args.order.now c.args.items.now) c.requires.rise c.args.name.now c.place_of.result c.place_of.ensures.place (Some c.in-Some.held.now) c.in-Some.ensures

pub returns-in-None : goal.returns-in-None
returns-in-None c = found_under (picked c.args.order.now c.args.items.now) c.requires.rise c.args.name.now c.place_of.result c.place_of.ensures.place None c.in-None.ensures
