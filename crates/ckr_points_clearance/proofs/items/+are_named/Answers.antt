use Rattle.std.proofs.Common.{◌&&◌, ap, sym, ◌∙◌, nat_eq, map}
use Rattle.std.specs.Cmp.Lexicographic.{pointwise}
use Rattle.ckr_events.specs.declared.event.Made.{Made}
use Rattle.ckr_points.specs.Follows.{made_dds}
use Rattle.ckr_points_clearance.specs.Placements.{placed_list}
use Rattle.ckr_points_clearance.proofs.Lists.{to-the-end}
use Rattle.ckr_points_clearance.proofs.Starts.ItemNames.{named-none, named-next, named-short}
use Rattle.ckr_points_clearance.proofs.items.+are_named.Goals as goal

pub returns-then-parts-items : goal.returns-then-parts-items
returns-then-parts-items t c =
    named-short c.args.placed.now c.one-item.result c.in-len1-up.len_at_least c.one-item.is c.args.items.now c.parts_made-parts.result c.parts_made-parts.ensures c.if-parts-items.true

pub returns-then-are_of : goal.returns-then-are_of
returns-then-are_of t c =
    let placed = c.args.placed.now in
    let items = c.args.items.now in
    let parts = c.parts_made-parts.result in
    sym (ap (λ b. b && c.are_named.result) c.if-are_of.true)
    ∙ named-next placed c.one-item.result c.in-len1-up.len_at_least c.one-item.is items parts c.parts_made-parts.ensures c.if-parts-items.false
    c.number_of.result c.number_of.ensures c.are_of.result c.are_named.result c.are_of.ensures
    (c.are_named.ensures ∙ (λ i. pointwise nat_eq (made_dds (placed_list (to-the-end placed 1 i))) (map (λ (item : Made). item.dd) (to-the-end items parts i))))

pub returns-else-are_of : goal.returns-else-are_of
returns-else-are_of t c =
    c.if-are_of.false
    ∙ named-none c.args.placed.now c.one-item.result c.in-len1-up.len_at_least c.one-item.is c.args.items.now c.parts_made-parts.result c.parts_made-parts.ensures c.if-parts-items.false
    c.number_of.result c.number_of.ensures (sym c.if-are_of.false ∙ c.are_of.ensures)
