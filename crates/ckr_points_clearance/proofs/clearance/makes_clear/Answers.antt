use Rattle.std.proofs.Common.{◌&&◌, Option, sym, ◌∙◌}
use Rattle.std.specs.Option.{option_map}
use Rattle.ckr_points.specs.Follows.{stands_in}
use Rattle.ckr_points_clearance.specs.Placements.{is_apart_from, placed_now, set_made}
use Rattle.ckr_points_clearance.specs.declared.placements.PlacedNow.{PlacedNow}
use Rattle.ckr_points_clearance.proofs.Lists.{all-filter_mapped}
use Rattle.ckr_points_clearance.proofs.Starts.Stretches.{clear-by}
use Rattle.ckr_points_clearance.proofs.clearance.makes_clear.Goals as goal

pub returns-in-Some : goal.returns-in-Some
returns-in-Some c =
    let sets = c.args.tables.now.desk.sets in
    let one = placed_now c.args.one.now in
    let items = c.args.items.now in
    let clear = clear-by sets one items c.as_slice.result.now (c.as_slice.ensures.value ∙ c.in-Some.ensures) in
    let apart = sym (all-filter_mapped (λ (other : Option PlacedNow). option_map placed_now other) (is_apart_from items one) c.args.before.now) in
    c.lie_clear.ensures
    ∙ (λ i. stands_in c.args.layout.now (set_made items one) && clear i && apart i)
