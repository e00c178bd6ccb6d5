use Rattle.std.proofs.Common.{ap, ◌∙◌, sum_by}
use Rattle.ckr_events.specs.declared.event.Piece.{Piece}
use Rattle.ckr_points_clearance.proofs.Starts.ItemNames.{whole-by}
use Rattle.ckr_points_clearance.proofs.items.is_whole.Goals as goal

pub returns : goal.returns
returns c =
    c.is_any_of.ensures
    ∙ whole-by c.args.placed.now c.args.item.now c.records_in.result (c.records_in.ensures ∙ ap (sum_by (λ (piece : Piece). piece.records)) c.as_slice.ensures.value)
