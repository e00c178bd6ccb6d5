use Rattle.std.proofs.Common.{Some, ap, sym, ◌∙◌}
use Rattle.ckr_events.specs.declared.event.Event.TheVariants.{Submitted}
use Rattle.ckr_points.specs.Follows.{follows}
use Rattle.ckr_points.specs.Rows.{TablesModel}
use Rattle.ckr_model_tests.proofs.checkpoints.tell_deck.Goals as goal

-- the tables with room for it are those on which it follows
pub apply-requires-clause-follows : goal.apply-requires-clause-follows
apply-requires-clause-follows c = (
  c.args.layout.now,
  ap (λ (desk : TablesModel). follows c.args.layout.now desk (Submitted c.args.job c.push.new.self) (Some c.args.deck)) c.make_room.ensures.desk
      ∙ sym c.follows.ensures ∙ c.if-not-follows.false,
)
