use Rattle.ckr_cards.proofs.Fields.{goes_on-after}
use Rattle.ckr_cards.proofs.columns.goes_on.Goals as goal

pub loop-byte-init : goal.loop-byte-init
loop-byte-init c = goes_on-after c.args.field.now
