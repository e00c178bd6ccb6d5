use Rattle.std.proofs.Common.{◌≡◌, ◌++◌, [], ◌∷◌, Bool, true, false, if◌then◌else◌, refl, ap, ◌∙◌}
use Rattle.std.specs.Prelude.{nat_lt, length}
use mir.Val.{bool_byte}
use Rattle.ckr_cards.specs.Card.{filled}
use Rattle.ckr_cards.proofs.Fills.{stored_by_front}
use Rattle.ckr_cards.proofs.card.stored_line.Goals as goal

marked : (long : Bool) → bool_byte long ≡ (if long then 1 else 0)
marked true = refl
marked false = refl

pub returns : goal.returns
returns c =
    stored_by_front c.args.line.now c.put_front.new.stored c.min.result c.from.result c.min.ensures c.put_front.ensures
    ∙ ap (λ mark. filled c.args.line.now ++ mark ∷ []) (c.from.ensures ∙ marked (nat_lt 80 (length c.args.line.now)))
