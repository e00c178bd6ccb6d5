use Rattle.std.proofs.Common.{◌<◌, ◌≤◌, length, IsSome, sym, subst, arith}
use Rattle.ckr_steps.proofs.Lists.{some_within}
use Rattle.ckr_steps.specs.Inputs.{IsSourceThere}
use Rattle.ckr_steps.proofs.heads.head_of.Goals as goal

pub head_of_set-requires-clause-stands : goal.head_of_set-requires-clause-stands
head_of_set-requires-clause-stands g c κs within = c.requires.stored.stands c.in-InSet.name c.in-Some.set.now (sym c.in-Some.ensures)

pub returns-in-InDeck-clause-few : goal.returns-in-InDeck-clause-few
returns-in-InDeck-clause-few g c some =
    let few : length c.in-InDeck.cards ≤ 1000000 = subst (λ source. IsSourceThere c.args.library.now source) c.in-InDeck.is c.requires.there in
    let within : c.args.taken < length c.in-InDeck.cards = some_within c.in-InDeck.cards c.args.taken (subst IsSome c.card_at.ensures some) in
    omega arith
