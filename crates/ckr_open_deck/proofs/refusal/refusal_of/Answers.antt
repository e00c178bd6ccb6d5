use Rattle.std.proofs.Common.{◌≡◌, ◌-◌, Some, Err, length, arith, rules, ap, sym, ◌∙◌}
use Rattle.std.proofs.lemmas.Result.{IfOk-weaker}
use Rattle.ckr_jcl_faults.specs.Faults.{least_fault}
use Rattle.ckr_jcl_decks.specs.Deck.{stored_deck}
use Rattle.ckr_jcl_decks.specs.DeckFaults.{deck_faults}
use Rattle.ckr_open_deck.proofs.TooManyCards.{refused-statement, refused-deck}
use Rattle.ckr_open_deck.proofs.refusal.refusal_of.Goals as goal

pub returns-in_ok-job-in-Ok : goal.returns-in_ok-job-in-Ok
returns-in_ok-job-in-Ok c =
    let cards = c.in-Ok.read.number - 1 in
    let count : cards ≡ length c.of-left.result = omega (arith, c.in-Ok.ensures.number) in
    IfOk-weaker c.fault_beyond.result (λ fault. least_fault (deck_faults cards c.in_ok-job-in-Ok.job) ≡ Some fault) (λ fault. stored_deck c.args.deck.now ≡ Err fault)
    (λ fault least. refused-deck c.args.deck.now c.of-left.result cards c.in-Ok.read.job fault c.of-left.ensures.cards count c.in-Ok.ensures.sound c.in-Ok.ensures.text
    (ap (λ job. least_fault (deck_faults cards job)) (sym c.in_ok-job-in-Ok.ensures) ∙ least))
    c.fault_beyond.ensures

pub returns-in-Err-At : goal.returns-in-Err-At
returns-in-Err-At c =
    let told = refused-statement c.args.deck.now c.of-left.result c.in-Err-At.number c.in-Err-At.card c.of-left.ensures.cards (rw c.in-Err-At.field-0-is at c.in-Err-At.ensures.fault) in
    search rules
