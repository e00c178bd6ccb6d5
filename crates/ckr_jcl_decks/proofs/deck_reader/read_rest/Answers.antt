use Rattle.std.proofs.Common.{◌≡◌, ◌+◌, ◌∷◌, length, drop, arith, rules, ◌∙◌, ap, sym, refl}
use Rattle.std.specs.Prelude.{fold}
use Rattle.std.proofs.lemmas.Grind.{common_steps}
use Rattle.ckr_cards.specs.Card.{stored_cards}
use Rattle.ckr_cards.specs.Statement.{cards_behind, statements_of}
use Rattle.ckr_jcl_faults.specs.DeckText.{with_statement}
use Rattle.ckr_jcl_faults.specs.Faults.{first_fault}
use Rattle.ckr_jcl_decks.specs.ReaderErrors.{TellsFault}
use Rattle.ckr_jcl_decks.proofs.StatementOrder.{step_read, none_left, fault_of_all, sound_more, job_more, handed_on}
use Rattle.ckr_jcl_decks.proofs.deck_reader.read_rest.Goals as goal

pub returns-in_err-reading-clause-fault : goal.returns-in_err-reading-clause-fault
returns-in_err-reading-clause-fault c =
    let split : c.loop-first.rest.now ≡ c.in-Some.first.now ∷ c.in-Some.more.now = search rules in
    handed_on c.from_residual.result c.in_err-reading.field-0.0 (λ error. TellsFault error (first_fault c.args.begun.seen (statements_of (stored_cards c.args.first_number c.args.cards.now)))) c.from_residual.ensures.1
    (fault_of_all c.in_err-reading.field-0.0 c.args.begun.seen c.loop-first.reading.seen _ _ _ c.in-Ok.statement c.loop-first.invariant.sound
    (step_read c.loop-first.number _ c.loop-first.rest.now c.in-Some.first.now c.in-Some.more.now _ c.in-Ok.statement split c.in-Ok.ensures.value refl refl)
    c.in_err-reading.ensures.fault)

pub loop-first-preserved : goal.loop-first-preserved
loop-first-preserved c =
    let split : c.loop-first.rest.now ≡ c.in-Some.first.now ∷ c.in-Some.more.now = search rules in
    let following : c.loop-first.number + (1 + c.cards_behind-behind.result) ≡ c.loop-first.number + 1 + cards_behind c.in-Ok.statement = omega (arith, c.cards_behind-behind.ensures) in
    let left : c.split_at.result.1.now ≡ drop (cards_behind c.in-Ok.statement) c.in-Some.more.now = c.split_at.ensures.back ∙ ap (λ n. drop n c.in-Some.more.now) c.cards_behind-behind.ensures in
    let parts : statements_of (stored_cards c.loop-first.number c.loop-first.rest.now) ≡ c.in-Ok.statement ∷ statements_of (stored_cards (c.loop-first.number + (1 + c.cards_behind-behind.result)) c.split_at.result.1.now) =
    step_read c.loop-first.number _ c.loop-first.rest.now c.in-Some.first.now c.in-Some.more.now _ c.in-Ok.statement split c.in-Ok.ensures.value following left in
    record {
      numbered = grind (arith, common_steps, ap length split);
      sound = sound_more c.args.begun.seen c.loop-first.reading.seen c.in_ok-reading.reading.seen _ _ _ c.in-Ok.statement c.loop-first.invariant.sound parts c.in_ok-reading.ensures.sound c.in_ok-reading.ensures.seen;
      job = job_more c.args.begun.job c.loop-first.reading.job c.in_ok-reading.reading.job (statements_of (stored_cards c.args.first_number c.args.cards.now)) (statements_of (stored_cards c.loop-first.number c.loop-first.rest.now)) (statements_of (stored_cards (c.loop-first.number + (1 + c.cards_behind-behind.result)) c.split_at.result.1.now)) c.in-Ok.statement c.loop-first.invariant.job parts c.in_ok-reading.ensures.job;
    }

pub returns-clause-sound : goal.returns-clause-sound
returns-clause-sound c =
    c.loop-first.invariant.sound ∙ ap (λ l. first_fault c.loop-first.reading.seen l) (none_left c.loop-first.number c.loop-first.rest.now (grind (arith, common_steps)))

pub returns-clause-job : goal.returns-clause-job
returns-clause-job c =
    sym (c.loop-first.invariant.job ∙ ap (λ l. fold with_statement c.loop-first.reading.job l) (none_left c.loop-first.number c.loop-first.rest.now (grind (arith, common_steps))))
