use Rattle.std.proofs.Common.{◌≡◌, ◌∷◌, drop, map, arith, rules, ◌∙◌, ap, refl, sym}
use Rattle.std.specs.Prelude.{fold}
use Rattle.std.proofs.lemmas.Grind.{common_steps}
use Rattle.ckr_cards.specs.Card.{stored_cards}
use Rattle.ckr_cards.specs.Statement.{statements_of}
use Rattle.ckr_jcl_faults.specs.DeckText.{with_statement}
use Rattle.ckr_jcl_faults.specs.Faults.{first_fault}
use Rattle.ckr_jcl_decks.specs.ReaderErrors.{TellsFault}
use Rattle.ckr_jcl_decks.proofs.StatementOrder.{none_left, fault_of_all, sound_more, handed_on}
use Rattle.ckr_open_deck.specs.StatementHeads.{statement_left, without_records}
use Rattle.ckr_open_deck.proofs.HeadDecks.{next-statement, last-number, job-next}
use Rattle.ckr_open_deck.proofs.refusal.read_rest.Goals as goal

pub returns-in_err-read-clause-fault : goal.returns-in_err-read-clause-fault
returns-in_err-read-clause-fault c =
    let split : c.loop-first.left ≡ c.in-Some.first ∷ drop 1 c.loop-first.left = search rules in
    handed_on c.from_residual.result c.in_err-read.field-0.0 (λ error. TellsFault error (first_fault c.args.before.seen (statements_of (stored_cards c.args.before.number c.args.left.now)))) c.from_residual.ensures.1
    (fault_of_all c.in_err-read.field-0.0 c.args.before.seen c.loop-first.read.seen _ _ _ (statement_left c.loop-first.read.number c.in-Some.first c.skip.new.self) c.loop-first.invariant.sound
    (next-statement c.loop-first.read.number _ c.loop-first.left c.skip.new.self _ c.in-Some.first split c.skip.ensures refl refl)
    c.in_err-read.ensures.fault)

pub loop-first-preserved : goal.loop-first-preserved
loop-first-preserved c =
    let split : c.loop-first.left ≡ c.in-Some.first ∷ drop 1 c.loop-first.left = search rules in
    let s = statement_left c.loop-first.read.number c.in-Some.first c.skip.new.self in
    let parts : statements_of (stored_cards c.loop-first.read.number c.loop-first.left) ≡ s ∷ statements_of (stored_cards c.in_ok-read.read.number c.read_next.new.left) =
    next-statement c.loop-first.read.number c.in_ok-read.read.number c.loop-first.left c.skip.new.self c.read_next.new.left c.in-Some.first split c.skip.ensures c.in_ok-read.ensures.number c.in_ok-read.ensures.left in
    record {
      numbered = last-number c.loop-first.read.number c.in_ok-read.read.number c.loop-first.left c.skip.new.self c.read_next.new.left c.in-Some.first split c.skip.ensures c.in_ok-read.ensures.number c.in_ok-read.ensures.left ∙ c.loop-first.invariant.numbered;
      sound = sound_more c.args.before.seen c.loop-first.read.seen c.in_ok-read.read.seen _ _ _ s c.loop-first.invariant.sound parts c.in_ok-read.ensures.sound c.in_ok-read.ensures.seen;
      job = job-next c.args.before.job c.loop-first.read.job c.in_ok-read.read.job (statements_of (stored_cards c.args.before.number c.args.left.now)) (statements_of (stored_cards c.loop-first.read.number c.loop-first.left)) (statements_of (stored_cards c.in_ok-read.read.number c.read_next.new.left)) s c.loop-first.invariant.job parts c.in_ok-read.ensures.job;
    }

pub returns-clause-sound : goal.returns-clause-sound
returns-clause-sound c =
    c.loop-first.invariant.sound ∙ ap (λ l. first_fault c.loop-first.read.seen l) (none_left c.loop-first.read.number c.loop-first.left (grind (arith, common_steps)))

pub returns-clause-job : goal.returns-clause-job
returns-clause-job c =
    sym (c.loop-first.invariant.job ∙ ap (λ l. fold with_statement c.loop-first.read.job (map without_records l)) (none_left c.loop-first.read.number c.loop-first.left (grind (arith, common_steps))))
