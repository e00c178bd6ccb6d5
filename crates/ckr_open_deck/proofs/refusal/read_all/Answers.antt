use Rattle.std.proofs.Common.{◌≡◌, ◌+◌, ◌∷◌, None, drop, length, map, rules, refl, ◌∙◌}
use Rattle.std.specs.Prelude.{fold}
use Rattle.std.proofs.lemmas.Result.{IfOk-weaker, IfErr-weaker}
use Rattle.ckr_cards.specs.Card.{stored_cards}
use Rattle.ckr_cards.specs.Statement.{statements_of}
use Rattle.ckr_jcl_faults.specs.DeckText.{with_statement}
use Rattle.ckr_jcl_faults.specs.Faults.{first_fault, statement_fault}
use Rattle.ckr_jcl_decks.specs.ReaderErrors.{TellsFault}
use Rattle.ckr_jcl_decks.proofs.StatementOrder.{text_sound, text_fault, rest_fault, handed_on}
use Rattle.ckr_open_deck.specs.StatementHeads.{IsTextWithout, statement_left, without_records}
use Rattle.ckr_open_deck.proofs.HeadDecks.{next-statement, last-number, text-without}
use Rattle.ckr_open_deck.proofs.refusal.read_all.Goals as goal

pub returns-in_err-read-clause-fault : goal.returns-in_err-read-clause-fault
returns-in_err-read-clause-fault c =
    let split : c.args.left.now ≡ c.in-Some.first ∷ drop 1 c.args.left.now = search rules in
    handed_on c.from_residual.result c.in_err-read.field-0.0 (λ error. TellsFault error (statement_fault (statements_of (stored_cards 1 c.args.left.now)))) c.from_residual.ensures.1
    (text_fault c.in_err-read.field-0.0 _ _ (statement_left 1 c.in-Some.first c.skip.new.self)
    (next-statement 1 _ c.args.left.now c.skip.new.self _ c.in-Some.first split c.skip.ensures refl refl)
    c.in_err-read.ensures.fault)

pub returns : goal.returns
returns c =
    let split : c.args.left.now ≡ c.in-Some.first ∷ drop 1 c.args.left.now = search rules in
    let all = statements_of (stored_cards 1 c.args.left.now) in
    let behind = statements_of (stored_cards c.in_ok-read.read.number c.read_first.new.left) in
    let s = statement_left 1 c.in-Some.first c.skip.new.self in
    let seen = c.in_ok-read.read.seen in
    let job = c.in_ok-read.read.job in
    let parts : all ≡ s ∷ behind = next-statement 1 c.in_ok-read.read.number c.args.left.now c.skip.new.self c.read_first.new.left c.in-Some.first split c.skip.ensures c.in_ok-read.ensures.number c.in_ok-read.ensures.left in
    let last = last-number 1 c.in_ok-read.read.number c.args.left.now c.skip.new.self c.read_first.new.left c.in-Some.first split c.skip.ensures c.in_ok-read.ensures.number c.in_ok-read.ensures.left in
    record {
      sound = IfOk-weaker c.read_rest.result (λ _. first_fault seen behind ≡ None) (λ _. statement_fault all ≡ None)
          (λ _ sound. text_sound all behind s seen parts c.in_ok-read.ensures.sound c.in_ok-read.ensures.seen sound) c.read_rest.ensures.sound;
      text = IfOk-weaker c.read_rest.result (λ read. read.job ≡ fold with_statement job (map without_records behind)) (λ read. IsTextWithout all read.job)
          (λ read rest. text-without all behind s job read.job parts c.in_ok-read.ensures.job rest) c.read_rest.ensures.job;
      number = IfOk-weaker c.read_rest.result (λ read. read.number ≡ c.in_ok-read.read.number + length c.read_first.new.left) (λ read. read.number ≡ 1 + length c.args.left.now)
          (λ read number. number ∙ last) c.read_rest.ensures.number;
      fault = IfErr-weaker c.read_rest.result (λ error. TellsFault error (first_fault seen behind)) (λ error. TellsFault error (statement_fault all))
          (λ error tells. rest_fault error all behind s seen parts c.in_ok-read.ensures.sound c.in_ok-read.ensures.seen tells) c.read_rest.ensures.fault;
    }
