-- A deck that has more cards than it may have is refused.
use Rattle.std.proofs.Common.{◌≡◌, ℕ, ◌<◌, ◌≤◌, List, [], ◌∷◌, length, Some, None, Err, ap, sym, ◌∙◌, subst, arith}
use Rattle.ckr_cards.specs.declared.statement.Statement.{Statement}
use Rattle.ckr_cards.specs.Card.{stored_cards, cards_in_bytes}
use Rattle.ckr_cards.specs.Statement.{statements_of}
use Rattle.ckr_cards.proofs.Decks.{length-stored_cards}
use Rattle.ckr_jcl.specs.declared.refusal.DeckError.TheVariants.{At}
use Rattle.ckr_jcl_faults.specs.declared.deck_text.JobText.{JobText}
use Rattle.ckr_jcl_faults.specs.declared.faults.Fault.{Fault}
use Rattle.ckr_jcl_faults.specs.DeckText.{closed, deck_text}
use Rattle.ckr_jcl_faults.specs.Faults.{least_fault, statement_fault}
use Rattle.ckr_jcl_decks.specs.Deck.{answer_of, job_in, job_unless, judged, deck_of, stored_deck}
use Rattle.ckr_jcl_decks.specs.DeckFaults.{deck_faults}
use Rattle.ckr_jcl_decks.specs.ReaderErrors.{TellsFault}
use Rattle.ckr_jcl_decks.proofs.CardLimit.{few-faultless}
use Rattle.ckr_jcl_decks.proofs.LeastFault.{has_none}
use Rattle.ckr_open_deck.specs.StatementHeads.{IsTextWithout}
use Rattle.ckr_open_deck.proofs.DeckFaults.{deck_faults_same}

-- ---- it has a fault

-- card 100,001 breaks a rule
pub some-fault : (cards : ℕ) (job : JobText) → 100000 < cards → least_fault (deck_faults cards job) ≡ None → ⊥
some-fault cards job many none = let few : cards ≤ 100000 = few-faultless cards job (has_none (deck_faults cards job) none) in omega (arith, many, few)

-- ---- it is refused by this fault

refused-text : (cards : ℕ) (statements : List Statement) (job : JobText) (fault : Fault) → IsTextWithout statements job → least_fault (deck_faults cards (closed job)) ≡ Some fault → job_in cards statements ≡ Err fault
unfolding job_in judged deck_text
refused-text cards [] job fault is_text least = absurd is_text
refused-text cards (first ∷ rest) job fault is_text least =
    ap (λ f. job_unless f (deck_text first rest))
    (ap (λ faults. least_fault faults) (sym (deck_faults_same cards first rest))
    ∙ (ap (λ j. least_fault (deck_faults cards (closed j))) (sym is_text) ∙ least))

-- by the fault of a statement
pub refused-statement : (bytes : List ℕ) (left : List (List ℕ)) (number card : ℕ) → stored_cards 1 left ≡ cards_in_bytes bytes → TellsFault (At number card) (statement_fault (statements_of (stored_cards 1 left))) → stored_deck bytes ≡ Err (record { number = number; card = card })
unfolding stored_deck deck_of
refused-statement bytes left number card same tells =
    ap (λ f. answer_of f (length (cards_in_bytes bytes)) (statements_of (cards_in_bytes bytes)))
    (ap (λ cards. statement_fault (statements_of cards)) (sym same) ∙ tells)

-- by a fault of the whole deck
pub refused-deck : (bytes : List ℕ) (left : List (List ℕ)) (cards : ℕ) (job : JobText) (fault : Fault) → stored_cards 1 left ≡ cards_in_bytes bytes → cards ≡ length left → statement_fault (statements_of (stored_cards 1 left)) ≡ None → IsTextWithout (statements_of (stored_cards 1 left)) job → least_fault (deck_faults cards (closed job)) ≡ Some fault → stored_deck bytes ≡ Err fault
unfolding stored_deck deck_of
refused-deck bytes left cards job fault same count sound is_text least =
    subst (λ stored. answer_of (statement_fault (statements_of stored)) (length stored) (statements_of stored) ≡ Err fault) same
    (ap (λ f. answer_of f (length (stored_cards 1 left)) (statements_of (stored_cards 1 left))) sound
    ∙ (ap (λ n. job_in n (statements_of (stored_cards 1 left))) (length-stored_cards 1 left ∙ sym count)
    ∙ refused-text cards (statements_of (stored_cards 1 left)) job fault is_text least))
