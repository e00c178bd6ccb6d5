-- The answer to a deck, by what was read of it.
use Rattle.std.proofs.Common.{◌≡◌, ℕ, ◌/◌, List, [], ◌∷◌, length, ap, sym, ◌∙◌, subst, Option, None, Result, Err}
use Rattle.std.specs.Simd.{first_chunks}
use Rattle.ckr_cards.specs.declared.statement.Statement.{Statement}
use Rattle.ckr_cards.specs.Card.{stored_cards, cards_in_bytes}
use Rattle.ckr_cards.specs.Statement.{statements_of}
use Rattle.ckr_cards.proofs.Decks.{length-stored_cards}
use Rattle.ckr_jcl.specs.declared.refusal.DeckError.{DeckError}
use Rattle.ckr_jcl.specs.declared.refusal.DeckError.TheVariants.{NoMemory, At}
use Rattle.ckr_jcl.specs.declared.deck.Job.{Job}
use Rattle.ckr_jcl_faults.specs.declared.deck_text.JobText.{JobText}
use Rattle.ckr_jcl_faults.specs.declared.faults.Fault.{Fault}
use Rattle.ckr_jcl_faults.specs.Faults.{statement_fault}
use Rattle.ckr_jcl_decks.specs.Deck.{Answers, answer_of, job_in, judged, deck_of, stored_deck}
use Rattle.ckr_jcl_decks.specs.ReaderErrors.{TellsFault, IsDeckText}

pub answers_fault : (error : DeckError) (cards : ℕ) (statements : List Statement) (fault : Option Fault) → TellsFault error fault → Answers (Err error) (answer_of fault cards statements)
answers_fault NoMemory cards statements fault tells = tt
answers_fault (At number card) cards statements fault tells = ap (λ f. answer_of f cards statements) tells

pub answers_text : (answer : Result Job DeckError) (cards : ℕ) (statements : List Statement) (job : JobText) → IsDeckText statements job → Answers answer (judged cards job) → Answers answer (job_in cards statements)
unfolding job_in
answers_text answer cards [] job is_text answers = absurd is_text
answers_text answer cards (first ∷ rest) job is_text answers = subst (λ j. Answers answer (judged cards j)) is_text answers

pub answers_judged : (answer : Result Job DeckError) (cards : ℕ) (statements : List Statement) (job : JobText) → statement_fault statements ≡ None → IsDeckText statements job → Answers answer (judged cards job) → Answers answer (answer_of (statement_fault statements) cards statements)
answers_judged answer cards statements job sound is_text answers =
    subst (λ f. Answers answer (answer_of f cards statements)) (sym sound) (answers_text answer cards statements job is_text answers)

-- a deck is its stored cards
pub stored_deck_cards : (bytes : List ℕ) (stored : List (List ℕ)) → stored ≡ first_chunks 81 (length bytes / 81) bytes → answer_of (statement_fault (statements_of (stored_cards 1 stored))) (length stored) (statements_of (stored_cards 1 stored)) ≡ stored_deck bytes
unfolding stored_deck deck_of cards_in_bytes
stored_deck_cards bytes stored same =
    ap (λ n. answer_of (statement_fault (statements_of (stored_cards 1 stored))) n (statements_of (stored_cards 1 stored))) (sym (length-stored_cards 1 stored))
    ∙ ap (λ cards. answer_of (statement_fault (statements_of (stored_cards 1 cards))) (length (stored_cards 1 cards)) (statements_of (stored_cards 1 cards))) same

pub deck_fault : (error : DeckError) (bytes : List ℕ) (stored : List (List ℕ)) → stored ≡ first_chunks 81 (length bytes / 81) bytes → TellsFault error (statement_fault (statements_of (stored_cards 1 stored))) → Answers (Err error) (stored_deck bytes)
deck_fault error bytes stored same tells =
    subst (λ a. Answers (Err error) a) (stored_deck_cards bytes stored same)
    (answers_fault error (length stored) (statements_of (stored_cards 1 stored)) (statement_fault (statements_of (stored_cards 1 stored))) tells)

pub deck_answer : (answer : Result Job DeckError) (bytes : List ℕ) (stored : List (List ℕ)) (job : JobText) → stored ≡ first_chunks 81 (length bytes / 81) bytes → statement_fault (statements_of (stored_cards 1 stored)) ≡ None → IsDeckText (statements_of (stored_cards 1 stored)) job → Answers answer (judged (length stored) job) → Answers answer (stored_deck bytes)
deck_answer answer bytes stored job same sound is_text answers =
    subst (λ a. Answers answer a) (stored_deck_cards bytes stored same)
    (answers_judged answer (length stored) (statements_of (stored_cards 1 stored)) job sound is_text answers)
