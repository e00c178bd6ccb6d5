-- The statements of a deck, read in turn.
use Rattle.std.proofs.Common.{◌≡◌, ℕ, ◌+◌, List, [], ◌∷◌, length, drop, refl, ap, ap₂, sym, ◌∙◌, subst, arith, None, Result, Ok, Err}
use Rattle.std.specs.Prelude.{fold, IfErr, IsErrAnd}
use Rattle.std.specs.Option.{option_or}
use Rattle.ckr_cards.specs.declared.statement.Statement.{Statement}
use Rattle.ckr_cards.specs.Card.{stored_card, stored_cards}
use Rattle.ckr_cards.specs.Statement.{statement_at, statements_of, cards_behind}
use Rattle.ckr_cards.specs.declared.card.Card.{Card}
use Rattle.ckr_cards.proofs.CardPlaces.{statement_at-first}
use Rattle.ckr_cards.proofs.Decks.{statements_step, no_statements}
use Rattle.ckr_jcl.specs.declared.refusal.DeckError.{DeckError}
use Rattle.ckr_jcl.specs.declared.refusal.DeckError.TheVariants.{NoMemory, At}
use Rattle.ckr_jcl_faults.specs.declared.deck_text.JobText.{JobText}
use Rattle.ckr_jcl_faults.specs.declared.faults.MetFaults.{MetFaults}
use Rattle.ckr_jcl_faults.specs.DeckText.{with_statement, job_text, closed, deck_text}
use Rattle.ckr_jcl_faults.specs.Faults.{faults_of, least_fault, first_fault, nothing_seen, seen_behind, statement_fault}
use Rattle.ckr_jcl_decks.specs.ReaderErrors.{TellsFault, IsDeckText}

-- the statements of the cards that are left are the next one, and those behind it
pub step_read : (number next : ℕ) (cards : List (List ℕ)) (first : List ℕ) (more behind : List (List ℕ)) (s : Statement) → cards ≡ first ∷ more → s ≡ statement_at (stored_card number first) (stored_cards (number + 1) more) → next ≡ number + 1 + cards_behind s → behind ≡ drop (cards_behind s) more → statements_of (stored_cards number cards) ≡ s ∷ statements_of (stored_cards next behind)
step_read number next cards first more behind s split same following left =
    ap (λ r. statements_of (stored_cards number r)) split
    ∙ (statements_step number first more s same
    ∙ ap₂ (λ n b. s ∷ statements_of (stored_cards n b)) (sym following) (sym left))

pub none_left : (number : ℕ) (cards : List (List ℕ)) → length cards ≡ 0 → statements_of (stored_cards number cards) ≡ []
none_left number [] none = no_statements
none_left number (card ∷ rest) none = absurd (omega arith)

pub fault_here : (error : DeckError) (seen : MetFaults) (s : Statement) (rest : List Statement) → TellsFault error (least_fault (faults_of seen s)) → TellsFault error (first_fault seen (s ∷ rest))
fault_here NoMemory seen s rest tells = tt
fault_here (At number card) seen s rest tells = ap (λ f. option_or f (first_fault (seen_behind seen s) rest)) tells

-- an error at the next statement is the one of all
pub fault_of_all : (error : DeckError) (begun seen : MetFaults) (all rest more : List Statement) (s : Statement) → first_fault begun all ≡ first_fault seen rest → rest ≡ s ∷ more → TellsFault error (least_fault (faults_of seen s)) → TellsFault error (first_fault begun all)
fault_of_all error begun seen all rest more s so_far split tells =
    subst (λ f. TellsFault error f) (sym (so_far ∙ ap (λ l. first_fault seen l) split)) (fault_here error seen s more tells)

pub sound_more : (begun seen next : MetFaults) (all rest more : List Statement) (s : Statement) → first_fault begun all ≡ first_fault seen rest → rest ≡ s ∷ more → least_fault (faults_of seen s) ≡ None → next ≡ seen_behind seen s → first_fault begun all ≡ first_fault next more
sound_more begun seen next all rest more s so_far split none following =
    so_far ∙ (ap (λ l. first_fault seen l) split
    ∙ (ap (λ f. option_or f (first_fault (seen_behind seen s) more)) none
    ∙ ap (λ n. first_fault n more) (sym following)))

pub job_more : (begun job next : JobText) (all rest more : List Statement) (s : Statement) → fold with_statement begun all ≡ fold with_statement job rest → rest ≡ s ∷ more → next ≡ with_statement job s → fold with_statement begun all ≡ fold with_statement next more
job_more begun job next all rest more s so_far split following =
    so_far ∙ (ap (λ l. fold with_statement job l) split ∙ ap (λ j. fold with_statement j more) (sym following))

-- ---- the first statement, and those behind it

pub number_of_first : (s : Statement) (number : ℕ) (first : List ℕ) (more : List (List ℕ)) → s ≡ statement_at (stored_card number first) (stored_cards (number + 1) more) → s.first.number ≡ number
number_of_first s number first more same =
    ap (λ (t : Statement). t.first.number) same ∙ ap (λ (card : Card). card.number) (statement_at-first (stored_card number first) (stored_cards (number + 1) more))

pub text_sound : (all behind : List Statement) (s : Statement) (seen : MetFaults) → all ≡ s ∷ behind → least_fault (faults_of nothing_seen s) ≡ None → seen ≡ seen_behind nothing_seen s → first_fault seen behind ≡ None → statement_fault all ≡ None
unfolding statement_fault
text_sound all behind s seen split none following sound =
    sound_more nothing_seen nothing_seen seen all all behind s refl split none following ∙ sound

pub text_fault : (error : DeckError) (all behind : List Statement) (s : Statement) → all ≡ s ∷ behind → TellsFault error (least_fault (faults_of nothing_seen s)) → TellsFault error (statement_fault all)
unfolding statement_fault
text_fault error all behind s split tells = fault_of_all error nothing_seen nothing_seen all all behind s refl split tells

pub rest_fault : (error : DeckError) (all behind : List Statement) (s : Statement) (seen : MetFaults) → all ≡ s ∷ behind → least_fault (faults_of nothing_seen s) ≡ None → seen ≡ seen_behind nothing_seen s → TellsFault error (first_fault seen behind) → TellsFault error (statement_fault all)
unfolding statement_fault
rest_fault error all behind s seen split none following tells =
    subst (λ f. TellsFault error f) (sym (sound_more nothing_seen nothing_seen seen all all behind s refl split none following)) tells

pub text_of_all : (all behind : List Statement) (s : Statement) (begun read job : JobText) → all ≡ s ∷ behind → begun ≡ job_text s → read ≡ fold with_statement begun behind → job ≡ closed read → IsDeckText all job
unfolding deck_text
text_of_all all behind s begun read job split first rest last =
    subst (λ l. IsDeckText l job) (sym split) (last ∙ ap closed (rest ∙ ap (λ b. fold with_statement b behind) first))

-- an error that is handed on
pub handed_on : {T : Type 0} (r : Result T DeckError) (error : DeckError) (P : DeckError → Type 0) → IsErrAnd r (λ e. e ≡ error) → P error → IfErr r P
handed_on (Ok value) error P is holds = tt
handed_on (Err e) error P is holds = subst P (sym is) holds
