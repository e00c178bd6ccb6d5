-- Why a deck is refused, and what it is where it isn't.
use Rattle.std.proofs.Common.{◌≡◌, ℕ, true, List, [], ◌∷◌, length, refl, ap, sym, ◌∙◌, Option, Some, None, Result, Ok, Err, inl, inr}
use Rattle.ckr_cards.specs.declared.card.Card.{Card}
use Rattle.ckr_cards.specs.declared.statement.Statement.{Statement}
use Rattle.ckr_cards.specs.Statement.{statements_of}
use Rattle.ckr_jcl.specs.declared.deck.Job.{Job}
use Rattle.ckr_jcl_faults.specs.declared.deck_text.JobText.{JobText}
use Rattle.ckr_jcl_faults.specs.declared.faults.Fault.{Fault}
use Rattle.ckr_jcl_faults.specs.Faults.{statement_fault, least_fault, nothing_seen}
use Rattle.ckr_jcl_faults.specs.DeckText.{deck_text}
use Rattle.ckr_jcl_decks.specs.DeckFaults.{deck_faults, faults_of_names, faults_of_uses}
use Rattle.ckr_jcl_decks.specs.Deck.{job_of, job_unless, judged, job_in, answer_of, deck_of}
use Rattle.ckr_jcl_decks.specs.Least.{HasNone, IsLeast, ascends, AreSound, IsDeckFault, IsRefusal, IsDeckJob}
use Rattle.ckr_jcl_decks.proofs.LeastFault.{is_least, has_none, first_fault_law, sound_law}

abbrev pub refusal : Fault → Result Job Fault
refusal fault = Err fault

abbrev pub accepted : Job → Result Job Fault
accepted job = Ok job

pub same_error : {f g : Fault} → refusal f ≡ refusal g → f ≡ g
same_error e = cc

pub same_job : {a b : Job} → accepted a ≡ accepted b → a ≡ b
same_job e = cc

pub job_error : {a : Job} {g : Fault} → accepted a ≡ refusal g → ⊥
job_error e = cc

pub error_job : {a : Job} {g : Fault} → refusal g ≡ accepted a → ⊥
error_job e = cc

pub deck_faults_ascend : (cards : ℕ) (job : JobText) → ascends 0 (deck_faults cards job) ≡ true
unfolding deck_faults faults_of_names faults_of_uses
deck_faults_ascend cards job = refl

pub refused_text : (cards : ℕ) (job : JobText) (fault : Fault) (o : Option Fault) → least_fault (deck_faults cards job) ≡ o → job_unless o job ≡ Err fault → IsLeast (deck_faults cards job) fault
refused_text cards job fault None none answer = absurd (job_error answer)
refused_text cards job fault (Some own) has answer = is_least 0 (deck_faults cards job) fault (deck_faults_ascend cards job) (has ∙ ap (λ f. Some f) (same_error answer))

pub refused_in : (cards : ℕ) (statements : List Statement) (fault : Fault) → job_in cards statements ≡ Err fault → IsDeckFault cards statements fault
unfolding job_in judged
refused_in cards [] fault answer = sym (same_error answer)
refused_in cards (first ∷ rest) fault answer = refused_text cards (deck_text first rest) fault (least_fault (deck_faults cards (deck_text first rest))) refl answer

pub refused_by : (cards : ℕ) (statements : List Statement) (fault : Fault) (o : Option Fault) → statement_fault statements ≡ o → answer_of o cards statements ≡ Err fault → IsRefusal cards statements fault
refused_by cards statements fault None none answer = inr (sound_law statements none, refused_in cards statements fault answer)
refused_by cards statements fault (Some own) has answer = inl (first_fault_law statements fault (has ∙ ap (λ f. Some f) (same_error answer)))

pub accepted_text : (cards : ℕ) (text : JobText) (job : Job) (o : Option Fault) → least_fault (deck_faults cards text) ≡ o → job_unless o text ≡ Ok job → HasNone (deck_faults cards text) × (job ≡ job_of text)
accepted_text cards text job None none answer = (has_none (deck_faults cards text) none, sym (same_job answer))
accepted_text cards text job (Some own) has answer = absurd (error_job answer)

pub accepted_in : (cards : ℕ) (statements : List Statement) (job : Job) → job_in cards statements ≡ Ok job → IsDeckJob cards statements job
unfolding job_in judged
accepted_in cards [] job answer = error_job answer
accepted_in cards (first ∷ rest) job answer = accepted_text cards (deck_text first rest) job (least_fault (deck_faults cards (deck_text first rest))) refl answer

pub accepted_by : (cards : ℕ) (statements : List Statement) (job : Job) (o : Option Fault) → statement_fault statements ≡ o → answer_of o cards statements ≡ Ok job → AreSound nothing_seen statements × IsDeckJob cards statements job
accepted_by cards statements job None none answer = (sound_law statements none, accepted_in cards statements job answer)
accepted_by cards statements job (Some own) has answer = absurd (error_job answer)

-- ---- the laws

pub refusal_law : (cards : List Card) (fault : Fault) → deck_of cards ≡ Err fault → IsRefusal (length cards) (statements_of cards) fault
unfolding deck_of
refusal_law cards fault answer = refused_by (length cards) (statements_of cards) fault (statement_fault (statements_of cards)) refl answer

pub job_law : (cards : List Card) (job : Job) → deck_of cards ≡ Ok job → AreSound nothing_seen (statements_of cards) × IsDeckJob (length cards) (statements_of cards) job
unfolding deck_of
job_law cards job answer = accepted_by (length cards) (statements_of cards) job (statement_fault (statements_of cards)) refl answer
