-- A deck that is accepted has few cards.
use Rattle.std.proofs.Common.{◌≡◌, ◌≤◌, ◌/◌, ℕ, List, length, Result, Ok, Err, refl, ap, subst}
use Rattle.ckr_jcl.specs.declared.deck.Job.{Job}
use Rattle.ckr_jcl_decks.proofs.CardLimit.{few-stored}
use Rattle.ckr_jcl_decks.specs.Deck.{stored_deck}
use Rattle.ckr_jcl_decks.specs.Parts.Fault.{Fault}
use Rattle.ckr_desk_refines.specs.Memory.Invariant.{IsAcceptedRow}
use Rattle.ckr_points.specs.Tables.{queued_run}
use Rattle.ckr_desk_turn.proofs.AdmittedSteps.{own-step}
use Rattle.ckr_desk_turn.specs.Submissions.{submission_by, submission_of}
use Rattle.ckr_desk_turn.specs.declared.submit.Submission.{Submission}
use Rattle.ckr_desk_turn.specs.declared.submit.Submission.TheVariants.{Accepted, Refused}

-- ---- what is accepted

by_deck : (deck : Result Job Fault) (job : Job) → submission_by deck ≡ Accepted job → deck ≡ Ok job
by_deck (Err fault) job e = absurd (subst (λ (s : Submission). elim s as (λ _. Type 0) [ Accepted _ ↦ ⊥ | Refused _ _ ↦ Unit {0} ]) e tt)
by_deck (Ok its) job e = ap Ok (let same : its ≡ job = ap (λ (s : Submission). elim s as (λ _. Job) [ Accepted j ↦ j | Refused _ _ ↦ its ]) e in same)

-- the deck of a job was accepted
pub accepted-deck : (cards : List ℕ) (job : Job) → submission_of cards ≡ Accepted job → stored_deck cards ≡ Ok job
unfolding submission_of
accepted-deck cards job e = by_deck (stored_deck cards) job e

pub few-accepted : (cards : List ℕ) (job : Job) → submission_of cards ≡ Accepted job → length cards / 81 ≤ 100000
few-accepted cards job e = few-stored cards job (accepted-deck cards job e)

-- its row is that of an accepted deck
pub accepted-row : (cards : List ℕ) (number : ℕ) (job : Job) → submission_of cards ≡ Accepted job → IsAcceptedRow (queued_run number job)
accepted-row cards number job e = let its = accepted-deck cards job e in record { cards = cards; accepted = its; steps = own-step cards number job its; plain = λ none. refl; first = λ none. refl }
