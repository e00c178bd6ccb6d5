-- A deck without a fault has at most 100,000 cards.
use Rattle.std.proofs.Common.{◌≡◌, ◌≤◌, ◌/◌, ℕ, zero, suc, Bool, true, false, List, [], ◌∷◌, length, drop, Option, Some, None, Ok, refl, ap, ◌∙◌, cond, nat_le, nat_lt, arith}
use Rattle.std.proofs.lemmas.Bool.Decides.{nat_tests}
use Rattle.std.specs.Simd.{first_chunks}
use Rattle.ckr_base.proofs.Options.{some-not-none}
use Rattle.ckr_cards.specs.declared.statement.Statement.{Statement}
use Rattle.ckr_cards.specs.Card.{cards_in_bytes}
use Rattle.ckr_cards.specs.Statement.{statements_of}
use Rattle.ckr_cards.proofs.Decks.{length-stored_cards}
use Rattle.ckr_jcl.specs.declared.deck.Job.{Job}
use Rattle.ckr_jcl.specs.Text.{if_holds}
use Rattle.ckr_jcl_faults.specs.declared.deck_text.JobText.{JobText}
use Rattle.ckr_jcl_faults.specs.DeckText.{deck_text}
use Rattle.ckr_jcl_decks.specs.Deck.{stored_deck}
use Rattle.ckr_jcl_decks.specs.DeckFaults.{card_beyond, dd_beyond, deck_faults, faults_of_names, faults_of_uses, lesser, limit_fault, no_step, step_beyond}
use Rattle.ckr_jcl_decks.specs.Least.{HasNone, IsDeckJob}
use Rattle.ckr_jcl_decks.proofs.LeastFault.{own_none, rows_none}
use Rattle.ckr_jcl_decks.proofs.Refusals.{job_law}

-- ---- the least of the four limits

pub lesser-none : (first second : Option ℕ) → lesser first second ≡ None → (first ≡ None) × (second ≡ None)
lesser-none None second none = (refl, none)
lesser-none (Some card) None none = absurd (some-not-none card none)
lesser-none (Some card) (Some other) none = absurd (by (nat_le card other) none)
  where
    by : (less : Bool) → cond less (Some card) (Some other) ≡ None → ⊥
    by true none = some-not-none card none
    by false none = some-not-none other none

few-beyond : (cards : ℕ) → card_beyond cards ≡ None → cards ≤ 100000
few-beyond cards none = by (nat_lt 100000 cards) refl none
  where
    by : (more : Bool) → nat_lt 100000 cards ≡ more → if_holds {X = ℕ} more 100001 ≡ None → cards ≤ 100000
    by true is none = absurd (some-not-none 100001 none)
    by false is none = grind (arith, nat_tests, is)

few-within : (cards : ℕ) (job : JobText) → limit_fault cards job ≡ None → cards ≤ 100000
unfolding limit_fault
few-within cards job none =
    let steps = lesser-none (step_beyond job.steps) (lesser (dd_beyond job.steps) (lesser (card_beyond cards) (no_step cards job.steps))) none in
    let dds = lesser-none (dd_beyond job.steps) (lesser (card_beyond cards) (no_step cards job.steps)) steps.1 in
    few-beyond cards (lesser-none (card_beyond cards) (no_step cards job.steps) dds.1).0

-- ---- a deck without a fault

limit-none : (cards : ℕ) (job : JobText) → HasNone (deck_faults cards job) → limit_fault cards job ≡ None
unfolding deck_faults faults_of_names faults_of_uses
limit-none cards job none =
    let from_13 = rows_none _ _ none in
    let from_14 = rows_none _ _ from_13 in
    let from_15 = rows_none _ _ from_14 in
    let from_16 = rows_none _ _ from_15 in
    let from_17 = rows_none _ _ from_16 in
    let from_18 = rows_none _ _ from_17 in
    let from_19 = rows_none _ _ from_18 in
    let from_20 = rows_none _ _ from_19 in
    let from_21 = rows_none _ _ from_20 in
    let from_22 = rows_none _ _ from_21 in
    let from_23 = rows_none _ _ from_22 in
    own_none 23 (limit_fault cards job) _ from_23

pub few-faultless : (cards : ℕ) (job : JobText) → HasNone (deck_faults cards job) → cards ≤ 100000
few-faultless cards job none = few-within cards job (limit-none cards job none)

pub few-cards : (cards : ℕ) (statements : List Statement) (job : Job) → IsDeckJob cards statements job → cards ≤ 100000
few-cards cards [] job is = absurd is
few-cards cards (first ∷ rest) job is = few-faultless cards (deck_text first rest) is.0

-- ---- a stored deck

chunks-long : (k : ℕ) (bytes : List ℕ) → length (first_chunks 81 k bytes) ≡ k
chunks-long zero bytes = refl
chunks-long (suc k) bytes = ap (λ (n : ℕ). suc n) (chunks-long k (drop 81 bytes))

cards-long : (bytes : List ℕ) → length (cards_in_bytes bytes) ≡ length bytes / 81
unfolding cards_in_bytes
cards-long bytes = length-stored_cards 1 (first_chunks 81 (length bytes / 81) bytes) ∙ chunks-long (length bytes / 81) bytes

pub few-stored : (bytes : List ℕ) (job : Job) → stored_deck bytes ≡ Ok job → length bytes / 81 ≤ 100000
unfolding stored_deck
few-stored bytes job accepted =
    omega (arith, cards-long bytes, few-cards (length (cards_in_bytes bytes)) (statements_of (cards_in_bytes bytes)) job (job_law (cards_in_bytes bytes) job accepted).1)
