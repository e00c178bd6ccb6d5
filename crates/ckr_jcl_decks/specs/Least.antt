-- What the answer to a deck is, as a relation: of the first statement with a fault its least card, and then its least number; else
-- the least card and then the least number of the whole deck; else its job.
use Rattle.std.specs.Prelude.{◌≡◌, ℕ, ◌<◌, ◌≤◌, ◌⊎◌, ◌&&◌, Bool, true, List, [], ◌∷◌, Option, Some, nat_lt}
use Rattle.ckr_cards.specs.declared.statement.Statement.{Statement}
use Rattle.ckr_jcl_faults.specs.declared.faults.Fault.{Fault}
use Rattle.ckr_jcl_faults.specs.declared.faults.MetFaults.{MetFaults}
use Rattle.ckr_jcl.specs.declared.deck.Job.{Job}
use Rattle.ckr_jcl_faults.specs.Faults.{faults_of, nothing_seen, seen_behind}
use Rattle.ckr_jcl_faults.specs.DeckText.{deck_text}
use Rattle.ckr_jcl_decks.specs.DeckFaults.{deck_faults}
use Rattle.ckr_jcl_decks.specs.Deck.{job_of}

-- a table has a fault of a number at a card
pub data IsFaultAt (number card : ℕ) : List (ℕ × Option ℕ) → Type 0 where
  here : (rest : List (ℕ × Option ℕ)) → IsFaultAt number card ((number, Some card) ∷ rest)
  there : (row : ℕ × Option ℕ) (rest : List (ℕ × Option ℕ)) → IsFaultAt number card rest → IsFaultAt number card (row ∷ rest)

-- a table has no fault
abbrev pub HasNone : List (ℕ × Option ℕ) → Type 0
HasNone rows = (number card : ℕ) → IsFaultAt number card rows → ⊥

-- a fault comes before one of a number at a card, or is it
abbrev pub ComesFirst : Fault → ℕ → ℕ → Type 0
ComesFirst fault number card = (fault.card < card) ⊎ ((fault.card ≡ card) × (fault.number ≤ number))

-- a fault of a table that comes before all others of it
pub record IsLeast (rows : List (ℕ × Option ℕ)) (fault : Fault) : Type 0 where
  pub stands : IsFaultAt fault.number fault.card rows
  pub first : (number card : ℕ) → IsFaultAt number card rows → ComesFirst fault number card

-- the rows of a table stand in the order of their numbers, which are greater than `least`
abbrev pub ascends : ℕ → List (ℕ × Option ℕ) → Bool
ascends least [] = true
ascends least (row ∷ rest) = nat_lt least row.0 && ascends row.0 rest

-- the first statement with a fault has this one as its least
pub data IsFirstFault : MetFaults → List Statement → Fault → Type 0 where
  at_first : (seen : MetFaults) (s : Statement) (rest : List Statement) (fault : Fault) → IsLeast (faults_of seen s) fault → IsFirstFault seen (s ∷ rest) fault
  behind : (seen : MetFaults) (s : Statement) (rest : List Statement) (fault : Fault) → HasNone (faults_of seen s) → IsFirstFault (seen_behind seen s) rest fault → IsFirstFault seen (s ∷ rest) fault

-- no statement has a fault
pub data AreSound : MetFaults → List Statement → Type 0 where
  none : (seen : MetFaults) → AreSound seen []
  sound : (seen : MetFaults) (s : Statement) (rest : List Statement) → HasNone (faults_of seen s) → AreSound (seen_behind seen s) rest → AreSound seen (s ∷ rest)

-- a fault of a deck whose statements have none
abbrev pub IsDeckFault : ℕ → List Statement → Fault → Type 0
IsDeckFault cards [] fault = fault ≡ record { number = 4; card = 1 }
IsDeckFault cards (first ∷ rest) fault = IsLeast (deck_faults cards (deck_text first rest)) fault

-- why a deck of so many cards is refused
abbrev pub IsRefusal : ℕ → List Statement → Fault → Type 0
IsRefusal cards statements fault =
    IsFirstFault nothing_seen statements fault ⊎ (AreSound nothing_seen statements × IsDeckFault cards statements fault)

-- a deck whose statements have no fault has none, and is this job
abbrev pub IsDeckJob : ℕ → List Statement → Job → Type 0
IsDeckJob cards [] job = ⊥
IsDeckJob cards (first ∷ rest) job = HasNone (deck_faults cards (deck_text first rest)) × (job ≡ job_of (deck_text first rest))
