-- A deck without a fault has at most 64 steps.
use Rattle.std.proofs.Common.{◌≡◌, ℕ, zero, suc, ◌≤◌, List, [], ◌∷◌, length, Option, Some, None, arith, refl}
use Rattle.std.proofs.lemmas.Grind.{common_steps}
use Rattle.std.specs.Prelude.{slice_get}
use Rattle.std.specs.Option.{option_map}
use Rattle.ckr_jcl_faults.specs.declared.faults.Fault.{Fault}
use Rattle.ckr_jcl_faults.specs.declared.deck_text.JobText.{JobText}
use Rattle.ckr_jcl_faults.specs.declared.deck_text.StepText.{StepText}
use Rattle.ckr_jcl_faults.specs.Faults.{fault_at, least_fault}
use Rattle.ckr_jcl_faults.specs.declared.dd_faults.DdRule.TheVariants.{LeftOut, IllNamed, WrongUse, WrongSpace, WrongRecords}
use Rattle.ckr_jcl_faults.specs.DdFaults.{breaks}
use Rattle.ckr_jcl_decks.specs.DeckFaults.{deck_faults, faults_of_names, faults_of_uses, limit_fault, lesser, step_card, step_beyond, dd_beyond, card_beyond, no_step, dd_in_steps, dd_or_syschk, checkpoint_name_fault, repeated_name, restart_step_fault, checkpoint_fault, program_fault, parm_text_fault, missing_dd}

own_none : (number : ℕ) (own : Option ℕ) (later : Option Fault) → fault_at number own later ≡ None → own ≡ None
own_none number None later none = refl
own_none number (Some card) None none = absurd cc
own_none number (Some card) (Some other) none = absurd cc

later_none : (number : ℕ) (own : Option ℕ) (later : Option Fault) → fault_at number own later ≡ None → later ≡ None
later_none number None later none = none
later_none number (Some card) None none = refl
later_none number (Some card) (Some other) none = absurd cc

rows_none : (number : ℕ) (own : Option ℕ) (rows : List (ℕ × Option ℕ)) → least_fault ((number, own) ∷ rows) ≡ None → least_fault rows ≡ None
rows_none number own rows none = later_none number own (least_fault rows) none

map-none : (step : Option StepText) → option_map step_card step ≡ None → step ≡ None
map-none None none = refl
map-none (Some step) none = absurd cc

lesser_none : (first second : Option ℕ) → lesser first second ≡ None → first ≡ None
lesser_none None second none = refl
lesser_none (Some card) None none = none
lesser_none (Some card) (Some other) none = grind (arith, common_steps)

fourth_none : (a b c d e : Option ℕ) → least_fault ((20, a) ∷ (21, b) ∷ (22, c) ∷ (23, d) ∷ (24, e) ∷ []) ≡ None → d ≡ None
fourth_none a b c d e none =
    own_none 23 d (fault_at 24 e None)
    (rows_none 22 c ((23, d) ∷ (24, e) ∷ []) (rows_none 21 b ((22, c) ∷ (23, d) ∷ (24, e) ∷ []) (rows_none 20 a ((21, b) ∷ (22, c) ∷ (23, d) ∷ (24, e) ∷ []) none)))

uses_none : (cards : ℕ) (job : JobText) → least_fault (faults_of_uses cards job) ≡ None → limit_fault cards job ≡ None
unfolding faults_of_uses
uses_none cards job none =
    fourth_none (dd_in_steps (breaks WrongUse) job.steps) (dd_in_steps (breaks WrongSpace) job.steps) (dd_in_steps (breaks WrongRecords) job.steps) (limit_fault cards job) (checkpoint_name_fault job) none

behind_three : (a b c : Option ℕ) (rows : List (ℕ × Option ℕ)) → least_fault ((17, a) ∷ (18, b) ∷ (19, c) ∷ rows) ≡ None → least_fault rows ≡ None
behind_three a b c rows none =
    rows_none 19 c rows (rows_none 18 b ((19, c) ∷ rows) (rows_none 17 a ((18, b) ∷ (19, c) ∷ rows) none))

names_none : (cards : ℕ) (job : JobText) → least_fault (faults_of_names cards job) ≡ None → least_fault (faults_of_uses cards job) ≡ None
unfolding faults_of_names
names_none cards job none =
    behind_three (dd_or_syschk (breaks LeftOut) job) (dd_or_syschk (breaks IllNamed) job) (repeated_name job) (faults_of_uses cards job) none

behind_five : (a b c d e : Option ℕ) (rows : List (ℕ × Option ℕ)) → least_fault ((12, a) ∷ (13, b) ∷ (14, c) ∷ (15, d) ∷ (16, e) ∷ rows) ≡ None → least_fault rows ≡ None
behind_five a b c d e rows none =
    rows_none 16 e rows
    (rows_none 15 d ((16, e) ∷ rows)
    (rows_none 14 c ((15, d) ∷ (16, e) ∷ rows)
    (rows_none 13 b ((14, c) ∷ (15, d) ∷ (16, e) ∷ rows) (rows_none 12 a ((13, b) ∷ (14, c) ∷ (15, d) ∷ (16, e) ∷ rows) none))))

deck_none : (cards : ℕ) (job : JobText) → least_fault (deck_faults cards job) ≡ None → least_fault (faults_of_names cards job) ≡ None
unfolding deck_faults
deck_none cards job none =
    behind_five (restart_step_fault job) (checkpoint_fault job) (program_fault job) (parm_text_fault job) (missing_dd job) (faults_of_names cards job) none

few : {X : Type 0} (place : ℕ) (xs : List X) → slice_get xs place ≡ None → length xs ≤ place
few place [] none = omega arith
few zero (x ∷ xs) none = absurd cc
few (suc place) (x ∷ xs) none = let later = few place xs none in omega arith

card_none : (steps : List StepText) → step_beyond steps ≡ None → slice_get steps 64 ≡ None
card_none steps none = map-none (slice_get steps 64) none

no_step_beyond : (steps : List StepText) → step_beyond steps ≡ None → length steps ≤ 64
no_step_beyond steps none = few 64 steps (card_none steps none)

within : (cards : ℕ) (job : JobText) → limit_fault cards job ≡ None → length job.steps ≤ 64
unfolding limit_fault
within cards job none =
    no_step_beyond job.steps (lesser_none (step_beyond job.steps) (lesser (dd_beyond job.steps) (lesser (card_beyond cards) (no_step cards job.steps))) none)

pub few_steps : (cards : ℕ) (job : JobText) → least_fault (deck_faults cards job) ≡ None → length job.steps ≤ 64
few_steps cards job none = within cards job (uses_none cards job (names_none cards job (deck_none cards job none)))
