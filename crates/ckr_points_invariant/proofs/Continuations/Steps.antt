-- The steps of a run that continues another one at a step. Up to this step they are the earlier run's, which it and other ended runs own; the
-- later ones are those of the run's own deck.
use Rattle.std.proofs.Common.{◌≡◌, ◌≢◌, ◌≤◌, ◌<◌, ℕ, zero, suc, pred, Bool, true, false, List, [], ◌∷◌, ◌++◌, map, take, drop, length, refl, ap, sym, ◌∙◌, Option, Some, arith}
use Rattle.std.specs.Prelude.{◌==◌, slice_get}
use Rattle.std.specs.List.{AllByRecursion, list_all}
use Rattle.std.specs.Option.{option_map_or}
use Rattle.std.proofs.lemmas.Bool.{and_from, false≢true, or_left, or_right}
use Rattle.std.proofs.lemmas.List.{take-take}
use Rattle.std.proofs.lemmas.List.Folds.{list_all-append, list_any-append}
use Rattle.ckr_base.proofs.Bools.{and-first, and-second, or-cases}
use Rattle.ckr_base.proofs.Numbers.{equal-itself, equal-true}
use Rattle.ckr_base.proofs.Options.{some-not-none}
use Rattle.ckr_base.proofs.Sequences.{all-get, all-implies, all-take, get-inside}
use Rattle.ckr_jcl.specs.declared.deck.Job.{Job}
use Rattle.ckr_jcl.specs.declared.deck.Step.{Step}
use Rattle.ckr_library.specs.NameMaps.{Name, Named, same_name}
use Rattle.ckr_meaning.specs.EffectiveJob.{Effective, OwnedStep, is_among, names_of, names_of_steps, owned_by, step_at}
use Rattle.ckr_meaning.specs.LibrarySet.{Library}
use Rattle.ckr_points.specs.Marks.{has_passed, made_names, own_names, point_at}
use Rattle.ckr_points.specs.Office.{Leg, Office, passed_made, continued_leg}
use Rattle.ckr_points.specs.Payload.{is_formed, is_formed_step}
use Rattle.ckr_points.specs.Restart.{step_in}
use Rattle.ckr_points.specs.RuleCases.{is_ended}
use Rattle.ckr_points.specs.Rows.{RunRow, StartPoint, TableSet, TablesModel, run_of}
use Rattle.ckr_points.specs.Tables.{earlier_made, step_made, steps_made}
use Rattle.ckr_points_invariant.proofs.Continuations.EarlierRun.{Coming, IsEarlier, leg_from, row_then, tables_then}
use Rattle.ckr_points_invariant.specs.Invariant.{step_now}
use Rattle.ckr_points_invariant.proofs.Continuations.Fronts.{same-steps}
use Rattle.ckr_points_invariant.proofs.Decks.Names.{steps-formed}
use Rattle.ckr_points_invariant.proofs.Holders.Rows.{queued-is, run-other, step-all}
use Rattle.ckr_points_invariant.proofs.Select.Invariant.{among-step}
use Rattle.ckr_points_invariant.specs.JobNames.{keeps_points}

-- ---- lists

-- a place within a front
get-take : {A : Type 0} (count place : ℕ) (items : List A) → place < count → slice_get (take count items) place ≡ slice_get items place
get-take zero place items before = absurd (omega (arith, before))
get-take (suc count) place [] before = refl
get-take (suc count) zero (first ∷ rest) before = refl
get-take (suc count) (suc place) (first ∷ rest) before = get-take count place rest (omega (arith, before))

-- a test of all that stand behind a front, at a place there
all-behind : {A : Type 0} (all : A → Bool) (count place : ℕ) (items others : List A) (item : A) → count ≤ length items → count ≤ place → list_all all others ≡ true → slice_get (take count items ++ others) place ≡ Some item → all item ≡ true
all-behind all zero place items others item long behind each found = all-get all others place item each found
all-behind all (suc count) place [] others item long behind each found = absurd (omega (arith, long))
all-behind all (suc count) zero (first ∷ rest) others item long behind each found = absurd (omega (arith, behind))
all-behind all (suc count) (suc place) (first ∷ rest) others item long behind each found = all-behind all count place rest others item (omega (arith, long)) (omega (arith, behind)) each found

-- ---- the steps of a job

abbrev has_ended : Option RunRow → Bool
has_ended run = option_map_or (λ row. is_ended row.state) run false

step-long : (job : Effective) (number : ℕ) (owned : OwnedStep) → step_at job number ≡ Some owned → number ≤ length job.steps
step-long job zero owned found = absurd (some-not-none owned (sym found))
step-long job (suc before) owned found = get-inside owned job.steps before found

-- the steps of a job up to a number, by those of another one
step-same : (count : ℕ) (job other : Effective) → take count job.steps ≡ take count other.steps → (number : ℕ) → number ≤ count → step_at job number ≡ step_at other number
step-same count job other same zero low = refl
step-same count job other same (suc before) low = sym (get-take count before job.steps low) ∙ ap (λ steps. slice_get steps before) same ∙ get-take count before other.steps low

-- a test of the steps of a deck, as a run owns them
all-own : (all : OwnedStep → Bool) (run : ℕ) (deck : Job) → ((step : Step) → all (owned_by run deck step) ≡ true) → (steps : List Step) → list_all all (map (owned_by run deck) steps) ≡ true
all-own all run deck passes [] = refl
all-own all run deck passes (first ∷ rest) = and_from (all (owned_by run deck first)) _ (passes first) (all-own all run deck passes rest)

-- the steps of an orderly deck from one on are formed, whatever the root and the owner
later-formed : (root run : ℕ) (deck : Job) (count : ℕ) (steps : List Step) → AllByRecursion (λ step. (root owner : ℕ) → is_formed_step root (owned_by owner deck step) ≡ true) steps → list_all (is_formed_step root) (map (owned_by run deck) (drop count steps)) ≡ true
later-formed root run deck zero [] each = refl
later-formed root run deck zero (first ∷ rest) each = and_from (is_formed_step root (owned_by run deck first)) _ (each.0 root run) (later-formed root run deck zero rest each.1)
later-formed root run deck (suc count) [] each = refl
later-formed root run deck (suc count) (first ∷ rest) each = later-formed root run deck count rest each.1

-- the names of a step are among those of the steps from an earlier one on
pub among-behind : (root count place : ℕ) (steps : List OwnedStep) (owned : OwnedStep) (name : Name) → count ≤ place → slice_get steps place ≡ Some owned → is_among (names_of root owned) name ≡ true → is_among (names_of_steps root (drop count steps)) name ≡ true
among-behind root zero place steps owned name behind found among = among-step (record { root = root; steps = steps }) (suc place) owned name found among
among-behind root (suc count) place [] owned name behind found among = absurd (some-not-none owned (sym found))
among-behind root (suc count) zero (first ∷ rest) owned name behind found among = absurd (omega (arith, behind))
among-behind root (suc count) (suc place) (first ∷ rest) owned name behind found among = among-behind root count place rest owned name (omega (arith, behind)) found among

module _ (now : Office) (row other : RunRow) (start : Library) (reach : List Name) (step : ℕ) (point : StartPoint) (earlier : IsEarlier now row other (leg_from other start reach) step point)
    (initiator : ℕ) (coming : Coming) (stands : step_in coming.place ≡ step) (sets : Named TableSet) where
  abbrev pub next : RunRow
  next = row_then now row other step point initiator coming

  abbrev pub leg : Leg
  leg = continued_leg now next (leg_from other start reach)

  abbrev pub tables : TablesModel
  tables = tables_then now next sets

  -- who owns a step of the earlier run keeps its points now, and who owns one of the run keeps them then
  abbrev kept_now : OwnedStep → Bool
  kept_now owned = keeps_points now.tables other.number owned.owner

  abbrev kept_then : OwnedStep → Bool
  kept_then owned = keeps_points tables row.number owned.owner

  front : take step next.job.steps ≡ take step other.job.steps
  front = same-steps other.job start now.library step row.number row.deck earlier.begun.owned earlier.begun.found

  long : step ≤ length other.job.steps
  long = step-long other.job step earlier.begun.owned earlier.begun.found

  pub formed : is_formed leg.job ≡ true
  formed =
      list_all-append (is_formed_step other.job.root) (take step other.job.steps) (map (owned_by row.number row.deck) (drop step row.deck.steps))
      ∙ and_from (list_all (is_formed_step other.job.root) (take step other.job.steps)) _
      (all-take (is_formed_step other.job.root) step other.job.steps earlier.steps.formed)
      (later-formed other.job.root row.number row.deck step row.deck.steps (steps-formed row.number row.deck earlier.orderly))

  -- ---- the owners

  -- who owns a step of the earlier run has ended
  owner-ended : (owner : ℕ) → keeps_points now.tables other.number owner ≡ true → has_ended (run_of now.tables owner) ≡ true
  owner-ended owner keeps =
      or-cases (owner == other.number) _ keeps
      (λ its. ap (λ number. has_ended (run_of now.tables number)) (equal-true owner other.number its) ∙ ap has_ended earlier.other_at ∙ earlier.ended)
      (λ ended. ended)

  -- so it isn't the run itself, which waits
  pub owner-apart : (owner : ℕ) → keeps_points now.tables other.number owner ≡ true → owner ≢ row.number
  owner-apart owner keeps here =
      false≢true (
      sym (ap (λ number. has_ended (run_of now.tables number)) here ∙ ap has_ended earlier.row_at ∙ ap is_ended (queued-is row.state earlier.queued))
      ∙ owner-ended owner keeps)

  pub rows-stay : (owner : ℕ) → owner ≢ row.number → run_of tables owner ≡ run_of now.tables owner
  rows-stay owner apart = run-other (record now.tables { sets = sets }) next owner apart

  pub owner-keeps : (owner : ℕ) → keeps_points now.tables other.number owner ≡ true → keeps_points tables row.number owner ≡ true
  owner-keeps owner keeps =
      or_right (owner == row.number) _ (ap has_ended (rows-stay owner (owner-apart owner keeps)) ∙ owner-ended owner keeps)

  pub owners : list_all (λ owned. keeps_points tables next.number owned.owner) next.job.steps ≡ true
  owners =
      list_all-append kept_then (take step other.job.steps) (map (owned_by row.number row.deck) (drop step row.deck.steps))
      ∙ and_from (list_all kept_then (take step other.job.steps)) _
      (all-implies kept_now kept_then (take step other.job.steps) (λ owned. owner-keeps owned.owner) (all-take kept_now step other.job.steps earlier.steps.owners))
      (all-own kept_then row.number row.deck (λ each. or_left (row.number == row.number) _ (equal-itself row.number)) (drop step row.deck.steps))

  pub later : (number : ℕ) (owned : OwnedStep) → step_now next < number → step_at leg.job number ≡ Some owned → owned.owner ≡ next.number
  later zero owned behind found = absurd (some-not-none owned (sym found))
  later (suc before) owned behind found =
      equal-true owned.owner row.number
      (all-behind (λ owned. owned.owner == row.number) step before other.job.steps (map (owned_by row.number row.deck) (drop step row.deck.steps)) owned long
      (omega (arith, stands, behind))
      (all-own (λ owned. owned.owner == row.number) row.number row.deck (λ each. equal-itself row.number) (drop step row.deck.steps))
      found)

  -- ---- the steps up to that one

  -- these are the earlier run's
  step-earlier : (number : ℕ) (owned : OwnedStep) → number ≤ step → step_at leg.job number ≡ Some owned → step_at other.job number ≡ Some owned
  step-earlier number owned low found = sym (step-same step next.job other.job front number low) ∙ found

  keeps-earlier : (number : ℕ) (owned : OwnedStep) → number ≤ step → step_at leg.job number ≡ Some owned → kept_now owned ≡ true
  keeps-earlier number owned low found = step-all kept_now other.job number owned earlier.steps.owners (step-earlier number owned low found)

  pub owner-other : (number : ℕ) (owned : OwnedStep) → number ≤ step → step_at leg.job number ≡ Some owned → owned.owner ≢ row.number
  owner-other number owned low found = owner-apart owned.owner (keeps-earlier number owned low found)

  -- what they made is what the points of their owners say, and these points stay
  step_made-earlier : (owned : OwnedStep) (number : ℕ) → kept_now owned ≡ true → step_made tables next owned number ≡ step_made now.tables other owned number
  step_made-earlier owned number keeps =
      ap (λ (o : Option RunRow). option_map_or (λ owner. option_map_or (λ point. made_names point.marks (names_of other.job.root owned)) (point_at owner.points number) []) o [])
      (rows-stay owned.owner (owner-apart owned.owner keeps))

  pub made-stays : (number : ℕ) (owned : OwnedStep) → number ≤ step → step_at leg.job number ≡ Some owned → step_made tables next owned number ≡ step_made now.tables other owned number
  made-stays number owned low found = step_made-earlier owned number (keeps-earlier number owned low found)

  steps_made-earlier : (number : ℕ) (steps : List OwnedStep) → list_all kept_now steps ≡ true → steps_made tables next number steps ≡ steps_made now.tables other number steps
  steps_made-earlier number [] each = refl
  steps_made-earlier number (owned ∷ rest) each =
      ap (λ names. names ++ steps_made tables next (suc number) rest) (step_made-earlier owned number (and-first (kept_now owned) _ each))
      ∙ ap (λ names. step_made now.tables other owned number ++ names) (steps_made-earlier (suc number) rest (and-second (kept_now owned) _ each))

  front-before : take (pred step) next.job.steps ≡ take (pred step) other.job.steps
  front-before =
      let low : pred step ≤ step = pred-low step in
      sym (take-take (pred step) step next.job.steps low) ∙ ap (take (pred step)) front ∙ take-take (pred step) step other.job.steps low
    where
      pred-low : (number : ℕ) → pred number ≤ number
      pred-low zero = omega arith
      pred-low (suc before) = omega arith

  pub earlier-stays : earlier_made tables next step ≡ earlier_made now.tables other step
  earlier-stays =
      ap (steps_made tables next 1) front-before
      ∙ steps_made-earlier 1 (take (pred step) other.job.steps) (all-take kept_now (pred step) other.job.steps earlier.steps.owners)

  -- ---- the names from that step on

  pub own : (name : Name) → is_among (own_names next) name ≡ true → is_among leg.reach name ≡ true
  own name mine = list_any-append (same_name name) (own_names next) (passed_made (has_passed next)) ∙ or_left (is_among (own_names next) name) _ mine

  pub ahead : (number : ℕ) (owned : OwnedStep) (name : Name) → step_now next ≤ number → step_at leg.job number ≡ Some owned → is_among (names_of leg.job.root owned) name ≡ true
      → (is_among leg.reach name ≡ true) × (is_among (own_names next) name ≡ true)
  ahead zero owned name from found among = absurd (some-not-none owned (sym found))
  ahead (suc before) owned name from found among =
      let mine : is_among (own_names next) name ≡ true = among-behind other.job.root (pred step) before next.job.steps owned name (low step (omega (arith, stands, from))) found among in
      (own name mine, mine)
    where
      low : (number : ℕ) → number ≤ suc before → pred number ≤ before
      low zero few = omega arith
      low (suc place) few = omega (arith, few)
