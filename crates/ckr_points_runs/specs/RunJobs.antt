-- The job of a run: the steps that it has taken over from earlier runs, and then those of its own deck.
use Rattle.std.specs.Prelude.{◌≡◌, ◌≤◌, ℕ, suc, Bool, true, ◌&&◌, nat_le, IsSome, List, [], ◌∷◌, ◌++◌, drop, length, map, slice_get, take, Option}
use Rattle.std.specs.Option.{option_map, option_map_or}
use Rattle.std.specs.List.{cons_option, list_all}
use Rattle.std.specs.Rc.{rc_value}
use Rattle.ckr_jcl.specs.declared.deck.Dd.{Dd}
use Rattle.ckr_jcl.specs.declared.deck.Job.{Job}
use Rattle.ckr_jcl.specs.declared.deck.Step.{Step}
use Rattle.ckr_library.specs.NameMaps.{Name}
use Rattle.ckr_meaning.specs.EffectiveJob.{Effective, OwnedStep, names_of, owned_by}
use Rattle.ckr_points_runs.specs.declared.own_step.OwnStep.{OwnStep}
use Rattle.ckr_points_runs.specs.declared.taken_step.TakenStep.{TakenStep}

-- the deck of a run, and what it took over from the run that it continues at a step
pub record JobView : Type 0 where
  pub deck : Job
  pub root : ℕ
  pub earlier : ℕ
  pub earlier_step : ℕ
  pub taken : List OwnedStep

-- the steps of a run of this number
abbrev pub effective : ℕ → JobView → Effective
effective number job = record {
  root = job.root;
  steps = job.taken ++ map (owned_by number job.deck) (drop (length job.taken) job.deck.steps);
}

-- the job of a run that continues none
abbrev pub plain_view : ℕ → Job → JobView
plain_view number deck = record { deck = deck; root = number; earlier = 0; earlier_step = 0; taken = [] }

-- the job of a run with this deck that continues a run of this number and job at a step
abbrev pub continued_view : ℕ → Job → JobView → ℕ → JobView
continued_view number deck earlier step =
    record { deck = deck; root = earlier.root; earlier = number; earlier_step = step; taken = take step (effective number earlier).steps }

-- the names of a step, if there is one
abbrev pub names_in : ℕ → Option OwnedStep → List Name
names_in root found = option_map_or (names_of root) found []

-- ---- as the code has them

abbrev pub own_of : OwnStep → OwnedStep
own_of own = owned_by own.owner own.deck.now own.step.now

-- the step at a place of the deck from which it was taken
abbrev pub taken_at : ℕ → TakenStep → Option OwnedStep
taken_at place one = option_map (owned_by one.owner (rc_value one.deck)) (slice_get (rc_value one.deck).steps place)

-- the steps that were taken, the first of this place
abbrev pub taken_from : ℕ → List TakenStep → List OwnedStep
taken_from place [] = []
taken_from place (one ∷ rest) = cons_option (taken_at place one) (taken_from (suc place) rest)

-- each of their decks has its step
abbrev pub AreTaken : ℕ → List TakenStep → Type 0
AreTaken place [] = Unit {0}
AreTaken place (one ∷ rest) = IsSome (taken_at place one) × AreTaken (suc place) rest

-- ---- limits

-- at most five serials of VOL
abbrev pub has_few_serials : Dd → Bool
has_few_serials dd = nat_le (length dd.volumes.items) 5

-- at most 16 DDs
abbrev pub has_few_dds : Step → Bool
has_few_dds step = nat_le (length step.dds) 16 && list_all has_few_serials step.dds

-- at most 64 steps
abbrev pub is_within_limits : Job → Bool
is_within_limits job = nat_le (length job.steps) 64 && list_all has_few_dds job.steps

-- a step within the limits, of a run whose number has at most seven digits
abbrev pub is_fitting_step : OwnedStep → Bool
is_fitting_step owned = nat_le owned.owner 9999999 && has_few_dds owned.step

-- a job whose steps are such, of a root whose number has at most seven digits
pub record IsFitting (job : Effective) : Type 0 where
  pub root : job.root ≤ 9999999
  pub few : length job.steps ≤ 64
  pub steps : list_all is_fitting_step job.steps ≡ true

-- what the code asks of a step
pub record IsFittingStep (owned : OwnedStep) : Type 0 where
  pub owner : owned.owner ≤ 9999999
  pub dds : length owned.step.dds ≤ 16
  pub serials : list_all has_few_serials owned.step.dds ≡ true
