-- A job as it runs: its steps, each with the run that owns it and its tests, and what a step does with its DDs.
use Rattle.std.specs.Prelude.{◌≡◌, ℕ, zero, suc, Bool, true, ◌||◌, List, [], ◌∷◌, ◌++◌, map, filter, slice_get, Option, None, Some}
use Rattle.std.specs.Option.{option_map}
use Rattle.std.specs.List.{list_all, list_any, filter_map, flat_map, cons_option}
use Rattle.ckr_jcl.specs.declared.deck.Cond.{Cond}
use Rattle.ckr_jcl.specs.declared.deck.Dd.{Dd}
use Rattle.ckr_jcl.specs.declared.deck.Job.{Job}
use Rattle.ckr_jcl.specs.declared.deck.Step.{Step}
use Rattle.ckr_library.specs.declared.sets.Stamp.{Stamp}
use Rattle.ckr_library.specs.NameMaps.{Name, Agree, entry_at, same_name}
use Rattle.ckr_uses.specs.Disposal.{dispose, is_temporary}
use Rattle.ckr_uses.specs.SetNames.{library_name}
use Rattle.ckr_uses.specs.Uses.{are_distinct}
use Rattle.ckr_meaning.specs.LibrarySet.{Library, SetWays}
use Rattle.ckr_meaning.specs.Dispositions.{Stock, Disposal}
use Rattle.ckr_meaning.specs.Allotments.{AllotmentModel, refused, found, made, FlawModel, DdAllotment, allotment_of, is_passed, is_made}

-- a step with the run that owns it, and its tests
pub record OwnedStep : Type 0 where
  pub step : Step
  pub owner : ℕ
  pub tests : List Cond

-- the root of a run, and its steps
pub record Effective : Type 0 where
  pub root : ℕ
  pub steps : List OwnedStep

-- the tests of a step are those of its JOB and then its own
abbrev pub owned_by : ℕ → Job → Step → OwnedStep
owned_by run job step = record { step = step; owner = run; tests = job.cond ++ step.cond }

-- a run that continues none is its deck, and owns all its steps
abbrev pub plain_job : ℕ → Job → Effective
plain_job run deck = record { root = run; steps = map (owned_by run deck) deck.steps }

-- a step by its number, from 1
abbrev pub step_at : Effective → ℕ → Option OwnedStep
step_at job zero = None
step_at job (suc before) = slice_get job.steps before

-- what a step makes, empties or extends gets this stamp
abbrev pub stamp_of : OwnedStep → ℕ → Stamp
stamp_of owned number = record { run = owned.owner; step = number; rewrites = 0 }

-- the name of the data set of a DD of the step
abbrev pub name_of : ℕ → OwnedStep → Dd → Option Name
name_of root owned dd = library_name dd root owned.owner owned.step.name

-- the names of a step, in the order of its DDs
abbrev pub names_of : ℕ → OwnedStep → List Name
names_of root owned = filter_map (name_of root owned) owned.step.dds

-- the names of a job, step by step
abbrev pub names_of_steps : ℕ → List OwnedStep → List Name
names_of_steps root steps = flat_map (names_of root) steps

abbrev pub names_of_job : Effective → List Name
names_of_job job = names_of_steps job.root job.steps

abbrev pub is_among : List Name → Name → Bool
is_among names name = list_any (same_name name) names

-- no name stands twice in a step of the job
abbrev pub HasDistinctNames : Effective → Type 0
HasDistinctNames job = list_all (λ owned. are_distinct (names_of job.root owned)) job.steps ≡ true

-- two libraries agree on each of these names
abbrev pub AgreeOn : List Name → Library → Library → Type 0
AgreeOn names first second = (name : Name) → is_among names name ≡ true → Agree first second name

abbrev pub placed_one : {X : Type 0} → SetWays X → Stock X → ℕ → Dd → Name → DdAllotment
placed_one ways standing number dd name = record {
  dd = dd;
  number = number;
  name = name;
  allotment = allotment_of dd (is_passed standing.passed name) (option_map ways.known (entry_at standing.sets name));
}

-- what allocation says of each DD that has a data set, by what stands before the step; no name stands twice in a step
abbrev pub placed_from : {X : Type 0} → SetWays X → Stock X → ℕ → OwnedStep → ℕ → List Dd → List DdAllotment
placed_from ways standing root owned number [] = []
placed_from ways standing root owned number (dd ∷ dds) =
    cons_option (option_map (placed_one ways standing number dd) (name_of root owned dd)) (placed_from ways standing root owned (suc number) dds)

abbrev pub placed_in : {X : Type 0} → SetWays X → Stock X → ℕ → OwnedStep → List DdAllotment
placed_in ways standing root owned = placed_from ways standing root owned 1 owned.step.dds

abbrev pub flaw_in : AllotmentModel → Option FlawModel
flaw_in found = None
flaw_in made = None
flaw_in (refused flaw) = Some flaw

-- the causes for which DDs are refused, each with the DD's number, in the order of the DDs
abbrev pub flaws_in : List DdAllotment → List (ℕ × FlawModel)
flaws_in placed = filter_map (λ one. option_map (λ flaw. (one.number, flaw)) (flaw_in one.allotment)) placed

-- the names that the step makes
abbrev pub names_made : List DdAllotment → List Name
names_made placed = map (λ one. one.name) (filter (λ one. is_made one.allotment) placed)

-- the run made a data set if this step did, or an earlier one of these names
abbrev pub disposal_of : List Name → Bool → DdAllotment → Disposal
disposal_of earlier abnormal one = record {
  name = one.name;
  after = dispose (is_temporary one.dd.origin) one.dd.disp (is_made one.allotment) abnormal;
  made = is_made one.allotment || is_among earlier one.name;
}

-- the dispositions of a step, in the order of its DDs
abbrev pub disposals_of : List Name → Bool → List DdAllotment → List Disposal
disposals_of earlier abnormal placed = map (disposal_of earlier abnormal) placed
