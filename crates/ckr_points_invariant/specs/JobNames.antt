-- The job names of runs, and the names that a holder reaches: those of its own deck, with the root of its job and kin as the owner.
use Rattle.std.specs.Prelude.{◌≡◌, ◌==◌, ℕ, Bool, true, false, ◌||◌, None, Some}
use Rattle.std.specs.List.{list_any}
use Rattle.std.specs.Option.{is_some, option_map_or}
use Rattle.ckr_jcl.specs.declared.deck.Dd.{Dd}
use Rattle.ckr_jcl.specs.declared.deck.Job.{Job}
use Rattle.ckr_jcl.specs.declared.deck.Step.{Step}
use Rattle.ckr_library.specs.NameMaps.{Name}
use Rattle.ckr_meaning.specs.EffectiveJob.{OwnedStep, is_among, names_of_job, plain_job, step_at}
use Rattle.ckr_points.specs.Office.{Leg}
use Rattle.ckr_points.specs.RuleCases.{is_ended}
use Rattle.ckr_points.specs.Rows.{RunRow, TablesModel, run_of}
use Rattle.ckr_uses.specs.SetNames.{origin_name, run_name}

-- the name that a DD of the deck has, with this run as the root and this one as the owner of the step
pub record IsNameOf (deck : Job) (root owner : ℕ) (name : Name) : Type 0 where
  pub step : Step
  pub dd : Dd
  pub in_deck : (q : Step → Bool) → q step ≡ true → list_any q deck.steps ≡ true
  pub in_step : (q : Dd → Bool) → q dd ≡ true → list_any q step.dds ≡ true
  pub named : origin_name dd.origin (run_name root) (run_name owner) step.name dd.name ≡ Some name

-- the run of this number has this job name
abbrev pub HasJobName : TablesModel → ℕ → Name → Type 0
HasJobName tables number name = (its : RunRow) × (run_of tables number ≡ Some its) × (its.deck.name ≡ name)

-- the run of this number has ended
abbrev pub has_ended : TablesModel → ℕ → Bool
has_ended tables number = option_map_or (λ row. is_ended row.state) (run_of tables number) false

-- each run has the same job name in the later tables, and has ended there where it has here
pub record KeepsJobNames (tables later : TablesModel) : Type 0 where
  pub named : (number : ℕ) (name : Name) → HasJobName tables number name → HasJobName later number name
  pub ended : (number : ℕ) → has_ended tables number ≡ true → has_ended later number ≡ true

-- a run's own steps, and those of runs that ended, keep their points
abbrev pub keeps_points : TablesModel → ℕ → ℕ → Bool
keeps_points tables number owner = owner == number || has_ended tables owner

-- a run of the same job name, which is the run itself or has ended
abbrev pub IsKin : TablesModel → RunRow → ℕ → Type 0
IsKin tables row number = HasJobName tables number row.deck.name × (keeps_points tables row.number number ≡ true)

-- a name of a run's own deck, with the root of its job, and with kin as the owner
abbrev pub IsNamedByDeck : TablesModel → RunRow → Name → Type 0
IsNamedByDeck tables row name = (owner : ℕ) × IsNameOf row.deck row.job.root owner name × IsKin tables row owner

-- the root of a run's job and the owners of its steps are kin
pub record AreKin (tables : TablesModel) (row : RunRow) : Type 0 where
  pub root : IsKin tables row row.job.root
  pub owners : (number : ℕ) (owned : OwnedStep) → step_at row.job number ≡ Some owned → IsKin tables row owned.owner

-- The names that a holder reaches are those of its deck: with RESTART, by kin as the owner, and its root is kin too; else those of its job.
pub record HasUses (tables : TablesModel) (row : RunRow) (leg : Leg) : Type 0 where
  pub plain : row.deck.restart ≡ None → leg.job ≡ plain_job row.number row.deck
  pub reached : row.deck.restart ≡ None → (name : Name) → is_among leg.reach name ≡ true → is_among (names_of_job leg.job) name ≡ true
  pub root : is_some row.deck.restart ≡ true → IsKin tables row row.job.root
  pub deck : is_some row.deck.restart ≡ true → (name : Name) → is_among leg.reach name ≡ true → IsNamedByDeck tables row name
