-- The uses of a run's names, and whether those of two runs hold against each other.
use Rattle.std.specs.Prelude.{◌≡◌, ℕ, Bool, true, false, ◌&&◌, ◌||◌, not, if◌then◌else◌, List, [], ◌∷◌, ◌++◌, map, filter, flat_map, Option, None, Some, IsTrue}
use Rattle.std.specs.List.{list_any, list_all, filter_map}
use Rattle.std.specs.Option.{is_some, option_map, option_to_list, option_and_then}
use Rattle.ckr_jcl.specs.declared.deck.After.{After}
use Rattle.ckr_jcl.specs.declared.deck.After.TheVariants.{Delete, Keep, Pass, Catlg, Uncatlg}
use Rattle.ckr_jcl.specs.declared.deck.Dd.{Dd}
use Rattle.ckr_jcl.specs.declared.deck.Job.{Job}
use Rattle.ckr_jcl.specs.declared.deck.Step.{Step}
use Rattle.ckr_jcl.specs.declared.deck.Origin.{Origin}
use Rattle.ckr_jcl.specs.declared.deck.Origin.TheVariants.{InStream, Named, Temporary, Unnamed, Sysout, Dummy}
use Rattle.ckr_jcl.specs.declared.deck.Status.{Status}
use Rattle.ckr_jcl.specs.declared.deck.Status.TheVariants.{New, Old, Shr, Mod}
use Rattle.ckr_library.specs.declared.uses.Use.{Use}
use Rattle.ckr_library.specs.NameMaps.{Name, same_name}
use Rattle.ckr_uses.specs.Disposal.{dispose, is_temporary}
use Rattle.ckr_uses.specs.SetNames.{name_under, run_name}

abbrev pub is_keep : After → Bool
is_keep Delete = false
is_keep Keep = true
is_keep Pass = false
is_keep Catlg = false
is_keep Uncatlg = false

abbrev pub is_shr : Status → Bool
is_shr New = false
is_shr Old = false
is_shr Shr = true
is_shr Mod = false

-- whether a DD leaves its data set as it is and others may use it too: SHR, and KEEP at both ends, written or by default
abbrev pub is_shared : Dd → Bool
is_shared dd =
    is_shr dd.disp.status && is_keep (dispose (is_temporary dd.origin) dd.disp false false)
    && is_keep (dispose (is_temporary dd.origin) dd.disp false true)

-- a run with RESTART has no shared use
abbrev pub use_as : Bool → Dd → Name → Use
use_as restart dd name = record { name = name; exclusive = restart || not (is_shared dd) }

-- ---- the uses of a deck

-- the qualifier of a run's own data sets: its number; with RESTART the job's name, since the root is known at selection alone
abbrev pub own_qualifier : ℕ → Job → Name
own_qualifier run job = if is_some job.restart then job.name else run_name run

abbrev pub use_in : Bool → Name → Name → Dd → Option Use
use_in restart own step dd = option_map (use_as restart dd) (name_under dd own own step)

abbrev pub uses_in_step : Bool → Name → Step → List Use
uses_in_step restart own step = filter_map (use_in restart own step.name) step.dds

-- the name that a DD was given
abbrev pub written_name : Origin → Option Name
written_name (InStream cards) = None
written_name (Named name) = Some name
written_name (Temporary name) = None
written_name Unnamed = None
written_name Sysout = None
written_name Dummy = None

-- SYSCHK belongs to no step, and names a data set
abbrev pub use_of_syschk : Bool → Dd → Option Use
use_of_syschk restart dd = option_map (use_as restart dd) (written_name dd.origin)

-- a use for each DD that has a data set, SYSCHK's behind those of the steps
abbrev pub uses_of_dds : ℕ → Job → List Use
uses_of_dds run job =
    flat_map (uses_in_step (is_some job.restart) (own_qualifier run job)) job.steps
    ++ option_to_list (option_and_then (use_of_syschk (is_some job.restart)) job.syschk)

-- ---- one use for each name

-- each name once, where it stands first
abbrev pub names_once : List Name → List Name
names_once [] = []
names_once (name ∷ names) = name ∷ filter (λ other. not (same_name other name)) (names_once names)

abbrev pub is_of : Name → Use → Bool
is_of name used = same_name name used.name

abbrev pub is_exclusive_of : Name → Use → Bool
is_exclusive_of name used = same_name name used.name && used.exclusive

-- a name is shared where all its uses are
abbrev pub use_among : List Use → Name → Use
use_among uses name = record { name = name; exclusive = list_any (is_exclusive_of name) uses }

abbrev pub names_in : List Use → List Name
names_in uses = map (λ (used : Use). used.name) uses

abbrev pub merged : List Use → List Use
merged uses = map (use_among uses) (names_once (names_in uses))

-- the uses of the run of this number, whose submitted deck has this job
unfoldable pub uses_of : ℕ → Job → List Use
uses_of run job = merged (uses_of_dds run job)

-- ---- two runs

-- whether one use keeps the other out
abbrev pub collides : Use → Use → Bool
collides first second = same_name first.name second.name && (first.exclusive || second.exclusive)

-- whether one name stands in both and at least one of the two uses is exclusive
abbrev pub holds : List Use → List Use → Bool
holds first second = list_any (λ used. list_any (collides used) second) first

-- ---- one name in two runs

-- whether the name stands in both and at least one of its uses is exclusive
abbrev pub holds_at : Name → List Use → List Use → Bool
holds_at name first second =
    list_any (is_of name) first && list_any (is_of name) second
    && (list_any (is_exclusive_of name) first || list_any (is_exclusive_of name) second)

abbrev pub leaves : Name → Option Name → Bool → Bool
leaves name None shared = true
leaves name (Some other) shared = not (same_name name other) || shared

-- whether a DD of a step has another data set than that of the name, or shares it
abbrev pub leaves_in : Name → Name → Name → Dd → Bool
leaves_in name own step dd = leaves name (name_under dd own own step) (is_shared dd)

abbrev pub leaves_in_step : Name → Name → Step → Bool
leaves_in_step name own step = list_all (leaves_in name own step.name) step.dds

-- the job has neither RESTART nor SYSCHK, and each DD of this name is SHR, with KEEP at both ends
pub record Shares (name : Name) (run : ℕ) (job : Job) : Type 0 where
  pub plain : job.restart ≡ None
  pub alone : job.syschk ≡ None
  pub shared : IsTrue (list_all (leaves_in_step name (run_name run)) job.steps)

-- ---- what one use for each name keeps

-- whether no name stands twice
abbrev pub are_distinct : List Name → Bool
are_distinct [] = true
are_distinct (name ∷ names) = not (list_any (same_name name) names) && are_distinct names

-- each name of the uses stands once, and is exclusive where one of its uses is
pub record IsMerged (uses one : List Use) : Type 0 where
  pub once : IsTrue (are_distinct (names_in one))
  pub same : (name : Name) → list_any (is_of name) one ≡ list_any (is_of name) uses
  pub exclusive : (name : Name) → list_any (is_exclusive_of name) one ≡ list_any (is_exclusive_of name) uses
