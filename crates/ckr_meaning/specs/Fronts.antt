-- Jobs that begin with the same steps.
use Rattle.std.specs.Prelude.{◌≡◌, ℕ, take, List}
use Rattle.ckr_library.specs.NameMaps.{Name}
use Rattle.ckr_meaning.specs.Dispositions.{Stock}
use Rattle.ckr_meaning.specs.EffectiveJob.{AgreeOn, Effective, names_of_steps}
use Rattle.ckr_meaning.specs.JobRun.{Walk}
use Rattle.ckr_meaning.specs.LibrarySet.{Library, LibrarySet}

-- the names of the first steps of a job
abbrev pub front_names : ℕ → Effective → List Name
front_names count job = names_of_steps job.root (take count job.steps)

-- two jobs begin with the same steps, on libraries that agree on the names of these
pub record BeginAlike (count : ℕ) (first second : Effective) (one other : Library) : Type 0 where
  pub root : first.root ≡ second.root
  pub steps : take count first.steps ≡ take count second.steps
  pub agree : AgreeOn (front_names count first) one other

-- two libraries agree on these names, and the same data sets were passed on
pub record StandAlike (names : List Name) (first second : Stock LibrarySet) : Type 0 where
  pub sets : AgreeOn names first.sets second.sets
  pub passed : first.passed ≡ second.passed

-- two jobs have come equally far: besides, they made the same names, with the same return codes
pub record WalkAlike (names : List Name) (first second : Walk) : Type 0 where
  pub standing : StandAlike names first.standing second.standing
  pub earlier : first.earlier ≡ second.earlier
  pub rcs : first.rcs ≡ second.rcs
