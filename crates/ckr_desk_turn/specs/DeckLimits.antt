-- What the steps of an accepted deck are to the desk.
use Rattle.std.specs.Prelude.{◌≡◌, ℕ, ◌≤◌, ◌==◌, Bool, true, ◌&&◌, ◌||◌, not, nat_le, IsTrue, List, [], length}
use Rattle.std.specs.List.{list_all}
use Rattle.ckr_base.specs.Grammar.{is_name_byte}
use Rattle.ckr_jcl.specs.declared.deck.Cond.{Cond}
use Rattle.ckr_jcl.specs.declared.deck.Dd.{Dd}
use Rattle.ckr_jcl.specs.declared.deck.Step.{Step}
use Rattle.ckr_programs.specs.Ranges.{IsInRange}
use Rattle.ckr_uses.specs.Uses.{are_distinct}
use Rattle.ckr_meaning.specs.EffectiveJob.{name_of, names_of}
use Rattle.ckr_points_library.specs.Holdings.{owned}
use Rattle.ckr_points_library.specs.AllocationSteps.{fits_named}
use Rattle.ckr_points.specs.Payload.{is_formed_step}
use Rattle.ckr_points.specs.Tables.{is_checkpoints}

-- VOL names at most five volumes
abbrev pub has_few_volumes : Dd → Bool
has_few_volumes dd = nat_le (length dd.volumes.items) 5

-- at most 16 DDs, each with few volumes, and a PARM in the ranges that the programs rest on
pub record IsWithinLimits (step : Step) : Type 0 where
  pub few_dds : length step.dds ≤ 16
  pub few_volumes : list_all has_few_volumes step.dds ≡ true
  pub parm : IsInRange step.parm

-- IDS isn't given, or is at most 8 bytes of names
abbrev pub are_ids : List ℕ → Bool
are_ids text = nat_le (length text) 8 && list_all is_name_byte text

abbrev pub has_check_records : Dd → Bool
has_check_records dd = not (is_checkpoints dd.role) || dd.lrecl == 256

-- what its checkpoints are by: the text that begins their identifiers, and records of 256 bytes where they are written
pub record HasCheckParts (step : Step) : Type 0 where
  pub ids : are_ids step.parm.ids.items ≡ true
  pub records : list_all has_check_records step.dds ≡ true

-- What follows holds whichever run is the root, and whichever one owns the step, by their numbers.

-- each DD that has a data set is such as allocation needs it
abbrev pub FitsAllocation : Step → Type 0
FitsAllocation step = (root owner : ℕ) → IsTrue (list_all (fits_named (name_of root (owned step owner []))) step.dds)

-- no data set name stands twice
abbrev pub HasNamesOnce : Step → Type 0
HasNamesOnce step = (root owner : ℕ) (tests : List Cond) → are_distinct (names_of root (owned step owner tests)) ≡ true

-- besides, the DDs have the roles that the program has for their names, and what it updates is a data set
abbrev pub IsFormed : Step → Type 0
IsFormed step = (root owner : ℕ) (tests : List Cond) → is_formed_step root (owned step owner tests) ≡ true
