-- What one unit of a running step does, from its state and from what the disk has.
use Rattle.std.specs.Prelude.{◌≡◌, ℕ, ◌+◌, List}
use Rattle.ckr_base.specs.declared.programs.Heads.{Heads}
use Rattle.ckr_base.specs.declared.programs.UnitDone.{UnitDone}
use Rattle.ckr_base.specs.declared.programs.Write.{Write}
use Rattle.ckr_library.specs.Catalog.{Catalog}
use Rattle.ckr_library.specs.NameMaps.{Name}
use Rattle.ckr_volumes.specs.declared.layout.Layout.{Layout}
use Rattle.ckr_meaning.specs.LibrarySet.{Library}
use Rattle.ckr_steps.specs.declared.step_run.StepRun.{StepRun}
use Rattle.ckr_steps.specs.declared.step_run.Worked.{Worked}
use Rattle.ckr_steps.specs.declared.unit_ahead.UnitAhead.{UnitAhead}
use Rattle.ckr_steps.specs.Units.{unit_of, state_of, taken_of, IsCounted}
use Rattle.ckr_steps.specs.Inputs.{heads_of}
use Rattle.ckr_steps.specs.Writes.{answer_of, done_of, count_of, grown, Shows, put_all}

-- the numbers of a step are in their ranges
abbrev pub AreCounted : StepRun → Type 0
AreCounted step = IsCounted step.parm step.state step.writes

-- the next records of the step's inputs, where the disk reads this
abbrev pub heads_on : List ℕ → Layout → Catalog → StepRun → Heads
heads_on image layout catalog step = heads_of image layout catalog step.files step.state

-- the unit for these heads
abbrev pub unit_for : StepRun → Heads → UnitDone
unit_for step heads = unit_of step.parm step.state heads

abbrev pub writes_for : StepRun → Heads → List Write
writes_for step heads = (unit_for step heads).writes.items

-- what is answered to it
unfoldable pub worked_for : Catalog → StepRun → Heads → Worked
worked_for catalog step heads =
    answer_of catalog step.files (writes_for step heads) (taken_of (state_of step.parm step.state heads)) (unit_for step heads).finish

-- the step behind it
unfoldable pub behind_unit : Catalog → StepRun → Heads → StepRun
behind_unit catalog step heads = record step {
  state = state_of step.parm step.state heads;
  writes = step.writes + count_of catalog step.files (writes_for step heads);
}

-- its writes, as far as they are done
unfoldable pub done_for : Catalog → StepRun → Heads → List Write
done_for catalog step heads = done_of catalog step.files (writes_for step heads)

-- the unit for the heads that were read: its answer, the step behind it, and the library with its writes
pub record HasDone (heads : Heads) (old new : StepRun) (library library' : Catalog) (worked : Worked) : Type 0 where
  pub answer : worked ≡ worked_for library old heads
  pub step : new ≡ behind_unit library old heads
  pub lengths : library'.sets ≡ grown old.files (done_for library old heads) library.sets

-- a library of records that the disk shows before the unit, it shows behind it with the unit's writes
pub record HasWritten (told : Type 0) (before after : List ℕ) (layout : Layout) (heads : Heads) (old : StepRun) (library library' : Catalog) : Type 0 where
  pub shows : (names : List Name) (model : Library) → Shows told before layout names model library
      → Shows told after layout names (put_all old.files (done_for library old heads) model) library'

-- the unit was done for some heads, those that the disk reads where it tells
pub record HasWorked (told : Type 0) (before after : List ℕ) (layout : Layout) (old new : StepRun) (library library' : Catalog) (worked : Worked) : Type 0 where
  pub heads : Heads
  pub read : told → heads ≡ heads_on before layout library old
  pub done : HasDone heads old new library library' worked
  pub written : HasWritten told before after layout heads old library library'

-- ---- a unit that was worked out

-- the step behind it
abbrev pub behind_ahead : StepRun → UnitAhead → StepRun
behind_ahead step ahead = record step { state = ahead.state; writes = step.writes + ahead.count }

-- it is the unit for these heads: its answer, the step behind it, and its writes as far as they are done
pub record IsUnitFor (library : Catalog) (step : StepRun) (heads : Heads) (ahead : UnitAhead) : Type 0 where
  pub answer : ahead.worked ≡ worked_for library step heads
  pub behind : behind_ahead step ahead ≡ behind_unit library step heads
  pub writes : ahead.writes.items ≡ done_for library step heads
  pub counted : AreCounted (behind_ahead step ahead)

-- it was worked out for some heads, those that the disk reads where it tells
pub record HasWorkedOut (told : Type 0) (image : List ℕ) (layout : Layout) (step : StepRun) (library : Catalog) (ahead : UnitAhead) : Type 0 where
  pub heads : Heads
  pub read : told → heads ≡ heads_on image layout library step
  pub unit : IsUnitFor library step heads ahead

-- the answer is that to the unit for some heads, those that the disk reads where it tells
pub record HasLooked (told : Type 0) (image : List ℕ) (layout : Layout) (step : StepRun) (library : Catalog) (worked : Worked) : Type 0 where
  pub heads : Heads
  pub read : told → heads ≡ heads_on image layout library step
  pub answer : worked ≡ worked_for library step heads
