-- Lengths of data sets, now and behind a unit that was worked out.
use Rattle.std.specs.Prelude.{◌≡◌, ◌≤◌, Some}
use Rattle.ckr_library.specs.declared.sets.DataSet.{DataSet}
use Rattle.ckr_library.specs.Catalog.{Catalog, Holding, fresh_holding, set_of}
use Rattle.ckr_library.specs.NameMaps.{Name, Named, with_entry}
use Rattle.ckr_steps.specs.Writes.{grown}
use Rattle.ckr_desk_plans.specs.declared.run_code.Extents.{Extents}
use Rattle.ckr_desk_plans.specs.declared.run_code.Extents.TheVariants.{Now, Behind, Entered}

-- the data sets with these lengths
abbrev pub sets_of : Extents → Named Holding
sets_of (Now sets) = sets.now.sets
sets_of (Behind on ahead) = grown on.now.step.files ahead.now.writes.items on.now.sets.sets
sets_of (Entered sets check set end) = with_entry check.now (fresh_holding (record set.now { length = end })) sets.now.sets

-- no data set has more than a million records
abbrev pub IsShort : Catalog → Type 0
IsShort catalog = (name : Name) (set : DataSet) → set_of catalog name ≡ Some set → set.length ≤ 1000000

-- so it is before the unit
abbrev pub AreShort : Extents → Type 0
AreShort (Now sets) = Unit {0}
AreShort (Behind on ahead) = IsShort on.now.sets
AreShort (Entered sets check set end) = Unit {0}
