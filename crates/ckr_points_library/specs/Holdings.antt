-- How a step sees and changes the data sets of a library.
use Rattle.std.specs.Prelude.{ℕ, List}
use Rattle.ckr_jcl.specs.declared.deck.Cond.{Cond}
use Rattle.ckr_jcl.specs.declared.deck.Step.{Step}
use Rattle.ckr_library.specs.declared.sets.DataSet.{DataSet}
use Rattle.ckr_library.specs.Catalog.{Holding, with_catalog, with_length, with_stamp}
use Rattle.ckr_library.specs.NameMaps.{Named}
use Rattle.ckr_entry.specs.declared.point.Passed.{Passed}
use Rattle.ckr_meaning.specs.LibrarySet.{Known, SetWays}
use Rattle.ckr_meaning.specs.Allotments as meaning
use Rattle.ckr_meaning.specs.Dispositions.{Stock}
use Rattle.ckr_meaning.specs.EffectiveJob.{OwnedStep}
use Rattle.ckr_points_library.specs.declared.allotment.Allotment.{Allotment}
use Rattle.ckr_points_library.specs.declared.allotment.Allotment.TheVariants.{Found, Made, Refused}
use Rattle.ckr_points_library.specs.declared.allotment.Flaw.{Flaw}
use Rattle.ckr_points_library.specs.declared.allotment.Flaw.TheVariants.{Missing, Exists, WrongKind}

-- what allocation asks of a data set
abbrev pub known_of : DataSet → Known
known_of set = record { cataloged = set.cataloged; content = set.content }

-- a data set of the library is emptied by its length, and the checkpoint entries that it keeps go with its records
abbrev pub holding_ways : SetWays Holding
holding_ways = record {
  known = λ holding. known_of holding.set;
  marked = with_catalog;
  emptied = with_length 0;
  stamped = with_stamp;
}

-- a step with the run that owns it, and any tests
abbrev pub owned : Step → ℕ → List Cond → OwnedStep
owned step owner tests = record { step = step; owner = owner; tests = tests }

abbrev pub standing : Named Holding → List Passed → Stock Holding
standing sets passed = record { sets = sets; passed = passed }

abbrev pub meant_flaw : Flaw → meaning.FlawModel
meant_flaw Missing = meaning.missing
meant_flaw Exists = meaning.exists
meant_flaw WrongKind = meaning.wrong_kind

-- what is meant by how a DD comes to its data set
abbrev pub meant : Allotment → meaning.AllotmentModel
meant Found = meaning.found
meant Made = meaning.made
meant (Refused flaw) = meaning.refused (meant_flaw flaw)
