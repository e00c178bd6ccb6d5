-- How a step opens one of its DDs.
use Rattle.std.specs.Prelude.{List}
use Rattle.ckr_jcl.specs.declared.deck.Dd.{Dd}
use Rattle.ckr_library.specs.declared.sets.Stamp.{Stamp}
use Rattle.ckr_library.specs.Catalog.{Holding}
use Rattle.ckr_library.specs.NameMaps.{Name, Named}
use Rattle.ckr_entry.specs.declared.point.Passed.{Passed}
use Rattle.ckr_meaning.specs.Allotments.{DdAllotment, is_output, opened_one}
use Rattle.ckr_meaning.specs.EffectiveJob.{placed_one}
use Rattle.ckr_points_library.specs.Holdings.{holding_ways, standing}

abbrev pub opened_placed : Stamp → DdAllotment → Named Holding → Named Holding
opened_placed stamp placed sets = opened_one holding_ways stamp placed placed.allotment (is_output placed.dd.role) sets

-- the library with the data set of a DD opened, by what stands there now
abbrev pub opened_dd : List Passed → Stamp → Dd → Name → Named Holding → Named Holding
opened_dd passed stamp dd name sets = opened_placed stamp (placed_one holding_ways (standing sets passed) 1 dd name) sets
