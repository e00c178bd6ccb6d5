-- What a step makes, by what the tables keep of its run and by the items of its event.
use Rattle.std.specs.Prelude.{◌&&◌, Bool, List}
use Rattle.ckr_events.specs.declared.event.Made.{Made}
use Rattle.ckr_library.specs.declared.sets.Stamp.{Stamp}
use Rattle.ckr_meaning.specs.Allotments.{DdAllotment}
use Rattle.ckr_meaning.specs.Dispositions.{Stock}
use Rattle.ckr_meaning.specs.EffectiveJob.{OwnedStep, flaws_in, placed_in}
use Rattle.ckr_points.specs.Follows.{are_items, is_empty}
use Rattle.ckr_points.specs.Rows.{TableSet, TablesModel, table_ways}
use Rattle.ckr_points_tables.specs.Model.RunTable.{RunTable}
use Rattle.ckr_volumes.specs.declared.layout.Layout.{Layout}

-- what stands before a step of the run
abbrev pub standing_now : TablesModel → RunTable → Stock TableSet
standing_now tables table = record { sets = tables.sets; passed = table.passed.items }

-- what allocation says of the DDs of the step that have a data set
abbrev pub placed_for : TablesModel → RunTable → OwnedStep → List DdAllotment
placed_for tables table owned = placed_in table_ways (standing_now tables table) table.job.root owned

-- no DD is refused, and the items are those of what the step makes, with this stamp
abbrev pub makes_items : Layout → Stamp → TablesModel → RunTable → OwnedStep → List Made → Bool
makes_items layout stamp tables table owned items =
    is_empty (flaws_in (placed_for tables table owned)) && are_items layout stamp tables.sets (placed_for tables table owned) items
