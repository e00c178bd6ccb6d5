-- What the start of a step makes, by its DDs that have a data set and by the items of its event.
use Rattle.std.specs.Prelude.{ℕ, Bool, true, not, ◌&&◌, ◌||◌, List, [], ◌∷◌, ◌++◌, if◌then◌else◌, Option}
use Rattle.std.specs.List.{filter_map, list_all}
use Rattle.std.specs.Option.{option_map}
use Rattle.ckr_points_library.specs.Holdings.{meant}
use Rattle.ckr_events.specs.declared.event.Made.{Made}
use Rattle.ckr_library.specs.declared.sets.DataSet.{DataSet}
use Rattle.ckr_library.specs.NameMaps.{Named}
use Rattle.ckr_meaning.specs.Allotments.{DdAllotment, is_made, parts_for}
use Rattle.ckr_points.specs.Tables.{fresh_table, parts_from}
use Rattle.ckr_points.specs.Follows.{lies_clear, stands_in}
use Rattle.ckr_points.specs.Rows.{TableSet}
use Rattle.ckr_volumes.specs.declared.layout.Layout.{Layout}
use Rattle.ckr_volumes.specs.Layouts.{lie_apart}
use Rattle.ckr_points_clearance.specs.declared.placements.PlacedNow.{PlacedNow}

-- a DD as it was placed
abbrev pub placed_now : PlacedNow → DdAllotment
placed_now one = record { dd = one.dd.now; number = one.number; name = one.name; allotment = meant one.allotment }

-- the DDs that have a data set
abbrev pub placed_list : List (Option PlacedNow) → List DdAllotment
placed_list all = filter_map (λ (one : Option PlacedNow). option_map placed_now one) all

-- how many parts a DD makes
abbrev pub parts_made : DdAllotment → ℕ
parts_made one = if is_made one.allotment then parts_for one.dd.volumes.items else 0

-- the data set that a DD makes of the items; its stamp says nothing of where it lies
abbrev pub set_made : List Made → DdAllotment → DataSet
set_made items one = (fresh_table (record { run = 0; step = 0; rewrites = 0 }) one (parts_from one.number items)).set

-- a DD makes no data set, or one apart from this one
abbrev pub is_apart_from : List Made → DdAllotment → DdAllotment → Bool
is_apart_from items one other = not (is_made other.allotment) || lie_apart (set_made items one) (set_made items other)

-- a DD makes no data set, or one that stands in the layout, apart from those that were there and from those of these DDs
abbrev pub is_clear_beside : Layout → List Made → Named TableSet → List DdAllotment → DdAllotment → Bool
is_clear_beside layout items sets before one =
    not (is_made one.allotment)
    || (stands_in layout (set_made items one) && lies_clear sets (set_made items one) && list_all (is_apart_from items one) before)

-- the same for each of these DDs, in turn
abbrev pub are_clear_beside : Layout → List Made → Named TableSet → List DdAllotment → List DdAllotment → Bool
are_clear_beside layout items sets before [] = true
are_clear_beside layout items sets before (one ∷ rest) =
    is_clear_beside layout items sets before one && are_clear_beside layout items sets (before ++ one ∷ []) rest
