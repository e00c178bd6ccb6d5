-- What is stale of the needed names in a library, by its data sets without the points of their entries.
use Rattle.std.specs.Prelude.{if◌then◌else◌, List, [], ◌∷◌, map, Option, None}
use Rattle.std.specs.Option.{option_map, option_or}
use Rattle.ckr_entry.specs.declared.point.Mark.{Mark}
use Rattle.ckr_entry.specs.declared.point.Present.{Present}
use Rattle.ckr_library.specs.Catalog.{Holding}
use Rattle.ckr_library.specs.NameMaps.{Name, Named, entry_at}
use Rattle.ckr_library.specs.declared.sets.DataSet.{DataSet}
use Rattle.ckr_points.specs.declared.denial.Denial.{Denial}
use Rattle.ckr_points.specs.declared.needed.Needed.{Needed}
use Rattle.ckr_points.specs.Freshness.{stale_by}
use Rattle.ckr_points.specs.Needed.{first_step, is_needed}
use Rattle.ckr_points.specs.Rows.{TableSet, holding_of}

-- the data sets of the tables as the library has them
abbrev pub held_sets : Named TableSet → Named Holding
held_sets sets = map (λ entry. (entry.0, holding_of entry.1)) sets

-- a data set without its entries
abbrev pub bare_set : DataSet → TableSet
bare_set set = record { set = set; entries = [] }

-- the rule that a marked name meets, by what the library has under it
abbrev pub stale_with : Needed → Name → Option Present → Option DataSet → Option Denial
stale_with needed name present set = stale_by needed.root (first_step needed) name present (option_map bare_set set)

-- the rule that a marked name meets, if it is needed
abbrev pub stale_needed : Needed → Named Holding → Mark → Option Denial
stale_needed needed sets mark =
    if is_needed needed mark.name
    then stale_with needed mark.name mark.present (option_map (λ (holding : Holding). holding.set) (entry_at sets mark.name))
    else None

-- the denial of the first needed name among the marks that meets one
abbrev pub stale_among : Needed → Named Holding → List Mark → Option Denial
stale_among needed sets [] = None
stale_among needed sets (mark ∷ marks) = option_or (stale_needed needed sets mark) (stale_among needed sets marks)
