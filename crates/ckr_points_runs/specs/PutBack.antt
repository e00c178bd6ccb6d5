-- What a put back makes of the library: which data sets go, and what the others get of their marks.
use Rattle.std.specs.Prelude.{◌≤◌, ℕ, nat_le, if◌then◌else◌, List, [], ◌∷◌}
use Rattle.std.specs.Option.{option_map_or}
use Rattle.ckr_entry.specs.declared.point.Mark.{Mark}
use Rattle.ckr_entry.specs.declared.point.Present.{Present}
use Rattle.ckr_library.specs.Catalog.{Holding, with_catalog, with_length}
use Rattle.ckr_library.specs.NameMaps.{Name, Named, with_changed, without_entry}
use Rattle.ckr_points.specs.Marks.{is_marked_absent, present_at}

-- a data set goes that a point marks absent
abbrev pub made_gone : List Mark → Name → Named Holding → Named Holding
made_gone marks name sets = if is_marked_absent marks name then without_entry name sets else sets

-- so do all of these names
abbrev pub all_made_gone : List Mark → List Name → Named Holding → Named Holding
all_made_gone marks [] sets = sets
all_made_gone marks (name ∷ names) sets = all_made_gone marks names (made_gone marks name sets)

-- a data set cut to a length, if it isn't shorter
abbrev pub cut_back : ℕ → Holding → Holding
cut_back most holding = if nat_le most holding.set.length then with_length most holding else holding

abbrev pub length_back : List Mark → Name → Named Holding → Named Holding
length_back marks name sets = option_map_or (λ (present : Present). with_changed name (cut_back present.length) sets) (present_at marks name) sets

-- these names cut to the lengths of their marks
abbrev pub lengths_back : List Mark → List Name → Named Holding → Named Holding
lengths_back marks [] sets = sets
lengths_back marks (name ∷ names) sets = lengths_back marks names (length_back marks name sets)

abbrev pub catalog_back : List Mark → Name → Named Holding → Named Holding
catalog_back marks name sets = option_map_or (λ (present : Present). with_changed name (with_catalog present.cataloged) sets) (present_at marks name) sets

-- these names with the catalog marks of their marks
abbrev pub catalogs_back : List Mark → List Name → Named Holding → Named Holding
catalogs_back marks [] sets = sets
catalogs_back marks (name ∷ names) sets = catalogs_back marks names (catalog_back marks name sets)

-- the lengths of the outputs, and the catalog marks of the needed names
abbrev pub sets_back : List Mark → List Name → List Name → Named Holding → Named Holding
sets_back marks outputs needed sets = catalogs_back marks needed (lengths_back marks outputs sets)

-- what a cut needs: no more records than have room
abbrev pub IsFilled : Holding → Type 0
IsFilled holding = holding.set.length ≤ holding.set.space
