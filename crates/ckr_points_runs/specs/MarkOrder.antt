-- Marks in the order of their names.
use Rattle.std.specs.Prelude.{ℕ, Bool, false, List, [], ◌∷◌, map, Option}
use Rattle.std.specs.Option.{option_map_or}
use Rattle.std.specs.Ordering.{is_gt}
use Rattle.std.specs.FinMap.Entries.{is_sorted}
use Rattle.ckr_entry.specs.declared.point.Mark.{Mark}
use Rattle.ckr_library.specs.NameMaps.{Name, Named, name_cmp, same_name, with_entry}
use Rattle.ckr_library.specs.Places.{lead}

-- a mark as the entry of its name
abbrev pub entry_of : Mark → Name × Mark
entry_of mark = (mark.name, mark)

abbrev pub marked : List Mark → Named Mark
marked marks = map entry_of marks

-- whether the marks stand in ascending order of their names, each name once
abbrev pub are_in_order : List Mark → Bool
are_in_order marks = is_sorted name_cmp (marked marks)

-- the place of a name: before it stand the lower names alone
abbrev pub place_in : Name → List Mark → ℕ
place_in name marks = lead (λ (mark : Mark). is_gt (name_cmp name mark.name)) marks

abbrev pub has_name : Name → Option Mark → Bool
has_name name found = option_map_or (λ (mark : Mark). same_name name mark.name) found false

-- the marks of these names, put onto others from the last one on
abbrev pub marked_onto : (Name → Mark) → List Name → Named Mark → Named Mark
marked_onto mark [] base = base
marked_onto mark (name ∷ names) base = with_entry name (mark name) (marked_onto mark names base)
