-- The allocation of a step's DDs, in their order.
use Rattle.std.specs.Prelude.{ℕ, zero, suc, ◌+◌, Bool, true, false, ◌&&◌, max, nat_le, if◌then◌else◌, List, [], ◌∷◌, ◌++◌, length, map, position, slice_get, unwrap_or, Option, None, Some, Result, Ok, Err}
use Rattle.std.specs.Option.{option_map, option_map_or, is_some}
use Rattle.std.specs.List.{list_all}
use Rattle.ckr_events.specs.declared.event.Made.{Made}
use Rattle.ckr_events.specs.declared.event.Piece.{Piece}
use Rattle.ckr_jcl.specs.declared.deck.Dd.{Dd}
use Rattle.ckr_jcl.specs.declared.deck.Status.{Status}
use Rattle.ckr_jcl.specs.declared.deck.Status.TheVariants.{New, Old, Shr, Mod}
use Rattle.ckr_library.specs.declared.sets.DataSet.{DataSet}
use Rattle.ckr_library.specs.declared.sets.Extent.{Extent}
use Rattle.ckr_library.specs.declared.sets.Part.{Part}
use Rattle.ckr_library.specs.declared.sets.Stamp.{Stamp}
use Rattle.ckr_library.specs.Catalog.{Holding, fresh_holding}
use Rattle.ckr_library.specs.NameMaps.{Name, Named, entry_at, same_name, with_entry}
use Rattle.ckr_volumes.specs.declared.layout.Layout.{Layout}
use Rattle.ckr_volumes.specs.declared.layout.NoSpace.{NoSpace as Lack}
use Rattle.ckr_volumes.specs.declared.layout.Volume.{Volume}
use Rattle.ckr_volumes.specs.Space.{allocated}
use Rattle.ckr_meaning.specs.Allotments.{AllotmentModel, found, made, refused, FlawModel, missing, exists, wrong_kind, DdAllotment, content_for, space_for}
use Rattle.ckr_points_library.specs.declared.cause.Cause.{Cause}
use Rattle.ckr_points_library.specs.declared.cause.Cause.TheVariants.{Missing, Exists, WrongKind, WrongVolume, NoVolume, NoSpace}
use Rattle.ckr_points_library.specs.declared.cause.Refusal.{Refusal}

abbrev pub cause_of : FlawModel → Cause
cause_of missing = Missing
cause_of exists = Exists
cause_of wrong_kind = WrongKind

-- ---- what a DD asks for

-- the space of each part
abbrev pub space_of : Dd → ℕ
space_of dd = unwrap_or dd.space 0

abbrev pub is_new : Status → Bool
is_new New = true
is_new Old = false
is_new Shr = false
is_new Mod = false

abbrev pub fits_space : Status → Option ℕ → Bool
fits_space New None = false
fits_space Old None = true
fits_space Shr None = true
fits_space Mod None = true
fits_space status (Some space) = nat_le 1 space && nat_le space 1000000

-- a DD that has a data set, as it comes from a deck: a record length of 1 to 256 bytes, a space that is given with NEW and is 1 to
-- 1,000,000 records, and at most one volume
abbrev pub fits_dd : Dd → Bool
fits_dd dd = nat_le 1 dd.lrecl && (nat_le dd.lrecl 256 && (fits_space dd.disp.status dd.space && nat_le (length dd.volumes.items) 1))

-- ---- the volumes

-- whether the volume of a number has this serial
abbrev pub is_serial_of : List Volume → ℕ → Name → Bool
is_serial_of volumes number serial = option_map_or (λ (volume : Volume). same_name serial volume.serial) (slice_get volumes number) false

-- whether the parts are on the volumes of these serials, in order
abbrev pub are_on_volumes : List Volume → List Name → List Part → Bool
are_on_volumes volumes [] [] = true
are_on_volumes volumes [] (part ∷ parts) = false
are_on_volumes volumes (serial ∷ serials) [] = false
are_on_volumes volumes (serial ∷ serials) (part ∷ parts) = is_serial_of volumes part.volume serial && are_on_volumes volumes serials parts

-- VOL, where it is given, names the volumes of the parts
abbrev pub is_where_asked : List Volume → List Name → List Part → Bool
is_where_asked volumes [] parts = true
is_where_asked volumes (serial ∷ serials) parts = are_on_volumes volumes (serial ∷ serials) parts

-- the number of the volume of a serial
abbrev pub volume_named : List Volume → Name → Option ℕ
volume_named volumes serial = position (λ (volume : Volume). same_name serial volume.serial) volumes

-- ---- the room on them

abbrev pub part_on : ℕ → ℕ → List Extent → Part
part_on volume space extents = record { volume = volume; extents = record { items = extents }; records = space }

abbrev pub part_of : ℕ → ℕ → Result (List Extent) Lack → Result Part Lack
part_of volume space (Ok extents) = Ok (part_on volume space extents)
part_of volume space (Err lack) = Err lack

-- a new part on a volume, beside these data sets
abbrev pub part_in : Layout → Named Holding → Dd → ℕ → Result Part Lack
part_in layout sets dd volume = part_of volume (space_of dd) (allocated layout (record { sets = sets; room = 0; entry_rooms = [] }) volume dd.lrecl (space_of dd))

abbrev pub here_or_later : Result Part Lack → Result Part Lack → Result Part Lack
here_or_later (Ok part) later = Ok part
here_or_later (Err lack) (Ok part) = Ok part
here_or_later (Err lack) (Err later) = Err (record { need = lack.need; free = max lack.free later.free })

-- on the first of so many volumes with room, from one on; else the largest hole of them all
abbrev pub first_with_room : Layout → Named Holding → Dd → ℕ → ℕ → Result Part Lack
first_with_room layout sets dd volume zero = Err (record { need = space_of dd; free = 0 })
first_with_room layout sets dd volume (suc count) = here_or_later (part_in layout sets dd volume) (first_with_room layout sets dd (volume + 1) count)

abbrev pub or_no_space : Result Part Lack → Result Part Cause
or_no_space (Ok part) = Ok part
or_no_space (Err lack) = Err (NoSpace lack.need lack.free)

abbrev pub part_at : Layout → Named Holding → Dd → Option ℕ → Result Part Cause
part_at layout sets dd None = Err NoVolume
part_at layout sets dd (Some volume) = or_no_space (part_in layout sets dd volume)

abbrev pub with_part : Result Part Cause → Result (List Part) Cause → Result (List Part) Cause
with_part (Err cause) others = Err cause
with_part (Ok part) (Err cause) = Err cause
with_part (Ok part) (Ok parts) = Ok (part ∷ parts)

-- a part for each serial, in order
abbrev pub parts_at : Layout → Named Holding → Dd → List Name → Result (List Part) Cause
parts_at layout sets dd [] = Ok []
parts_at layout sets dd (serial ∷ serials) = with_part (part_at layout sets dd (volume_named layout.volumes.items serial)) (parts_at layout sets dd serials)

-- the parts of a new data set: all volumes that VOL names are installed; without VOL it goes on the first volume with room
abbrev pub parts_for : Layout → Named Holding → Dd → List Name → Result (List Part) Cause
parts_for layout sets dd [] = with_part (or_no_space (first_with_room layout sets dd 0 (length layout.volumes.items))) (Ok [])
parts_for layout sets dd (serial ∷ serials) =
    if list_all (λ one. is_some (volume_named layout.volumes.items one)) (serial ∷ serials)
    then parts_at layout sets dd (serial ∷ serials)
    else Err NoVolume

-- the same where VOL names at most one
abbrev pub room_at : Layout → Named Holding → Dd → List Name → Result Part Cause
room_at layout sets dd [] = or_no_space (first_with_room layout sets dd 0 (length layout.volumes.items))
room_at layout sets dd (serial ∷ serials) = part_at layout sets dd (volume_named layout.volumes.items serial)

abbrev pub room_for : Layout → Named Holding → Dd → Result Part Cause
room_for layout sets dd = room_at layout sets dd dd.volumes.items

-- ---- a DD

abbrev pub found_parts : Layout → Dd → Option DataSet → Result (List Part) Cause
found_parts layout dd None = Ok []
found_parts layout dd (Some set) = if is_where_asked layout.volumes.items dd.volumes.items set.parts.items then Ok [] else Err WrongVolume

-- the new parts of a DD, none for one that is found
abbrev pub allocated_dd : Layout → Named Holding → Dd → Name → AllotmentModel → Result (List Part) Cause
allocated_dd layout sets dd name found = found_parts layout dd (option_map (λ (h : Holding). h.set) (entry_at sets name))
allocated_dd layout sets dd name made = parts_for layout sets dd dd.volumes.items
allocated_dd layout sets dd name (refused flaw) = Err (cause_of flaw)

-- a data set as a DD makes it
abbrev pub fresh_set : Stamp → Dd → List Part → DataSet
fresh_set stamp dd parts = record {
  parts = record { items = parts };
  cataloged = false;
  lrecl = dd.lrecl;
  space = space_for dd;
  length = 0;
  stamp = stamp;
  content = content_for dd.role;
}

abbrev pub with_new : Stamp → Dd → Name → List Part → Named Holding → Named Holding
with_new stamp dd name [] sets = sets
with_new stamp dd name (part ∷ parts) sets = with_entry name (fresh_holding (fresh_set stamp dd (part ∷ parts))) sets

-- ---- a step

-- what a step makes: the new parts, and the library with its new data sets
pub record Allocation : Type 0 where
  pub items : List Made
  pub sets : Named Holding

abbrev pub piece_of : Extent → Piece
piece_of extent = record { start = extent.start; records = extent.records }

-- where a part of the DD of a number lies
abbrev pub made_of : ℕ → Part → Made
made_of number part = record {
  dd = number;
  volume = part.volume;
  pieces = record { items = map piece_of part.extents.items };
}

abbrev pub behind : List Made → Result Allocation Refusal → Result Allocation Refusal
behind items (Ok done) = Ok (record done { items = items ++ done.items })
behind items (Err refusal) = Err refusal

abbrev pub then_more : ℕ → Result (List Part) Cause → (List Part → Result Allocation Refusal) → Result Allocation Refusal
then_more number (Err cause) more = Err (record { dd = number; cause = cause })
then_more number (Ok parts) more = behind (map (made_of number) parts) (more parts)

-- the first DD that isn't allocated, or what all of them make, each DD seeing the extents of those before
abbrev pub allocated_all : Layout → Stamp → List DdAllotment → Named Holding → Result Allocation Refusal
allocated_all layout stamp [] sets = Ok (record { items = []; sets = sets })
allocated_all layout stamp (placed ∷ rest) sets =
    then_more placed.number (allocated_dd layout sets placed.dd placed.name placed.allotment)
    (λ parts. allocated_all layout stamp rest (with_new stamp placed.dd placed.name parts sets))
