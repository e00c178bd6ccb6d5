-- The holes of a volume, and the space for a new part on it.
use Rattle.std.specs.Prelude.{ℕ, Bool, ◌&&◌, ◌+◌, ◌-◌, ◌/◌, ◌==◌, nat_le, nat_lt, max, if◌then◌else◌, List, [], ◌∷◌, ◌++◌, Option, Some, None, find, Result, Ok, Err}
use Rattle.std.specs.List.{list_all}
use Rattle.ckr_library.specs.declared.sets.Extent.{Extent}
use Rattle.ckr_library.specs.declared.spread.Span.{Span}
use Rattle.ckr_library.specs.Catalog.{Catalog}
use Rattle.ckr_library.specs.Spread.{is_clear, span_end, spread_on}
use Rattle.ckr_volumes.specs.declared.layout.Layout.{Layout}
use Rattle.ckr_volumes.specs.declared.layout.NoSpace.{NoSpace}
use Rattle.ckr_volumes.specs.declared.space.Hole.{Hole}
use Rattle.ckr_volumes.specs.Places.{bytes_of}

-- the bytes from one up to another, if there are any
abbrev pub hole_between : ℕ → ℕ → List Hole
hole_between from to = if nat_lt from to then record { from = from; to = to } ∷ [] else []

-- the largest runs of bytes from one up to the end that lie in no span, where the spans come in ascending order of their starts;
-- a span of no bytes parts nothing
abbrev pub holes_from : ℕ → ℕ → List Span → List Hole
holes_from from end [] = hole_between from end
holes_from from end (span ∷ spans) =
    if span.bytes == 0 then holes_from from end spans
    else hole_between from span.start ++ holes_from (max from (span_end span)) end spans

-- how many records have room in a hole
abbrev pub room_in : ℕ → Hole → ℕ
room_in lrecl hole = (hole.to - hole.from) / lrecl

-- the most records that one hole has room for
abbrev pub largest : ℕ → List Hole → ℕ
largest lrecl [] = 0
largest lrecl (hole ∷ holes) = max (room_in lrecl hole) (largest lrecl holes)

abbrev pub at_front : ℕ → ℕ → Option Hole → Result (List Extent) NoSpace
at_front space free (Some hole) = Ok (record { start = hole.from; records = space } ∷ [])
at_front space free None = Err (record { need = space; free = free })

-- one extent at the front of the lowest hole that holds the space, else the room of the largest hole, where holes of room for so many came before
abbrev pub placed_after : ℕ → ℕ → ℕ → List Hole → Result (List Extent) NoSpace
placed_after lrecl space free holes = at_front space (max free (largest lrecl holes)) (find (λ hole. nat_le space (room_in lrecl hole)) holes)

-- the same where none came before
abbrev pub placed_in : ℕ → ℕ → List Hole → Result (List Extent) NoSpace
placed_in lrecl space holes = at_front space (largest lrecl holes) (find (λ hole. nat_le space (room_in lrecl hole)) holes)

-- whether a span ends at this byte or before
abbrev pub ends_by : ℕ → Span → Bool
ends_by end span = nat_le (span_end span) end

-- whether these bytes of a volume are inside it, and lie in no extent of a data set
abbrev pub is_free : Layout → Catalog → ℕ → ℕ → ℕ → Bool
is_free layout catalog volume from bytes = nat_le (from + bytes) (bytes_of layout.volumes.items volume) && list_all (is_clear from bytes) (spread_on volume catalog.sets)

-- the holes of a volume
abbrev pub holes_of : Layout → Catalog → ℕ → List Hole
holes_of layout catalog volume = holes_from 0 (bytes_of layout.volumes.items volume) (spread_on volume catalog.sets)

-- the extents of a new part on a volume
abbrev pub allocated : Layout → Catalog → ℕ → ℕ → ℕ → Result (List Extent) NoSpace
allocated layout catalog volume lrecl space = placed_in lrecl space (holes_of layout catalog volume)
