-- The stretches that the items give for a DD, as the code has them.
use Rattle.std.specs.Prelude.{ℕ, ◌==◌, ◌+◌, ◌&&◌, Bool, true, if◌then◌else◌, List, [], ◌∷◌, ◌++◌, map}
use Rattle.std.specs.List.{list_all}
use Rattle.ckr_events.specs.declared.event.Made.{Made}
use Rattle.ckr_events.specs.declared.event.Piece.{Piece}
use Rattle.ckr_volumes.specs.Places.{StretchModel as StretchOfSet}
use Rattle.ckr_volumes.specs.Layouts.{are_apart}
use Rattle.ckr_points_clearance.specs.declared.stretches.Stretch.{Stretch}

abbrev pub stretch_now : Stretch → StretchOfSet
stretch_now one = record { volume = one.volume; start = one.start; records = one.records }

abbrev pub stretch_in : ℕ → Piece → Stretch
stretch_in volume piece = record { volume = volume; start = piece.start; records = piece.records }

-- those of a DD's items, in their order
abbrev pub gathered : ℕ → List Made → List Stretch
gathered number [] = []
gathered number (item ∷ items) =
    if item.dd == number then map (stretch_in item.volume) item.pieces.items ++ gathered number items else gathered number items

abbrev pub records_of_all : List Stretch → ℕ
records_of_all [] = 0
records_of_all (one ∷ rest) = one.records + records_of_all rest

-- a stretch lies apart from each of these
abbrev pub apart_from : ℕ → ℕ → Stretch → List Stretch → Bool
apart_from lrecl other_lrecl one others = list_all (λ (other : Stretch). are_apart lrecl other_lrecl (stretch_now one) (stretch_now other)) others

-- they lie apart from one another
abbrev pub each_apart : ℕ → List Stretch → Bool
each_apart lrecl [] = true
each_apart lrecl (one ∷ rest) = apart_from lrecl lrecl one rest && each_apart lrecl rest
