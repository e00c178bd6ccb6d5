-- Allocation on small volumes, computed.
use Rattle.std.proofs.Common.{◌≡◌, ℕ, [], ◌∷◌, Ok, Err, refl}
use Rattle.ckr_library.specs.declared.spread.Span.{Span}
use Rattle.ckr_volumes.specs.Space.{placed_in, holes_from}

-- bytes of a volume
abbrev at_byte : ℕ → ℕ → Span
at_byte start bytes = record { volume = 0; start = start; bytes = bytes }

-- a volume of 1200 bytes with five records of 80 in the middle: two holes of five
eight : placed_in 80 8 (holes_from 0 1200 (at_byte 400 400 ∷ [])) ≡ Err (record { need = 8; free = 5 })
eight = refl

five : placed_in 80 5 (holes_from 0 1200 (at_byte 400 400 ∷ [])) ≡ Ok (record { start = 0; records = 5 } ∷ [])
five = refl

-- the lowest hole that holds the space, not the largest
lowest : placed_in 80 3 (holes_from 0 2000 (at_byte 160 400 ∷ at_byte 800 240 ∷ [])) ≡ Ok (record { start = 560; records = 3 } ∷ [])
lowest = refl

-- half a record is no room
rounded : placed_in 80 3 (holes_from 0 1200 (at_byte 0 960 ∷ at_byte 1199 1 ∷ [])) ≡ Err (record { need = 3; free = 2 })
rounded = refl

-- an extent of no records parts no hole
unparted : placed_in 80 15 (holes_from 0 1200 (at_byte 400 0 ∷ [])) ≡ Ok (record { start = 0; records = 15 } ∷ [])
unparted = refl

-- a full volume
full : placed_in 80 1 (holes_from 0 1200 (at_byte 0 1200 ∷ [])) ≡ Err (record { need = 1; free = 0 })
full = refl
