-- The serials of a line.
use Rattle.std.specs.Prelude.{ℕ, List, [], ◌∷◌, slice_get}
use Rattle.std.specs.Option.{option_map_or}
use Rattle.ckr_library.specs.declared.sets.Part.{Part}
use Rattle.ckr_volumes.specs.declared.layout.Layout.{Layout}
use Rattle.ckr_volumes.specs.declared.layout.Volume.{Volume}

-- the serial of a volume by its number, where the layout has it
abbrev pub serial_of : Layout → ℕ → List ℕ
serial_of layout volume = option_map_or (λ (installed : Volume). installed.serial) (slice_get layout.volumes.items volume) []

-- the serial of the volume of the first part
abbrev pub serial_of_parts : Layout → List Part → List ℕ
serial_of_parts layout [] = []
serial_of_parts layout (part ∷ rest) = serial_of layout part.volume
