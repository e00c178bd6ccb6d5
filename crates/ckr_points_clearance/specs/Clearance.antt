-- Whether a stretch lies apart from what data sets take of its volume.
use Rattle.std.specs.Prelude.{ℕ, Bool}
use Rattle.std.specs.List.{list_all}
use Rattle.ckr_library.specs.NameMaps.{Named}
use Rattle.ckr_points.specs.Rows.{TableSet}
use Rattle.ckr_volumes.specs.Places.{StretchModel, stretches_of}
use Rattle.ckr_volumes.specs.Layouts.{are_apart}

-- a stretch lies apart from each data set
abbrev pub clears : Named TableSet → ℕ → StretchModel → Bool
clears sets lrecl one = list_all (λ entry. list_all (are_apart lrecl entry.1.set.lrecl one) (stretches_of entry.1.set)) sets
