-- The lines of the runs.
use Rattle.std.specs.Prelude.{◌≡◌, ℕ, suc, List, Some, slice_get}
use Rattle.ckr_points.specs.declared.run.Run.{Run}

-- the line at each place, counted from 0, is that of the run whose number is one more
abbrev pub AreNumberedLines : List Run → Type 0
AreNumberedLines lines = (place : ℕ) (line : Run) → slice_get lines place ≡ Some line → line.number ≡ suc place
