-- Columns of a record, and a record as a data set takes it.
use Rattle.std.specs.Prelude.{ℕ, ◌-◌, List, ◌++◌, take, drop, replicate}

-- exactly so many bytes: cut, or filled with blanks
abbrev pub fitted : ℕ → List ℕ → List ℕ
fitted count bytes = take count (bytes ++ replicate count 32)

-- so many columns from a column on, counted from 1; a column beyond the record is a blank
abbrev pub columns : ℕ → ℕ → List ℕ → List ℕ
columns from count bytes = fitted count (drop (from - 1) bytes)
