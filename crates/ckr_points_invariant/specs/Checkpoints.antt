-- Checkpoints that were taken: the entry that the event leaves, and the later events that don't cut it.
use Rattle.std.specs.Prelude.{◌≡◌, ℕ, Bool, true, false, List, [], ◌∷◌, Some}
use Rattle.std.specs.Option.{option_map_or}
use Rattle.ckr_library.specs.Catalog.{ends_within}
use Rattle.ckr_library.specs.declared.sets.Kept.{Kept}
use Rattle.ckr_library.specs.NameMaps.{Name, Named, entry_at}
use Rattle.ckr_meaning.specs.EffectiveJob.{OwnedStep}
use Rattle.ckr_points_library.specs.Commit.{output_names}
use Rattle.ckr_points.specs.Follows.{own_step}
use Rattle.ckr_points.specs.Office.{Office, office_after}
use Rattle.ckr_points.specs.Restart.{Decked, kept_at}
use Rattle.ckr_points.specs.Rows.{KeptEntry, RunRow, TableSet, run_of}
use Rattle.ckr_points.specs.Tables.{committed, entry_point, kept_entry}
use Rattle.ckr_points_invariant.specs.Invariant.{step_now}
use Rattle.ckr_points_invariant.specs.WrittenEntries.{check_set}

-- whether a data set stands under its name and reaches to the end of an entry
abbrev pub reaches_to_end : Named TableSet → Name → Kept → Bool
reaches_to_end sets set kept = option_map_or (λ table. ends_within table.set.length kept) (entry_at sets set) false

-- ---- a checkpoint is taken

-- the entry of a checkpoint that a run takes in a step: its point is taken with the lengths committed
abbrev pub taken_entry : Office → RunRow → OwnedStep → Kept → ℕ → ℕ → List ℕ → KeptEntry
taken_entry office row owned kept taken writes lengths =
    kept_entry kept (entry_point row owned (step_now row) taken writes (committed (output_names row.job.root owned) lengths office.tables.sets))

-- A run has taken a checkpoint in its step: behind the event the step's data set for checkpoints keeps the entry under its identifier, and
-- reaches to its end.
pub record HasTaken (office behind : Office) (kept : Kept) (taken writes : ℕ) (lengths : List ℕ) : Type 0 where
  pub row : RunRow
  pub owned : OwnedStep
  pub row_at : run_of office.tables kept.run ≡ Some row
  pub found : own_step row ≡ Some owned
  pub keeps : kept_at behind.tables.sets (check_set row owned) kept.id ≡ Some (taken_entry office row owned kept taken writes lengths)
  pub reaches : reaches_to_end behind.tables.sets (check_set row owned) kept ≡ true

-- ---- later events

-- Behind each of these events the data set stands under its name and reaches to the end of the entry: none of them deletes it, empties it or
-- puts it back to a length at which the entry isn't whole.
abbrev pub IsUncut : Name → Kept → List Decked → Office → Type 0
IsUncut set kept [] office = Unit {0}
IsUncut set kept (event ∷ later) office =
    (reaches_to_end (office_after event office).tables.sets set kept ≡ true) × IsUncut set kept later (office_after event office)
