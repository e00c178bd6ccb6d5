-- How many entries are counted: of a run, those of its events so far; of the point of a step, those before the step; of an entry, itself too.
use Rattle.std.specs.Prelude.{◌≡◌, ◌==◌, ℕ, suc, Bool, false, List, ◌∷◌, ◌++◌, filter, length, None}
use Rattle.std.specs.List.{AllByRecursion}
use Rattle.ckr_events.specs.declared.event.Event.{Event}
use Rattle.ckr_events.specs.declared.event.Event.TheVariants.{Checkpointed, Started}
use Rattle.ckr_library.specs.declared.sets.Kept.{Kept}
use Rattle.ckr_points.specs.Office.{Office, leg_of}
use Rattle.ckr_points.specs.Restart.{Decked}
use Rattle.ckr_points.specs.Rows.{KeptEntry, StartPoint, TablesModel}
use Rattle.ckr_points_invariant.specs.Invariant.{PointsHold}

-- whether a run has written an entry by an event
abbrev pub is_entry_of : ℕ → Event → Bool
is_entry_of run (Checkpointed job id taken writes lengths place bytes) = run == job
is_entry_of run _ = false

-- the entries that a run has written by some events
abbrev pub entries_by : ℕ → List Decked → ℕ
entries_by run events = length (filter (λ event. is_entry_of run event.0) events)

-- one of the events is such, and the run had written so many entries before it
pub record ComesBehind (events : List Decked) (run : ℕ) (IsSuch : Event → Type 0) (count : ℕ) : Type 0 where
  pub before : List Decked
  pub event : Decked
  pub later : List Decked
  pub split : events ≡ before ++ event ∷ later
  pub such : IsSuch event.0
  pub counts : count ≡ entries_by run before

-- the start of a step of a run
abbrev pub IsStartOf : ℕ → ℕ → Event → Type 0
IsStartOf run step (Started job number items) = (job ≡ run) × (number ≡ step)
IsStartOf run step _ = ⊥

-- the checkpoint by which an entry came to be
abbrev pub IsWritingOf : Kept → Event → Type 0
IsWritingOf kept (Checkpointed job id taken writes lengths place bytes) = kept ≡ record { id = id; run = job; place = place; bytes = bytes }
IsWritingOf kept _ = ⊥

abbrev pub AreStepsCounted : List Decked → ℕ → List StartPoint → Type 0
AreStepsCounted events run points = AllByRecursion (λ (point : StartPoint). ComesBehind events run (IsStartOf run point.step) point.count) points

pub record IsEntryCounted (events : List Decked) (entry : KeptEntry) : Type 0 where
  pub before : ℕ
  pub counts : entry.point.count ≡ suc before
  pub comes : ComesBehind events entry.point.run (IsWritingOf entry.kept) before

abbrev pub AreEntriesCounted : List Decked → List KeptEntry → Type 0
AreEntriesCounted events entries = AllByRecursion (IsEntryCounted events) entries

-- a run has counted the entries that it has written, and each of its points those before its step
pub record IsRunCounted (events : List Decked) (run count : ℕ) (points : List StartPoint) : Type 0 where
  pub counts : count ≡ entries_by run events
  pub steps : AreStepsCounted events run points

-- so it is with each run of the tables, and with each entry that a data set keeps
abbrev pub ArePointsCounted : List Decked → TablesModel → Type 0
ArePointsCounted events tables = PointsHold (IsRunCounted events) (AreEntriesCounted events) tables

-- a run that was never selected has written none
pub record AreCounted (events : List Decked) (office : Office) : Type 0 where
  pub points : ArePointsCounted events office.tables
  pub unled : (run : ℕ) → leg_of office run ≡ None → entries_by run events ≡ 0
