-- Each data set has records of at least one byte, and no more of them than have room; an event that follows keeps it so.
use Rattle.std.proofs.Common.{◌≤◌, arith, [], ◌∷◌, Bool, List}
use Rattle.ckr_events.specs.declared.event.Event.{Event}
use Rattle.ckr_library.specs.Catalog.{Holding}
use Rattle.ckr_library.specs.NameMaps.{EachEntry, Named}
use Rattle.ckr_points.specs.Rows.{TableSet}
use Rattle.ckr_points_runs.specs.RunChange.{Going, changed, holding_kit}
use Rattle.ckr_points_runs.specs.PutBack.{IsFilled}
use Rattle.ckr_points_tables.specs.Invariant.{IsWide}
use Rattle.ckr_points_tables.specs.View.{Writings, seen_under, table_in}
use Rattle.ckr_points_tables.proofs.EachSet.{IsKeptBy, MayMakeBy, changed-each}

abbrev pub AreWide : Named Holding → Type 0
AreWide sets = EachEntry IsWide sets

abbrev pub AreFilled : Named Holding → Type 0
AreFilled sets = EachEntry IsFilled sets

pub wide-kept : IsKeptBy IsWide
wide-kept = record {
  cuts = λ most holding fits is. is;
  marks = λ on holding is. is;
  stamps = λ stamp holding is. is;
  keeps = λ kept holding is. is;
  makes = λ stamp dd parts wide. wide;
}

pub filled-kept : IsKeptBy IsFilled
filled-kept = record {
  cuts = λ most holding fits is. fits;
  marks = λ on holding is. is;
  stamps = λ stamp holding is. is;
  keeps = λ kept holding is. is;
  makes = λ stamp dd parts wide. omega arith;
}

-- an event that follows keeps the data sets wide, and within their space
pub changed-wide : (earlier : List Bool) (event : Event) (now : Going Holding) → MayMakeBy event now → AreWide now.sets → AreWide (changed holding_kit earlier event now).sets
changed-wide earlier event now may wide = changed-each IsWide wide-kept earlier event now may wide

pub changed-filled : (earlier : List Bool) (event : Event) (now : Going Holding) → MayMakeBy event now → AreFilled now.sets → AreFilled (changed holding_kit earlier event now).sets
changed-filled earlier event now may filled = changed-each IsFilled filled-kept earlier event now may filled

-- as the tables see them
pub seen-wide : (writings : Writings) (sets : Named Holding) → AreWide sets → EachEntry (λ (table : TableSet). 1 ≤ table.set.lrecl) (seen_under (table_in writings) sets)
seen-wide writings [] wide = tt
seen-wide writings (entry ∷ sets) wide = (wide.0, seen-wide writings sets wide.1)
