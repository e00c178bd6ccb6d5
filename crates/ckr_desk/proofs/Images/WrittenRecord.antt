-- A record that an event tells, written in its place, leaves the records of the data sets that keep entries.
use Rattle.std.proofs.Common.{◌≡◌, ◌≤◌, ℕ, Bool, List, refl, ap, subst, Option, None, Some}
use Rattle.std.specs.Prelude.{IsTrue}
use Rattle.ckr_base.proofs.Bools.{bool-cases}
use Rattle.ckr_events.specs.declared.event.Event.{Event}
use Rattle.ckr_events.specs.declared.event.Event.TheVariants.{Rewritten}
use Rattle.ckr_library.specs.declared.sets.DataSet.{DataSet}
use Rattle.ckr_points.specs.Rows.{TablesModel}
use Rattle.ckr_points.specs.Soundness.{AreLaidOut}
use Rattle.ckr_desk_refines.proofs.Entries.Images.{written-kept}
use Rattle.ckr_desk_refines.specs.Entries.{OnlyCheckSetsKeep, SameKept}
use Rattle.ckr_volumes.specs.declared.layout.Layout.{Layout}
use Rattle.ckr_volumes.specs.Layouts.{StandsIn, lie_apart}
use Rattle.ckr_volumes.specs.Records.{records_on}
use Rattle.ckr_desk.proofs.Openings.LastRecord.{IsDue, due}
use Rattle.ckr_desk.specs.Replay.{IsWrittenAgain, IsWrittenIf, LacksLast, has_record}
use Rattle.ckr_desk.specs.Rewrite.{IsWrittenBy, LacksAtMost}

-- the record that an event tells, if it tells one, is of a data set that holds records
abbrev pub TellsRecord : TablesModel → Event → Type 0
TellsRecord tables (Rewritten job taken writes lengths place image) = IsDue tables (Rewritten job taken writes lengths place image)
TellsRecord tables _ = Unit {0}

module _ (layout : Layout) (tables : TablesModel) (laid : AreLaidOut layout tables.sets) (checks : OnlyCheckSetsKeep tables.sets) where
  pub same-kept : (old new : List ℕ) → new ≡ old → SameKept layout tables.sets old new
  same-kept old new same name table at some = ap (λ (bytes : List ℕ). records_on bytes layout table.set table.set.length) same

  others-kept : (event : Event) (is : IsDue tables event) (old new : List ℕ)
      → ((other : DataSet) → StandsIn layout other → IsTrue (lie_apart is.table.set other) → (n : ℕ) → n ≤ other.space → records_on new layout other n ≡ records_on old layout other n)
      → SameKept layout tables.sets old new
  others-kept event is old new others =
      written-kept layout tables.sets laid old new is.its.name is.table is.at is.table.set (record { parts = refl; lrecl = refl })
      (λ other n stands apart le. others other stands apart n le) (λ some. absurd (some (checks is.its.name is.table is.at is.plain)))

  pub due-written : (event : Event) → IsDue tables event → (old new : List ℕ) → IsWrittenBy layout tables event old new → SameKept layout tables.sets old new
  due-written event is old new written = others-kept event is old new (is.written layout old new written).others

  pub due-lacking : (event : Event) → IsDue tables event → (old image : List ℕ) → LacksAtMost layout tables event old image → SameKept layout tables.sets old image
  due-lacking event is old image lacks = others-kept event is old image (is.lacks layout old image lacks).others

  pub told-written : (event : Event) → TellsRecord tables event → (old new : List ℕ) → IsWrittenBy layout tables event old new → SameKept layout tables.sets old new
  told-written (Rewritten job taken writes lengths place image) tells old new written = due-written (Rewritten job taken writes lengths place image) tells old new written
  told-written _ tells old new written = same-kept old new written

  pub told-lacking : (event : Event) → TellsRecord tables event → (old image : List ℕ) → LacksAtMost layout tables event old image → SameKept layout tables.sets old image
  told-lacking (Rewritten job taken writes lengths place bytes) tells old image lacks = due-lacking (Rewritten job taken writes lengths place bytes) tells old image lacks
  told-lacking _ tells old image lacks = absurd lacks

  -- the record that the last event tells is written again, if the tables have it
  pub same-again : (last : Option Event) (old new : List ℕ) → IsWrittenAgain layout tables last old new → SameKept layout tables.sets old new
  same-again None old new written = same-kept old new written
  same-again (Some event) old new written =
      bool-cases (has_record tables event)
      (λ has. due-written event (due tables event has) old new (subst (λ (b : Bool). IsWrittenIf b layout tables event old new) has written))
      (λ none. same-kept old new (subst (λ (b : Bool). IsWrittenIf b layout tables event old new) none written))

  pub same-lacking : (last : Option Event) (old image : List ℕ) → LacksLast layout tables last old image → SameKept layout tables.sets old image
  same-lacking None old image lacks = absurd lacks
  same-lacking (Some event) old image lacks = due-lacking event (due tables event lacks.0) old image lacks.1
