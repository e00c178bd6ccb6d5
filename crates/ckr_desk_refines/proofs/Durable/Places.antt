-- What an image has of the data sets goes on where a run comes to a place within its step.
use Rattle.std.proofs.Common.{◌≡◌, ℕ, true, false, List, length, ap, sym, ◌∙◌, Some}
use Rattle.std.specs.Option.{option_map}
use Rattle.ckr_base.proofs.Bools.{bool-cases}
use Rattle.ckr_library.specs.declared.sets.Content.TheVariants.{Plain}
use Rattle.ckr_library.specs.NameMaps.{Name, Named, entry_at}
use Rattle.ckr_meaning.specs.Dispositions.{Stock}
use Rattle.ckr_meaning.specs.EffectiveJob.{OwnedStep, is_among, names_of, step_at}
use Rattle.ckr_meaning.specs.LibrarySet.{LibrarySet}
use Rattle.ckr_meaning.specs.declared.place.Place.TheVariants.{Within}
use Rattle.ckr_meaning.specs.JobRun.{at}
use Rattle.ckr_meaning.specs.StepRun.{StepStart, within_at}
use Rattle.ckr_points.specs.Office.{Leg, Office, model_records}
use Rattle.ckr_points.specs.Restart.{place_of}
use Rattle.ckr_points.specs.Rows.{RunRow, TableSet}
use Rattle.ckr_points_invariant.specs.Invariant.{AreAlike, HasBegun, IsHolder, IsKept, Shape, set_shape, table_shape}
use Rattle.ckr_points_invariant.specs.RunningSteps.{its_start}
use Rattle.ckr_points_invariant.proofs.Holders.Moves.{standing-is}
use Rattle.ckr_points_invariant.proofs.Stamps.Tables.{alike_set, reached-now}
use Rattle.ckr_points_invariant.proofs.Steps.Walks.{at-within}
use Rattle.ckr_volumes.specs.declared.layout.Layout.{Layout}
use Rattle.ckr_volumes.specs.Records.{records_on}
use Rattle.ckr_volumes.specs.SamePlaces.{SamePlaces, same_places}
use Rattle.ckr_desk_refines.specs.Commits.{HasCommitted, HasWithin}
use Rattle.ckr_desk_refines.specs.Origins.Stems.{stays, written}
use Rattle.ckr_desk_refines.proofs.Durable.Stamps.{LegsStay, as-office, counted-plain, goes-on}
use Rattle.ckr_desk_refines.proofs.Durable.StepEnd.{part-itself}

-- a data set that lies where an earlier one of its name lay
abbrev pub LiesAs : Named TableSet → Name → TableSet → Type 0
LiesAs sets name table = (old : TableSet) × (entry_at sets name ≡ Some old) × SamePlaces old.set table.set

module _ (layout : Layout) (old new : Office) (image : List ℕ) (kept : IsKept layout old) (later : IsKept layout new) (legs : LegsStay old new) (had : HasCommitted layout old image)
    (job : ℕ) (row : RunRow) (leg : Leg) (owned : OwnedStep) (step writes : ℕ) (holder : IsHolder new job row leg) (stands : place_of row ≡ Within step writes) (found : step_at leg.job step ≡ Some owned)
    (reach : (name : Name) → is_among (names_of leg.job.root owned) name ≡ true → is_among leg.reach name ≡ true)
    (lies : (name : Name) (table : TableSet) → entry_at new.tables.sets name ≡ Some table → LiesAs old.tables.sets name table)
    (others : (name : Name) → is_among (names_of leg.job.root owned) name ≡ false → entry_at new.tables.sets name ≡ entry_at old.tables.sets name) where
  abbrev start : StepStart
  start = its_start leg owned step

  alike-within : (name : Name) → is_among leg.reach name ≡ true → AreAlike new.tables.sets (within_at start writes) name
  alike-within name among =
      later.events.held job row leg name holder among
      ∙ ap (λ (standing : Stock LibrarySet). option_map set_shape (entry_at standing.sets name)) (standing-is new job row leg holder.row_at holder.leg_at ∙ ap (at leg.job leg.start) stands)
      ∙ ap (λ library. option_map set_shape (entry_at library name)) (at-within leg.job leg.start step writes owned found)

  begun-within : (name : Name) (set : LibrarySet) → entry_at (within_at start writes) name ≡ Some set → HasBegun new name set
  begun-within name set e =
      later.stamps.places job leg (place_of row) holder.leg_at (reached-now new.tables row leg (later.events.places job row leg holder)) name set
      (ap (λ library. entry_at library name) (ap (λ (standing : Stock LibrarySet). standing.sets) (ap (at leg.job leg.start) stands) ∙ at-within leg.job leg.start step writes owned found) ∙ e)

  inside : HasWithin layout old.tables.sets start writes image → (name : Name) (table : TableSet) → entry_at new.tables.sets name ≡ Some table → table.set.content ≡ Plain → is_among (names_of leg.job.root owned) name ≡ true → records_on image layout table.set table.set.length ≡ model_records new name
  inside has name table e plain among =
      let its = alike_set table (entry_at (within_at start writes) name) (ap (option_map table_shape) (sym e) ∙ alike-within name (reach name among)) in
      let set : LibrarySet = its.0 in
      let there : set.content ≡ Plain = ap (λ (shape : Shape). shape.content) (sym its.2) ∙ plain in
      let long : table.set.length ≡ length set.records =
      sym (counted-plain table.set.content table.set.length plain) ∙ ap (λ (shape : Shape). shape.length) its.2 ∙ counted-plain set.content (length set.records) there in
      let from = lies name table e in
      same_places image layout from.0.set table.set from.2 table.set.length
      ∙ ap (λ (n : ℕ). records_on image layout from.0.set n) long
      ∙ has name from.0 set among from.1 its.1 there
      ∙ sym (as-office layout new name table set later e plain its.2 (begun-within name set its.1))

  -- an image that has what was committed, and what the step has written, has what is committed then
  pub within-has : HasWithin layout old.tables.sets start writes image → HasCommitted layout new image
  within-has has =
      goes-on layout old new image kept later legs had
      (λ name table e plain.
      bool-cases (is_among (names_of leg.job.root owned) name)
      (λ among. written (inside has name table e plain among))
      (λ out. stays table (sym (others name out) ∙ e) (part-itself table)))
