-- What stays of an image where records are written behind the last one of a data set for checkpoints.
use Rattle.std.proofs.Common.{◌≡◌, ◌≤◌, inl, ℕ, List, ap, sym, ◌∙◌, subst, Some, arith}
use Rattle.std.specs.Prelude.{false}
use Rattle.std.proofs.lemmas.Option.{same_Some}
use Rattle.ckr_base.proofs.Bools.{bool-cases}
use Rattle.ckr_library.specs.declared.sets.DataSet.{DataSet}
use Rattle.ckr_library.specs.Catalog.{Catalog, set_of}
use Rattle.ckr_library.specs.NameMaps.{Name, Named, entry_at, same_name}
use Rattle.ckr_library.proofs.Named.{each-at, name-same, name-turned}
use Rattle.ckr_points.specs.Rows.{TableSet}
use Rattle.ckr_points.specs.Soundness.{AreLaidOut}
use Rattle.ckr_steps.specs.EntryRecords.{SameRecordsOutside}
use Rattle.ckr_steps.specs.Writes.{Keeps}
use Rattle.ckr_volumes.specs.declared.layout.Layout.{Layout}
use Rattle.ckr_volumes.specs.Layouts.{StandsIn}
use Rattle.ckr_volumes.specs.Lists.{same_records}
use Rattle.ckr_volumes.specs.Records.{records_on}
use Rattle.ckr_volumes.specs.SamePlaces.{SamePlaces, same_places}
use Rattle.ckr_desk_refines.specs.StepSets.{HasSets, LiesThere}
use Rattle.ckr_desk_refines.proofs.Durable.Units.{apart-there}

module _ (layout : Layout) (tables : Named TableSet) (laid : AreLaidOut layout tables) (names : List Name) (sets : Catalog) (has : HasSets tables names sets)
    (spaced : (name : Name) (set : DataSet) → set_of sets name ≡ Some set → set.length ≤ set.space)
    (check : Name) (table : TableSet) (at : entry_at tables check ≡ Some table) (own : DataSet) (here : set_of sets check ≡ Some own) (long : own.length ≡ table.set.length)
    (set : DataSet) (places : SamePlaces table.set set) (space : set.space ≡ table.set.space) (count : ℕ) (old new : List ℕ) (outside : SameRecordsOutside layout set table.set.length count old new) where
  stands_in : (name : Name) (table : TableSet) → entry_at tables name ≡ Some table → StandsIn layout table.set
  stands_in name table e = each-at (λ (table : TableSet). StandsIn layout table.set) tables laid.stand name table e

  lies_own : LiesThere table own
  lies_own = let from = has.from check own here in subst (λ (t : TableSet). LiesThere t own) (same_Some from.0 table (sym from.1 ∙ at)) from.2

  -- the records of the data set for checkpoints stay, up to its length
  own_records : (n : ℕ) → n ≤ own.length → records_on new layout own n ≡ records_on old layout own n
  own_records n fits =
      let most : table.set.length ≤ table.set.space = (stands_in check table at).length_fits in
      same_places new layout table.set own lies_own.places n
      ∙ sym (same_places new layout table.set set places n)
      ∙ same_records old new layout set n (λ q less. outside.records q (omega (arith, less, fits, long, most, space)) (inl (omega (arith, less, fits, long))))
      ∙ same_places old layout table.set set places n
      ∙ sym (same_places old layout table.set own lies_own.places n)

  other_records : (name : Name) (its : DataSet) (n : ℕ) → set_of sets name ≡ Some its → n ≤ its.length → same_name name check ≡ false → records_on new layout its n ≡ records_on old layout its n
  other_records name its n e fits apart =
      let from = has.from name its e in
      let lies : LiesThere from.0 its = from.2 in
      let most : its.length ≤ its.space = spaced name its e in
      let wide : its.space ≡ from.0.set.space = lies.space in
      same_places new layout from.0.set its lies.places n
      ∙ outside.others from.0.set n (stands_in name from.0 from.1)
      (apart-there table.set set from.0.set places (laid.apart check name table from.0 (name-turned check name ∙ apart) at from.1)) (omega (arith, fits, most, wide))
      ∙ sym (same_places old layout from.0.set its lies.places n)

  pub keeps-outside : Keeps layout sets old new
  keeps-outside = record {
    records = λ name its n e fits.
        bool-cases (same_name name check)
        (λ same.
        let mine : own ≡ its = same_Some own its (sym here ∙ ap (set_of sets) (sym (name-same name check same)) ∙ e) in
        subst (λ (s : DataSet). n ≤ s.length → records_on new layout s n ≡ records_on old layout s n) mine (own_records n) fits)
        (λ apart. other_records name its n e fits apart);
    others = λ other n clear stands fits.
        outside.others other n stands
        (apart-there own set other (record { parts = places.parts ∙ sym lies_own.places.parts; lrecl = places.lrecl ∙ sym lies_own.places.lrecl }) (clear check own here)) fits;
    front = outside.front;
  }
