-- What a unit of a running step leaves of an image.
use Rattle.std.proofs.Common.{◌≡◌, ◌≤◌, ℕ, List, length, ap, sym, ◌∙◌, subst, Some, arith}
use Rattle.std.specs.Prelude.{IsTrue}
use Rattle.std.proofs.lemmas.Option.{same_Some}
use Rattle.ckr_base.proofs.Bools.{bool-cases}
use Rattle.ckr_base.proofs.Options.{option-cases, some-not-none}
use Rattle.ckr_library.specs.declared.sets.DataSet.{DataSet}
use Rattle.ckr_library.specs.Catalog.{Catalog, set_of}
use Rattle.ckr_library.specs.NameMaps.{Name, Named, same_name, entry_at}
use Rattle.ckr_library.proofs.Named.{each-at, name-same}
use Rattle.ckr_meaning.specs.LibrarySet.{Library}
use Rattle.ckr_meaning.specs.EffectiveJob.{names_of}
use Rattle.ckr_meaning.specs.StepRun.{StepStart}
use Rattle.ckr_points.specs.Office.{Office}
use Rattle.ckr_points.specs.Rows.{TableSet}
use Rattle.ckr_points.specs.Soundness.{AreLaidOut}
use Rattle.ckr_steps.specs.Places.{ShowsWithin}
use Rattle.ckr_steps.specs.Writes.{IsShown, Keeps, LiesClear, Shows}
use Rattle.ckr_volumes.specs.declared.layout.Layout.{Layout}
use Rattle.ckr_volumes.specs.Places.{StretchModel, stretches_of, stretches_of_parts}
use Rattle.ckr_volumes.specs.Records.{records_on}
use Rattle.ckr_volumes.specs.SamePlaces.{SamePlaces, same_places}
use Rattle.ckr_volumes.specs.Layouts.{StandsIn, lie_apart, lists_apart}
use Rattle.ckr_desk_refines.specs.Commits.{HasCommitted, HasWithin}
use Rattle.ckr_desk_refines.specs.StepSets.{HasSets, LiesThere}

-- apart from a data set is apart from one in the same places
pub apart-there : (one two other : DataSet) → SamePlaces one two → IsTrue (lie_apart one other) → IsTrue (lie_apart two other)
apart-there one two other same apart =
    ap (λ (stretches : List StretchModel). lists_apart two.lrecl other.lrecl stretches (stretches_of other)) (ap stretches_of_parts same.parts)
    ∙ ap (λ (lrecl : ℕ). lists_apart lrecl other.lrecl (stretches_of one) (stretches_of other)) same.lrecl
    ∙ apart

module _ (layout : Layout) (tables : Named TableSet) (names : List Name) (sets : Catalog) (laid : AreLaidOut layout tables) (has : HasSets tables names sets) (old new : List ℕ) (keeps : Keeps layout sets old new) where
  -- a data set of the tables that the step doesn't have
  clear : (name : Name) (table : TableSet) → entry_at tables name ≡ Some table → ((set : DataSet) → set_of sets name ≡ Some set → ⊥) → LiesClear sets table.set
  clear name table e none other set is =
      let its = has.from other set is in
      apart-there its.0.set set table.set its.2.places
      (laid.apart other name its.0 table
      (bool-cases (same_name other name) (λ same. absurd (none set (ap (set_of sets) (sym (name-same other name same)) ∙ is))) (λ apart. apart))
      its.1 e)

  -- the committed records of a data set stay, and so do those of one that the step doesn't have
  pub table-kept : (name : Name) (table : TableSet) (n : ℕ) → entry_at tables name ≡ Some table → n ≤ table.set.length → records_on new layout table.set n ≡ records_on old layout table.set n
  table-kept name table n e within =
      option-cases (set_of sets name)
      (λ none. keeps.others table.set n (clear name table e (λ set is. some-not-none set (sym is ∙ none))) stands (omega (arith, within, stands.length_fits)))
      (λ set is.
      let its = has.from name set is in
      let same : its.0 ≡ table = same_Some its.0 table (sym its.1 ∙ e) in
      let lies : LiesThere table set = subst (λ (t : TableSet). LiesThere t set) same its.2 in
      sym (same_places new layout table.set set lies.places n)
      ∙ keeps.records name set n is (omega (arith, within, lies.longer))
      ∙ same_places old layout table.set set lies.places n)
    where
      stands : StandsIn layout table.set
      stands = each-at (λ (table : TableSet). StandsIn layout table.set) tables laid.stand name table e

  pub committed-kept : (office : Office) → office.tables.sets ≡ tables → HasCommitted layout office old → HasCommitted layout office new
  committed-kept office same had name table e plain =
      table-kept name table table.set.length (sym (ap (λ sets. entry_at sets name) same) ∙ e) (omega arith) ∙ had name table e plain

  -- what another running step has written stays
  pub others-shown : (told : Type 0) (theirs : List Name) (model : Library) (others : Catalog) → HasSets tables theirs others
      → ((name : Name) (set mine : DataSet) → set_of others name ≡ Some set → set_of sets name ≡ Some mine → set.length ≤ mine.length)
      → ((name : Name) (set : DataSet) → set_of others name ≡ Some set → set.length ≤ set.space)
      → Shows told old layout theirs model others → Shows told new layout theirs model others
  others-shown told theirs model others its shared fits shows name set among is plain =
      let shown : IsShown told old layout set others name = shows name set among is plain in
      let from = its.from name shown.set shown.is in
      record {
        set = shown.set;
        is = shown.is;
        shows = record {
          lrecl = shown.shows.lrecl;
          space = shown.shows.space;
          length = shown.shows.length;
          records = λ is_told. kept name shown.set from.0 shown.is from.1 from.2 ∙ shown.shows.records is_told;
        };
      }
    where
      kept : (name : Name) (set : DataSet) (table : TableSet) → set_of others name ≡ Some set → entry_at tables name ≡ Some table → LiesThere table set → records_on new layout set set.length ≡ records_on old layout set set.length
      kept name set table is e lies =
          option-cases (set_of sets name)
          (λ none.
          same_places new layout table.set set lies.places set.length
          ∙ keeps.others table.set set.length (clear name table e (λ mine here. some-not-none mine (sym here ∙ none)))
          (each-at (λ (table : TableSet). StandsIn layout table.set) tables laid.stand name table e)
          (let space : set.space ≡ table.set.space = lies.space in let fit : set.length ≤ set.space = fits name set is in omega (arith, space, fit))
          ∙ sym (same_places old layout table.set set lies.places set.length))
          (λ mine here.
          let there = has.from name mine here in
          let same : there.0 ≡ table = same_Some there.0 table (sym there.1 ∙ e) in
          let lies_here : LiesThere table mine = subst (λ (t : TableSet). LiesThere t mine) same there.2 in
          same_places new layout table.set set lies.places set.length
          ∙ sym (same_places new layout table.set mine lies_here.places set.length)
          ∙ keeps.records name mine set.length here (shared name set mine is here)
          ∙ same_places old layout table.set mine lies_here.places set.length
          ∙ sym (same_places old layout table.set set lies.places set.length))

-- what a running step shows of its writes is what an image has of them
pub within-shown : (told : Type 0) (image : List ℕ) (layout : Layout) (tables : Named TableSet) (start : StepStart) (writes : ℕ) (sets : Catalog) → told → HasSets tables (names_of start.root start.owned) sets → ShowsWithin told image layout start writes sets → HasWithin layout tables start writes image
within-shown told image layout tables start writes sets is_told has shows name table set among e is plain =
    let shown : IsShown told image layout set sets name = shows name set among is plain in
    let from = has.from name shown.set shown.is in
    let same : from.0 ≡ table = same_Some from.0 table (sym from.1 ∙ e) in
    let lies : LiesThere table shown.set = subst (λ (t : TableSet). LiesThere t shown.set) same from.2 in
    sym (same_places image layout table.set shown.set lies.places (length set.records))
    ∙ ap (λ (n : ℕ). records_on image layout shown.set n) (sym shown.shows.length)
    ∙ shown.shows.records is_told
