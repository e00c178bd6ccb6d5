-- What a disk keeps while the records of an entry are written.
use Rattle.std.proofs.Common.{◌≡◌, ℕ, Bool, true, false, cond, List, [], ◌∷◌, Some, None, refl, ap, sym, ◌∙◌, subst}
use Rattle.std.specs.Option.{option_map}
use Rattle.std.proofs.lemmas.Bool.{false≢true}
use Rattle.std.proofs.lemmas.Option.{same_Some}
use Rattle.ckr_base.proofs.Options.{some-not-none}
use Rattle.ckr_library.specs.declared.sets.DataSet.{DataSet}
use Rattle.ckr_library.specs.Catalog.{Catalog, Holding, fresh_holding, set_of}
use Rattle.ckr_library.specs.NameMaps.{Name, same_name}
use Rattle.ckr_library.proofs.Named.{name-itself, name-same}
use Rattle.ckr_steps.specs.EntryRecords.{ChangesRecords}
use Rattle.ckr_steps.specs.Inputs.{AreStored}
use Rattle.ckr_steps.specs.Writes.{ChangesKeeping}
use Rattle.ckr_steps.proofs.EntryRecords.{records-keeping}
use Rattle.ckr_volumes.specs.declared.layout.Layout.{Layout}
use Rattle.ckr_volumes.specs.Layouts.{StandsIn}

-- a library of one data set
abbrev pub alone : DataSet → Catalog
alone set = record { sets = ([], fresh_holding set) ∷ []; room = 0; entry_rooms = [] }

alone-named : (set other : DataSet) (name : Name) → set_of (alone set) name ≡ Some other → (same_name name [] ≡ true) × (other ≡ set)
alone-named set other name is = by (same_name name []) is
  where
    by : (b : Bool) → option_map (λ (h : Holding). h.set) (cond b (Some (fresh_holding set)) None) ≡ Some other → (b ≡ true) × (other ≡ set)
    by true e = (refl, sym (same_Some set other e))
    by false e = absurd (some-not-none other (sym e))

alone-stored : (layout : Layout) (set : DataSet) → StandsIn layout set → AreStored layout (alone set)
alone-stored layout set stands = record {
  stands = λ name other is. subst (StandsIn layout) (sym (alone-named set other name is).1) stands;
  apart = λ one other first second differ first_is second_is.
      absurd (false≢true (sym differ
      ∙ ap (λ n. same_name n other) (name-same one [] (alone-named set first one first_is).0)
      ∙ ap (same_name []) (name-same other [] (alone-named set second other second_is).0)
      ∙ name-itself []));
}

-- what an entry's records leave, in the words of a library of their data set
pub alone-keeping : {D : Type 0} (told : Type 0) (content : D → List ℕ) (may_leave : D → List ℕ → Type 0) (moment : D → ℕ) (left_since : D → ℕ → List ℕ → Type 0) (layout : Layout) (set : DataSet) (count : ℕ) (old new : D) → StandsIn layout set
    → ChangesRecords told content may_leave moment left_since layout set set.length count old new → ChangesKeeping told content may_leave moment left_since layout (alone set) old new
alone-keeping told content may_leave moment left_since layout set count old new stands changes =
    records-keeping layout [] set (alone set) count (alone-stored layout set stands) refl told content may_leave moment left_since old new changes
