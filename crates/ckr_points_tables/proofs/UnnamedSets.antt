-- No data set of a library has an empty name.
use Rattle.std.proofs.Common.{◌≡◌, ℕ, true, [], ◌∷◌, slice_get, refl, ap, sym, ◌∙◌, Some, None}
use Rattle.std.specs.FinMap.Entries.{below_all}
use Rattle.std.proofs.lemmas.Bool.{false≢true}
use Rattle.std.proofs.lemmas.Option.{same_Some}
use Rattle.ckr_base.proofs.Bools.{and-first, and-second}
use Rattle.ckr_base.proofs.Options.{some-not-none}
use Rattle.ckr_base.specs.Grammar.{is_ds_name}
use Rattle.ckr_library.specs.Catalog.{Holding}
use Rattle.ckr_library.specs.NameMaps.{Name, Named, are_named_in_order, entry_at, name_cmp, names_of}

-- nothing that stands behind a name is under the empty one
pub below-unnamed : {X : Type 0} (x : ℕ) (rest : Name) (named : Named X) → below_all name_cmp (x ∷ rest) named ≡ true → entry_at named [] ≡ None
below-unnamed x rest [] below = refl
below-unnamed {X = X} x rest ((name, entry) ∷ named) below = by name below (below-unnamed x rest named (and-second _ _ below))
  where
    by : (name : Name) → below_all name_cmp (x ∷ rest) ((name, entry) ∷ named) ≡ true → entry_at named [] ≡ None → entry_at ((name, entry) ∷ named) [] ≡ None
    by [] below more = absurd (false≢true below)
    by (y ∷ name) below more = more

pub under-first : {X : Type 0} (name : Name) (entry : X) (named : Named X) → is_ds_name name ≡ true → are_named_in_order ((name, entry) ∷ named) ≡ true → entry_at ((name, entry) ∷ named) [] ≡ None
under-first [] entry named is order = absurd (false≢true is)
under-first (x ∷ name) entry named is order = below-unnamed x name named (and-first _ _ order)

-- by the first name
pub none-unnamed : (named : Named Holding) (first : Name) → Some first ≡ slice_get (names_of named) 0 → is_ds_name first ≡ true → are_named_in_order named ≡ true → entry_at named [] ≡ None
none-unnamed [] first at is order = refl
none-unnamed ((name, holding) ∷ named) first at is order = under-first name holding named (ap is_ds_name (sym (same_Some first name at)) ∙ is) order

-- nor where there is no name
pub none-first : (named : Named Holding) → None ≡ slice_get (names_of named) 0 → entry_at named [] ≡ None
none-first [] at = refl
none-first (first ∷ named) at = absurd (some-not-none _ (sym at))
