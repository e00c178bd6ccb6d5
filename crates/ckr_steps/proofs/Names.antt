-- Names, and what stands under a name once something is changed.
use Rattle.std.proofs.Common.{◌≡◌, cond, Option, Some, None, refl, ap, sym, ◌∙◌}
use Rattle.std.specs.Option.{option_map}
use Rattle.std.specs.Prelude.{IsSomeAnd}
use Rattle.std.specs.Cmp.Lexicographic.{nat_list_cmp_total}
use Rattle.std.specs.FinMap.Entries.{find-put}
use Rattle.std.proofs.lemmas.Option.{same_Some}
use Rattle.ckr_base.proofs.Options.{some-not-none}
use Rattle.ckr_library.specs.declared.sets.DataSet.{DataSet}
use Rattle.ckr_library.specs.Catalog.{Holding, Catalog, set_of, HasSet}
use Rattle.ckr_library.specs.NameMaps.{Name, Named, name_cmp, entry_at, with_change, with_changed}
use Rattle.ckr_library.proofs.Named.{name-itself}

-- what is changed, under its name
pub changed_here : {X : Type 0} (name : Name) (change : X → X) (named : Named X) (x : X) → entry_at named name ≡ Some x → entry_at (with_changed name change named) name ≡ Some (change x)
changed_here name change named x is =
    ap (λ entry. entry_at (with_change name change named entry) name) is
    ∙ find-put name_cmp nat_list_cmp_total name name (change x) named
    ∙ ap (λ b. cond b (Some (change x)) (entry_at named name)) (name-itself name)

-- where nothing stands, nothing is changed
pub changed_nothing : {X : Type 0} (name : Name) (change : X → X) (named : Named X) → entry_at named name ≡ None → with_changed name change named ≡ named
changed_nothing name change named is = ap (with_change name change named) is

-- the holding of a data set
pub holding_of : (catalog : Catalog) (name : Name) (set : DataSet) → set_of catalog name ≡ Some set → (holding : Holding) × (entry_at catalog.sets name ≡ Some holding) × (holding.set ≡ set)
holding_of catalog name set is = by (entry_at catalog.sets name) refl is
  where
    by : (entry : Option Holding) → entry_at catalog.sets name ≡ entry → option_map (λ (h : Holding). h.set) entry ≡ Some set → (holding : Holding) × (entry_at catalog.sets name ≡ Some holding) × (holding.set ≡ set)
    by None e is = absurd (some-not-none set (sym is))
    by (Some holding) e is = (holding, e, same_Some holding.set set is)

-- a data set that is there
pub set_there : (catalog : Catalog) (name : Name) → HasSet catalog name (λ _. Unit {0}) → (set : DataSet) × (set_of catalog name ≡ Some set)
set_there catalog name there = by (set_of catalog name) refl there
  where
    by : (found : Option DataSet) → set_of catalog name ≡ found → IsSomeAnd found (λ _. Unit {0}) → (set : DataSet) × (set_of catalog name ≡ Some set)
    by None e there = absurd there
    by (Some set) e there = (set, e)

pub is_there : (catalog : Catalog) (name : Name) (set : DataSet) → set_of catalog name ≡ Some set → HasSet catalog name (λ _. Unit {0})
is_there catalog name set is = by (set_of catalog name) is
  where
    by : (found : Option DataSet) → found ≡ Some set → IsSomeAnd found (λ _. Unit {0})
    by None e = absurd (some-not-none set (sym e))
    by (Some found) e = tt
