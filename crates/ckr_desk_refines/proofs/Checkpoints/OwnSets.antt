-- The data sets of a running step behind its entry: that for checkpoints has the length behind it, and the others are as they were.
use Rattle.std.proofs.Common.{◌≡◌, ℕ, Bool, true, false, cond, refl, ap, sym, ◌∙◌, subst, Option, Some, None}
use Rattle.std.specs.Option.{option_map}
use Rattle.std.proofs.lemmas.Bool.{false≢true}
use Rattle.std.proofs.lemmas.Option.{same_Some}
use Rattle.ckr_base.proofs.Options.{some-not-none}
use Rattle.ckr_library.specs.declared.sets.DataSet.{DataSet}
use Rattle.ckr_library.specs.Catalog.{Catalog, Holding, set_of, with_length}
use Rattle.ckr_library.specs.NameMaps.{Name, entry_at, same_name, with_changed}
use Rattle.ckr_library.proofs.Named.{at-with_changed}
use Rattle.ckr_volumes.specs.SamePlaces.{SamePlaces}

-- a data set behind the entry
pub record IsBehind (check : Name) (most : ℕ) (name : Name) (was later : DataSet) : Type 0 where
  pub places : SamePlaces was later
  pub space : later.space ≡ was.space
  pub ends : same_name name check ≡ true → later.length ≡ most
  pub same : same_name name check ≡ false → later ≡ was

lengthened-set : (check : Name) (most : ℕ) (name : Name) (held : Holding) → same_name name check ≡ true → IsBehind check most name held.set (with_length most held).set
lengthened-set check most name held is = record { places = record { parts = refl; lrecl = refl }; space = refl; ends = λ same. refl; same = λ apart. absurd (false≢true (sym apart ∙ is)) }

module _ (check : Name) (most : ℕ) (old new : Catalog) (entered : new.sets ≡ with_changed check (with_length most) old.sets) where
  then-at : (name : Name) → set_of new name ≡ option_map (λ (h : Holding). h.set) (cond (same_name name check) (option_map (with_length most) (entry_at old.sets name)) (entry_at old.sets name))
  then-at name = ap (λ sets. option_map (λ (h : Holding). h.set) (entry_at sets name)) entered ∙ ap (option_map (λ (h : Holding). h.set)) (at-with_changed check name (with_length most) old.sets)

  pub was-of : (name : Name) (set : DataSet) → set_of new name ≡ Some set → (was : DataSet) × (set_of old name ≡ Some was) × IsBehind check most name was set
  was-of name set e = by (same_name name check) (entry_at old.sets name) refl refl (sym (then-at name) ∙ e)
    where
      by : (b : Bool) (entry : Option Holding) → same_name name check ≡ b → entry_at old.sets name ≡ entry → option_map (λ (h : Holding). h.set) (cond b (option_map (with_length most) entry) entry) ≡ Some set
          → (was : DataSet) × (set_of old name ≡ Some was) × IsBehind check most name was set
      by true None is at e = absurd (some-not-none set (sym e))
      by true (Some held) is at e =
          (held.set, ap (option_map (λ (h : Holding). h.set)) at, subst (IsBehind check most name held.set) (same_Some (with_length most held).set set e) (lengthened-set check most name held is))
      by false None is at e = absurd (some-not-none set (sym e))
      by false (Some held) is at e = (
        held.set,
        ap (option_map (λ (h : Holding). h.set)) at,
        subst (IsBehind check most name held.set) (same_Some held.set set e)
            (record { places = record { parts = refl; lrecl = refl }; space = refl; ends = λ same. absurd (false≢true (sym is ∙ same)); same = λ apart. refl }),
      )

  -- what was there is there
  pub now-of : (name : Name) (was : DataSet) → set_of old name ≡ Some was → (set : DataSet) × (set_of new name ≡ Some set)
  now-of name was e = by (same_name name check) (entry_at old.sets name) e (then-at name)
    where
      by : (b : Bool) (entry : Option Holding) → option_map (λ (h : Holding). h.set) entry ≡ Some was → set_of new name ≡ option_map (λ (h : Holding). h.set) (cond b (option_map (with_length most) entry) entry) → (set : DataSet) × (set_of new name ≡ Some set)
      by b None is at = absurd (some-not-none was (sym is))
      by true (Some held) is at = ((with_length most held).set, at)
      by false (Some held) is at = (held.set, at)

  -- another data set is as it was
  pub other-of : (name : Name) → same_name name check ≡ false → set_of new name ≡ set_of old name
  other-of name apart = then-at name ∙ ap (λ b. option_map (λ (h : Holding). h.set) (cond b (option_map (with_length most) (entry_at old.sets name)) (entry_at old.sets name))) apart
