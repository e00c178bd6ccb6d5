-- The lengths of data sets behind an entry.
use Rattle.std.proofs.Common.{◌≡◌, ℕ, Bool, true, false, cond, ap, ◌∙◌, Option, Some}
use Rattle.std.specs.Option.{option_map_or}
use Rattle.ckr_library.proofs.Named.{at-with_entry}
use Rattle.ckr_library.specs.Catalog.{Holding, fresh_holding}
use Rattle.ckr_library.specs.NameMaps.{Name, Named, entry_at, same_name, with_entry}
use Rattle.ckr_library.specs.declared.sets.DataSet.{DataSet}
use Rattle.ckr_desk_plans.specs.StepView.{length_in}

module _ (check name : Name) (set : DataSet) (most : ℕ) (sets : Named Holding) where
  abbrev longer : Named Holding
  longer = with_entry check (fresh_holding (record set { length = most })) sets

  by_name : (b : Bool) → same_name name check ≡ b → length_in longer name ≡ option_map_or (λ (held : Holding). held.set.length) (cond b (Some (fresh_holding (record set { length = most }))) (entry_at sets name)) 0
  by_name b same =
      ap (λ (entry : Option Holding). option_map_or (λ (held : Holding). held.set.length) entry 0)
      (at-with_entry check name (fresh_holding (record set { length = most })) sets ∙ ap (λ b. cond b (Some (fresh_holding (record set { length = most }))) (entry_at sets name)) same)

  -- that of this name, and that of another one
  pub entered-same : same_name name check ≡ true → length_in (with_entry check (fresh_holding (record set { length = most })) sets) name ≡ most
  entered-same same = by_name true same

  pub entered-other : same_name name check ≡ false → length_in (with_entry check (fresh_holding (record set { length = most })) sets) name ≡ length_in sets name
  entered-other apart = by_name false apart
