-- The length of a data set behind writes.
use Rattle.std.proofs.Common.{◌≡◌, ℕ, ◌+◌, Bool, true, false, cond, List, [], ◌∷◌, filter, length, Option, Some, None, refl, ap, ◌∙◌, subst, arith}
use Rattle.std.specs.Option.{option_map, option_map_or}
use Rattle.ckr_base.specs.declared.programs.Write.{Write}
use Rattle.ckr_base.proofs.Options.{some-not-none}
use Rattle.ckr_library.specs.declared.sets.DataSet.{DataSet}
use Rattle.ckr_library.specs.Catalog.{Catalog, Holding, set_of}
use Rattle.ckr_library.specs.NameMaps.{Name, Named, entry_at, same_name, with_changed}
use Rattle.ckr_library.proofs.Named.{at-with_changed-other, name-same}
use Rattle.ckr_steps.specs.declared.files.Files.{Files}
use Rattle.ckr_steps.specs.Writes.{end_set, gained, gains, grown, grown_in, longer}
use Rattle.ckr_steps.proofs.Names.{changed_here, changed_nothing, holding_of}

-- the length under a name, and 0 where nothing stands there
abbrev pub length_at : Named Holding → Name → ℕ
length_at sets name = option_map_or (λ (holding : Holding). holding.set.length) (entry_at sets name) 0

module _ (files : Files) (name : Name) where
  length-there : (writes : List Write) (sets : Named Holding) (holding : Holding) → entry_at sets name ≡ Some holding → length_at (grown files writes sets) name ≡ holding.set.length + gained files name writes
  length-there [] sets holding is = let same = ap (λ entry. option_map_or (λ (h : Holding). h.set.length) entry 0) is in omega (arith, same)
  length-there (write ∷ writes) sets holding is = by (length-there writes) (end_set files write.output)
    where
      More : Type 0
      More = (sets : Named Holding) (holding : Holding) → entry_at sets name ≡ Some holding → length_at (grown files writes sets) name ≡ holding.set.length + gained files name writes

      within : More → (end : Name) (same : Bool) → same_name name end ≡ same
          → length_at (grown files writes (with_changed end longer sets)) name ≡ holding.set.length + length (cond same (write ∷ filter (gains files name) writes) (filter (gains files name) writes))
      within more end true same =
          let here : entry_at (with_changed end longer sets) name ≡ Some (longer holding) =
          subst (λ (n : Name). entry_at (with_changed n longer sets) name ≡ Some (longer holding)) (name-same name end same) (changed_here name longer sets holding is) in
          let behind = more (with_changed end longer sets) (longer holding) here in
          omega (arith, behind)
      within more end false apart = more (with_changed end longer sets) holding (at-with_changed-other end name longer sets apart ∙ is)

      by : More → (end : Option Name)
          → length_at (grown files writes (grown_in end sets)) name ≡ holding.set.length + length (cond (option_map_or (same_name name) end false) (write ∷ filter (gains files name) writes) (filter (gains files name) writes))
      by more None = more sets holding is
      by more (Some end) = within more end (same_name name end) refl

  nothing-there : (writes : List Write) (sets : Named Holding) → entry_at sets name ≡ None → entry_at (grown files writes sets) name ≡ None
  nothing-there [] sets is = is
  nothing-there (write ∷ writes) sets is = nothing-there writes (grown_in (end_set files write.output) sets) (by (end_set files write.output))
    where
      within : (end : Name) (same : Bool) → same_name name end ≡ same → entry_at (with_changed end longer sets) name ≡ None
      within end true same =
          subst (λ (n : Name). entry_at (with_changed n longer sets) name ≡ None) (name-same name end same)
          (ap (λ (s : Named Holding). entry_at s name) (changed_nothing name longer sets is) ∙ is)
      within end false apart = at-with_changed-other end name longer sets apart ∙ is

      by : (end : Option Name) → entry_at (grown_in end sets) name ≡ None
      by None = is
      by (Some end) = within end (same_name name end) refl

  -- by the data set
  pub length-some : (writes : List Write) (catalog : Catalog) (set : DataSet) → set_of catalog name ≡ Some set → set.length + gained files name writes ≡ length_at (grown files writes catalog.sets) name
  length-some writes catalog set is =
      let held = holding_of catalog name set is in
      let behind = length-there writes catalog.sets held.0 held.1 in
      let same : held.0.set.length ≡ set.length = ap (λ (s : DataSet). s.length) held.2 in
      omega (arith, behind, same)

  no-entry : (entry : Option Holding) → option_map (λ (h : Holding). h.set) entry ≡ None → entry ≡ None
  no-entry None is = refl
  no-entry (Some holding) is = absurd (some-not-none holding.set is)

  pub length-none : (writes : List Write) (catalog : Catalog) → set_of catalog name ≡ None → 0 ≡ length_at (grown files writes catalog.sets) name
  length-none writes catalog is =
      let behind = ap (λ entry. option_map_or (λ (h : Holding). h.set.length) entry 0) (nothing-there writes catalog.sets (no-entry (entry_at catalog.sets name) is)) in
      omega (arith, behind)
