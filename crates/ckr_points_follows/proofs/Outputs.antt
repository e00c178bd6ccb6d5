-- The outputs of a step, DD by DD.
use Rattle.std.proofs.Common.{◌≡◌, ℕ, ◌&&◌, true, false, cond, if◌then◌else◌, nat_le, filter, List, ◌∷◌, refl, ap, sym, ◌∙◌, Some, None, Option}
use Rattle.std.specs.Option.{option_map, option_map_or}
use Rattle.std.specs.List.{cons_option, filter_map}
use Rattle.ckr_points_library.specs.Commit.{output_name}
use Rattle.ckr_jcl.specs.declared.deck.Dd.{Dd}
use Rattle.ckr_library.specs.declared.sets.DataSet.{DataSet}
use Rattle.ckr_library.specs.NameMaps.{Name, Named, entry_at}
use Rattle.ckr_meaning.specs.Allotments.{is_output}
use Rattle.ckr_meaning.specs.EffectiveJob.{OwnedStep, name_of}
use Rattle.ckr_points.specs.Follows.{are_lengths}
use Rattle.ckr_points.specs.Rows.{TableSet}
use Rattle.ckr_points_follows.specs.Lengths.{fits, outputs_from}

-- the outputs from a DD on
outputs-first : (root : ℕ) (own : OwnedStep) (dd : Dd) (dds : List Dd) → outputs_from root own (dd ∷ dds) ≡ cons_option (output_name root own dd) (outputs_from root own dds)
outputs-first root own dd dds =
    elim (is_output dd.role) as (λ b. filter_map (name_of root own) (cond b (dd ∷ filter (λ (one : Dd). is_output one.role) dds) (filter (λ (one : Dd). is_output one.role) dds)) ≡ cons_option (if b then name_of root own dd else None) (outputs_from root own dds)) [
      | true ↦ refl
      | false ↦ refl
    ]

module _ (sets : Named TableSet) (root : ℕ) (own : OwnedStep) (dd : Dd) (dds : List Dd) (found : Option Name) (is : found ≡ output_name root own dd) where
  pub lengths-none : found ≡ None → (lengths : List ℕ) → are_lengths sets (outputs_from root own (dd ∷ dds)) lengths ≡ are_lengths sets (outputs_from root own dds) lengths
  lengths-none none lengths = ap (λ names. are_lengths sets names lengths) (outputs-first root own dd dds ∙ ap (λ name. cons_option name (outputs_from root own dds)) (sym is ∙ none))

  pub lengths-some : (name : Name) → found ≡ Some name → (lengths : List ℕ) → are_lengths sets (outputs_from root own (dd ∷ dds)) lengths ≡ are_lengths sets (name ∷ outputs_from root own dds) lengths
  lengths-some name some lengths = ap (λ names. are_lengths sets names lengths) (outputs-first root own dd dds ∙ ap (λ name. cons_option name (outputs_from root own dds)) (sym is ∙ some))

-- the data set of a name fits
pub fits-set : (sets : Named TableSet) (name : Name) (now : ℕ) (found : Option DataSet) → found ≡ option_map (λ (table : TableSet). table.set) (entry_at sets name) → option_map_or (λ (set : DataSet). nat_le set.length now && nat_le now set.space) found false ≡ fits sets name now
fits-set sets name now found is = ap (λ one. option_map_or (λ (set : DataSet). nat_le set.length now && nat_le now set.space) one false) is ∙ by (entry_at sets name)
  where
    by : (entry : Option TableSet) → option_map_or (λ (set : DataSet). nat_le set.length now && nat_le now set.space) (option_map (λ (table : TableSet). table.set) entry) false ≡ option_map_or (λ (table : TableSet). nat_le table.set.length now && nat_le now table.set.space) entry false
    by None = refl
    by (Some table) = refl
