-- To open the DDs of a step one after the other, each by what stands there by then, is to open them by what stood before the step.
use Rattle.std.proofs.Common.{◌≡◌, ℕ, suc, Bool, true, false, List, [], ◌∷◌, Option, Some, None, refl, ap, ◌∙◌, IsSome, rules}
use Rattle.std.specs.Option.{is_some, option_map}
use Rattle.std.specs.List.{cons_option}
use Rattle.ckr_jcl.specs.declared.deck.Dd.{Dd}
use Rattle.ckr_jcl.specs.declared.deck.Status.{Status}
use Rattle.ckr_jcl.specs.declared.deck.Status.TheVariants.{New, Old, Shr, Mod}
use Rattle.ckr_library.specs.declared.sets.Stamp.{Stamp}
use Rattle.ckr_library.specs.Catalog.{Holding}
use Rattle.ckr_library.specs.NameMaps.{Name, Named, entry_at}
use Rattle.ckr_library.proofs.Named.{at-with_changed-keeps}
use Rattle.ckr_entry.specs.declared.point.Passed.{Passed}
use Rattle.ckr_meaning.specs.LibrarySet.{Known}
use Rattle.ckr_meaning.specs.Allotments.{AllotmentModel, found, made, refused, DdAllotment, allotment_by, allotment_of, with_kind, is_output, is_passed, opened_by, opened_one, opened_all}
use Rattle.ckr_meaning.specs.EffectiveJob.{OwnedStep, name_of, placed_one, placed_from}
use Rattle.ckr_points_library.specs.Holdings.{holding_ways, standing}
use Rattle.ckr_points_library.specs.Outputs.{opened_dd}

-- allocation asks the same of both
record Alike (sets before : Named Holding) : Type 0 where
  known : (name : Name) → option_map holding_ways.known (entry_at sets name) ≡ option_map holding_ways.known (entry_at before name)

opened_by-keeps : (stamp : Stamp) (status : Status) (holding : Holding) → holding_ways.known (opened_by holding_ways stamp status holding) ≡ holding_ways.known holding
opened_by-keeps stamp New holding = refl
opened_by-keeps stamp Old holding = refl
opened_by-keeps stamp Shr holding = refl
opened_by-keeps stamp Mod holding = refl

opened_one-keeps : (stamp : Stamp) (placed : DdAllotment) (allotment : AllotmentModel) (output : Bool) (sets : Named Holding) (name : Name) → option_map holding_ways.known (entry_at (opened_one holding_ways stamp placed allotment output sets) name) ≡ option_map holding_ways.known (entry_at sets name)
opened_one-keeps stamp placed found true sets name =
    at-with_changed-keeps holding_ways.known placed.name name (opened_by holding_ways stamp placed.dd.disp.status) sets (opened_by-keeps stamp placed.dd.disp.status)
opened_one-keeps stamp placed found false sets name = refl
opened_one-keeps stamp placed made output sets name = refl
opened_one-keeps stamp placed (refused flaw) output sets name = refl

module _ (passed : List Passed) (stamp : Stamp) where
  abbrev pub opened_named : Dd → Option Name → Named Holding → Named Holding
  opened_named dd None sets = sets
  opened_named dd (Some name) sets = opened_dd passed stamp dd name sets

  -- the library with these DDs opened, one after the other
  abbrev pub opened_in_turn : (Dd → Option Name) → List Dd → Named Holding → Named Holding
  opened_in_turn named [] sets = sets
  opened_in_turn named (dd ∷ dds) sets = opened_in_turn named dds (opened_named dd (named dd) sets)

module _ (passed : List Passed) (stamp : Stamp) (root : ℕ) (owned : OwnedStep) where
  abbrev in_turn : List Dd → Named Holding → Named Holding
  in_turn dds sets = opened_in_turn passed stamp (name_of root owned) dds sets

  abbrev rest_from : Named Holding → ℕ → List Dd → List DdAllotment
  rest_from before number dds = placed_from holding_ways (standing before passed) root owned (suc number) dds

  from_alike : (before : Named Holding) (number : ℕ) (dds : List Dd) (sets : Named Holding) → Alike sets before → in_turn dds sets ≡ opened_all holding_ways stamp (placed_from holding_ways (standing before passed) root owned number dds) sets
  from_alike before number [] sets alike = refl
  from_alike before number (dd ∷ dds) sets alike = by (λ sets alike. from_alike before (suc number) dds sets alike) (name_of root owned dd)
    where
      by : ((sets : Named Holding) → Alike sets before → in_turn dds sets ≡ opened_all holding_ways stamp (rest_from before number dds) sets) → (name : Option Name) → in_turn dds (opened_named passed stamp dd name sets) ≡ opened_all holding_ways stamp (cons_option (option_map (placed_one holding_ways (standing before passed) number dd) name) (rest_from before number dds)) sets
      by more None = more sets alike
      by more (Some name) =
          more (opened_dd passed stamp dd name sets)
          (record { known = λ other. opened_one-keeps stamp (placed_one holding_ways (standing sets passed) 1 dd name) (allotment_of dd (is_passed passed name) (option_map holding_ways.known (entry_at sets name))) (is_output dd.role) sets other ∙ alike.known other })
          ∙ ap (λ known. opened_all holding_ways stamp (rest_from before number dds) (opened_one holding_ways stamp (placed_one holding_ways (standing sets passed) 1 dd name) (allotment_of dd (is_passed passed name) known) (is_output dd.role) sets)) (alike.known name)
          ∙ ap (λ after. opened_all holding_ways stamp (rest_from before number dds) after) (same_placed name (allotment_of dd (is_passed passed name) (option_map holding_ways.known (entry_at before name))) (is_output dd.role))
        where
          same_placed : (name : Name) (allotment : AllotmentModel) (output : Bool) → opened_one holding_ways stamp (placed_one holding_ways (standing sets passed) 1 dd name) allotment output sets ≡ opened_one holding_ways stamp (placed_one holding_ways (standing before passed) number dd name) allotment output sets
          same_placed name found true = refl
          same_placed name found false = refl
          same_placed name made output = refl
          same_placed name (refused flaw) output = refl

  -- by what stood before the step
  pub opened-in_turn : (dds : List Dd) (sets : Named Holding) → in_turn dds sets ≡ opened_all holding_ways stamp (placed_from holding_ways (standing sets passed) root owned 1 dds) sets
  opened-in_turn dds sets = from_alike sets 1 dds sets (record { known = λ name. refl })

-- a data set that is found is there
pub found_there : (dd : Dd) (passed : Bool) (known : Option Known) → allotment_of dd passed known ≡ found → IsSome known
found_there dd passed None e = absurd (by dd.disp.status (is_some dd.space) e)
  where
    by : (status : Status) (space : Bool) → with_kind dd.role None (allotment_by status false false space) ≡ found → ⊥
    by Mod true e = cc
    by Mod false e = cc
    by _ space e = cc
found_there dd passed (Some known) e = search rules
