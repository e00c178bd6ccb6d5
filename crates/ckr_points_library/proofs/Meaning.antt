-- What the definitions of this crate say in the words of the meaning of a step.
use Rattle.std.proofs.Common.{◌≡◌, ℕ, suc, Bool, List, [], ◌∷◌, map, Option, Some, None, Result, Ok, Err, refl, ap}
use Rattle.std.specs.List.{cons_option}
use Rattle.std.specs.Option.{option_map}
use Rattle.std.specs.Result.{IsOkAnd}
use Rattle.ckr_jcl.specs.declared.deck.Dd.{Dd}
use Rattle.ckr_library.specs.declared.sets.Part.{Part}
use Rattle.ckr_library.specs.declared.sets.Stamp.{Stamp}
use Rattle.ckr_library.specs.Catalog.{Holding}
use Rattle.ckr_library.specs.NameMaps.{Name, Named}
use Rattle.ckr_volumes.specs.declared.layout.Layout.{Layout}
use Rattle.ckr_meaning.specs.Allotments.{AllotmentModel, found, made, refused, DdAllotment, is_made}
use Rattle.ckr_meaning.specs.Dispositions.{Disposal, Stock}
use Rattle.ckr_meaning.specs.EffectiveJob.{OwnedStep, disposal_of, disposals_of, flaw_in, flaws_in, is_among, name_of, placed_from, placed_one}
use Rattle.ckr_points_library.specs.declared.cause.Cause.{Cause}
use Rattle.ckr_points_library.specs.declared.cause.Refusal.{Refusal}
use Rattle.ckr_points_library.specs.Allocation.{Allocation, allocated_all, allocated_dd, behind, made_of, then_more, with_new}
use Rattle.ckr_points_library.specs.Disposals.{disposals_by, with_names}
use Rattle.ckr_points_library.specs.Holdings.{holding_ways}

module _ (root : ℕ) (own : OwnedStep) (before : Stock Holding) (earlier : List Name) (abnormal : Bool) where
  abbrev disposals_with : List (Dd × Name) → List DdAllotment → List Disposal
  disposals_with dds placed = disposals_by abnormal dds (map (λ one. is_made one.allotment) placed) (map (λ one. is_among earlier one.name) placed)

  abbrev placed_rest : ℕ → List Dd → List DdAllotment
  placed_rest number dds = placed_from holding_ways before root own number dds

  pub same_disposals : (number : ℕ) (dds : List Dd) → disposals_with (with_names root own dds) (placed_rest number dds) ≡ disposals_of earlier abnormal (placed_rest number dds)
  same_disposals number [] = refl
  same_disposals number (dd ∷ dds) = by (name_of root own dd) (same_disposals (suc number) dds)
    where
      by : (name : Option Name) → disposals_with (with_names root own dds) (placed_rest (suc number) dds) ≡ disposals_of earlier abnormal (placed_rest (suc number) dds)
          → disposals_with (cons_option (option_map (λ n. (dd, n)) name) (with_names root own dds)) (cons_option (option_map (placed_one holding_ways before number dd) name) (placed_rest (suc number) dds))
          ≡ disposals_of earlier abnormal (cons_option (option_map (placed_one holding_ways before number dd) name) (placed_rest (suc number) dds))
      by None rest = rest
      by (Some name) rest = ap (λ others. disposal_of earlier abnormal (placed_one holding_ways before number dd name) ∷ others) rest

abbrev IsDone : Result Allocation Refusal → Type 0
IsDone all = IsOkAnd all (λ done. Unit {0})

more_done : (items : Result Allocation Refusal → Result Allocation Refusal) (more : Result Allocation Refusal) → ((refusal : Refusal) → IsDone (items (Err refusal)) → ⊥) → IsDone (items more) → IsDone more
more_done items (Ok done) fails fact = tt
more_done items (Err refusal) fails fact = fails refusal fact

module _ (layout : Layout) (stamp : Stamp) where
  pub no_flaw : (placed : List DdAllotment) (sets : Named Holding) → IsDone (allocated_all layout stamp placed sets) → flaws_in placed ≡ []
  no_flaw [] sets fact = refl
  no_flaw (one ∷ rest) sets fact = by one.allotment (λ sets fact. no_flaw rest sets fact) fact
    where
      of_parts : (parts : Result (List Part) Cause) → ((sets : Named Holding) → IsDone (allocated_all layout stamp rest sets) → flaws_in rest ≡ [])
          → IsDone (then_more one.number parts (λ parts. allocated_all layout stamp rest (with_new stamp one.dd one.name parts sets))) → flaws_in rest ≡ []
      of_parts (Ok parts) more fact =
          more (with_new stamp one.dd one.name parts sets)
          (more_done (behind (map (made_of one.number) parts)) (allocated_all layout stamp rest (with_new stamp one.dd one.name parts sets)) (λ refusal fact. fact) fact)
      of_parts (Err cause) more fact = absurd fact

      by : (allotment : AllotmentModel) → ((sets : Named Holding) → IsDone (allocated_all layout stamp rest sets) → flaws_in rest ≡ [])
          → IsDone (then_more one.number (allocated_dd layout sets one.dd one.name allotment) (λ parts. allocated_all layout stamp rest (with_new stamp one.dd one.name parts sets)))
          → cons_option (option_map (λ flaw. (one.number, flaw)) (flaw_in allotment)) (flaws_in rest) ≡ []
      by found more fact = of_parts (allocated_dd layout sets one.dd one.name found) more fact
      by made more fact = of_parts (allocated_dd layout sets one.dd one.name made) more fact
      by (refused flaw) more fact = absurd fact
