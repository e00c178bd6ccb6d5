-- A view of data sets that goes through each change of one goes through what a step does.
use Rattle.std.proofs.Common.{◌≡◌, ℕ, suc, Bool, true, false, cond, List, [], ◌∷◌, refl, ap, sym, ◌∙◌, Option, Some, None, not}
use Rattle.std.specs.List.{cons_option}
use Rattle.std.specs.Option.{option_map}
use Rattle.ckr_jcl.specs.declared.deck.After.{After}
use Rattle.ckr_jcl.specs.declared.deck.After.TheVariants.{Delete, Keep, Pass, Catlg, Uncatlg}
use Rattle.ckr_jcl.specs.declared.deck.Dd.{Dd}
use Rattle.ckr_jcl.specs.declared.deck.Status.{Status}
use Rattle.ckr_jcl.specs.declared.deck.Status.TheVariants.{New, Old, Shr, Mod}
use Rattle.ckr_library.specs.declared.sets.Stamp.{Stamp}
use Rattle.ckr_library.specs.NameMaps.{Name, Named, same_name, entry_at, without_entry}
use Rattle.ckr_points_tables.proofs.NamedViews.{at-viewed, viewed, viewed-with_changed}
use Rattle.ckr_meaning.specs.LibrarySet.{SetWays}
use Rattle.ckr_meaning.specs.Allotments.{DdAllotment, AllotmentModel, found, made, refused, opened_by, opened_one, opened_all, is_output, allotment_of, is_passed}
use Rattle.ckr_meaning.specs.Dispositions.{Disposal, Stock, sets_after, disposed_one, disposed_all}
use Rattle.ckr_meaning.specs.EffectiveJob.{OwnedStep, name_of, placed_one, placed_from, placed_in}

-- the data sets with the passed list, seen through a view
abbrev pub standing_viewed : {X Y : Type 0} → (Name → X → Y) → Stock X → Stock Y
standing_viewed view standing = record { sets = viewed view standing.sets; passed = standing.passed }

-- a view that goes through each change, and shows what allocation asks
pub record GoesThrough {X Y : Type 0} (view : Name → X → Y) (first : SetWays X) (second : SetWays Y) : Type 0 where
  pub knows : (name : Name) (set : X) → first.known set ≡ second.known (view name set)
  pub marks : (name : Name) (on : Bool) (set : X) → view name (first.marked on set) ≡ second.marked on (view name set)
  pub empties : (name : Name) (set : X) → view name (first.emptied set) ≡ second.emptied (view name set)
  pub stamps : (name : Name) (stamp : Stamp) (set : X) → view name (first.stamped stamp set) ≡ second.stamped stamp (view name set)

module _ {X Y : Type 0} (view : Name → X → Y) (first : SetWays X) (second : SetWays Y) (through : GoesThrough view first second) where
  by_status : (name : Name) (stamp : Stamp) (status : Status) (x : X) → view name (opened_by first stamp status x) ≡ opened_by second stamp status (view name x)
  by_status name stamp New x = through.stamps name stamp x
  by_status name stamp Old x = through.stamps name stamp (first.emptied x) ∙ ap (second.stamped stamp) (through.empties name x)
  by_status name stamp Shr x = through.stamps name stamp x
  by_status name stamp Mod x = through.stamps name stamp x

  one_opened : (stamp : Stamp) (placed : DdAllotment) (allotment : AllotmentModel) (output : Bool) (sets : Named X) → viewed view (opened_one first stamp placed allotment output sets) ≡ opened_one second stamp placed allotment output (viewed view sets)
  one_opened stamp placed found true sets =
      viewed-with_changed view (opened_by first stamp placed.dd.disp.status) (opened_by second stamp placed.dd.disp.status) placed.name (by_status placed.name stamp placed.dd.disp.status) sets
  one_opened stamp placed found false sets = refl
  one_opened stamp placed made output sets = refl
  one_opened stamp placed (refused flaw) output sets = refl

  pub viewed-opened_all : (stamp : Stamp) (all : List DdAllotment) (sets : Named X) → viewed view (opened_all first stamp all sets) ≡ opened_all second stamp all (viewed view sets)
  viewed-opened_all stamp [] sets = refl
  viewed-opened_all stamp (placed ∷ rest) sets =
      viewed-opened_all stamp rest (opened_one first stamp placed placed.allotment (is_output placed.dd.role) sets)
      ∙ ap (opened_all second stamp rest) (one_opened stamp placed placed.allotment (is_output placed.dd.role) sets)

  pub viewed-without : (name : Name) (sets : Named X) → viewed view (without_entry name sets) ≡ without_entry name (viewed view sets)
  viewed-without name [] = refl
  viewed-without name (entry ∷ rest) =
      elim (same_name name entry.0) as
      (λ b. viewed view (cond (not b) (entry ∷ without_entry name rest) (without_entry name rest)) ≡ cond (not b) ((entry.0, view entry.0 entry.1) ∷ without_entry name (viewed view rest)) (without_entry name (viewed view rest))) [
        | true ↦ viewed-without name rest
        | false ↦ ap (λ tail. (entry.0, view entry.0 entry.1) ∷ tail) (viewed-without name rest)
      ]

  viewed-after : (after : After) (name : Name) (sets : Named X) → viewed view (sets_after first after name sets) ≡ sets_after second after name (viewed view sets)
  viewed-after Delete name sets = viewed-without name sets
  viewed-after Keep name sets = refl
  viewed-after Pass name sets = refl
  viewed-after Catlg name sets = viewed-with_changed view (first.marked true) (second.marked true) name (through.marks name true) sets
  viewed-after Uncatlg name sets = viewed-with_changed view (first.marked false) (second.marked false) name (through.marks name false) sets

  pub viewed-disposed_all : (disposals : List Disposal) (standing : Stock X) → standing_viewed view (disposed_all first disposals standing) ≡ disposed_all second disposals (standing_viewed view standing)
  viewed-disposed_all [] standing = refl
  viewed-disposed_all (disposal ∷ rest) standing =
      viewed-disposed_all rest (disposed_one first disposal standing)
      ∙ ap (λ sets. disposed_all second rest (record { sets = sets; passed = (disposed_one first disposal standing).passed })) (viewed-after disposal.after disposal.name standing.sets)

  known_viewed : (name : Name) (entry : Option X) → option_map first.known entry ≡ option_map second.known (option_map (view name) entry)
  known_viewed name None = refl
  known_viewed name (Some x) = ap Some (through.knows name x)

  -- allocation sees the same
  pub placed_one-viewed : (standing : Stock X) (number : ℕ) (dd : Dd) (name : Name) → placed_one first standing number dd name ≡ placed_one second (standing_viewed view standing) number dd name
  placed_one-viewed standing number dd name =
      ap (λ known. record { dd = dd; number = number; name = name; allotment = allotment_of dd (is_passed standing.passed name) known })
      (known_viewed name (entry_at standing.sets name) ∙ ap (option_map second.known) (sym (at-viewed view standing.sets name)))

  viewed-placed_from : (standing : Stock X) (root : ℕ) (owned : OwnedStep) (number : ℕ) (dds : List Dd) → placed_from first standing root owned number dds ≡ placed_from second (standing_viewed view standing) root owned number dds
  viewed-placed_from standing root owned number [] = refl
  viewed-placed_from standing root owned number (dd ∷ dds) =
      ap (cons_option (option_map (placed_one first standing number dd) (name_of root owned dd))) (viewed-placed_from standing root owned (suc number) dds)
      ∙ ap (λ one. cons_option one (placed_from second (standing_viewed view standing) root owned (suc number) dds)) (by (name_of root owned dd))
    where
      by : (name : Option Name) → option_map (placed_one first standing number dd) name ≡ option_map (placed_one second (standing_viewed view standing) number dd) name
      by None = refl
      by (Some name) = ap Some (placed_one-viewed standing number dd name)

  pub viewed-placed_in : (standing : Stock X) (root : ℕ) (owned : OwnedStep) → placed_in first standing root owned ≡ placed_in second (standing_viewed view standing) root owned
  viewed-placed_in standing root owned = viewed-placed_from standing root owned 1 owned.step.dds
