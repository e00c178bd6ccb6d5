-- The data sets of a program are there, where those of all names of its step are.
use Rattle.std.proofs.Common.{◌≡◌, ℕ, Bool, true, false, Option, None, Some, refl, ap, sym, ◌∙◌, subst}
use Rattle.std.specs.Prelude.{find, option_and_then, slice_get}
use Rattle.std.proofs.lemmas.Bool.{false≢true}
use Rattle.ckr_base.specs.declared.programs.Output.TheVariants.{Main}
use Rattle.ckr_base.proofs.Options.{some-not-none}
use Rattle.ckr_uses.specs.Uses.{are_distinct}
use Rattle.ckr_jcl.specs.declared.deck.Dd.{Dd}
use Rattle.ckr_jcl.specs.declared.deck.Kind.{Kind}
use Rattle.ckr_jcl.specs.declared.deck.Kind.TheVariants.{Copy, Select, Merge, Master, Update, Print, Br14}
use Rattle.ckr_jcl.specs.Programs.{names_written}
use Rattle.ckr_library.specs.declared.sets.DataSet.{DataSet}
use Rattle.ckr_library.specs.Catalog.{Catalog, set_of}
use Rattle.ckr_library.specs.NameMaps.{Name, same_name}
use Rattle.ckr_library.proofs.Named.{name-itself, name-turned}
use Rattle.ckr_match.specs.Images.{has_transactions}
use Rattle.ckr_meaning.specs.EffectiveJob.{is_among, name_of, names_of}
use Rattle.ckr_meaning.specs.StepRun.{StepStart, dd_named, input_names, main_names, output_name, rejects_dd}
use Rattle.ckr_meaning.proofs.Room.{AreApart, outputs_apart}
use Rattle.ckr_desk_plans.specs.StepTypes.RecordSource.{RecordSource}
use Rattle.ckr_desk_plans.specs.StepTypes.RecordSource.TheVariants.{Nowhere, InDeck, InSet}
use Rattle.ckr_desk_plans.specs.Model.Files.{dd_in, files_of, input_dd, set_in, source_in}
use Rattle.ckr_desk_plans.specs.Model.Inputs.{AreSameSet, AreThere, IsSetThere, IsSourceThere}
use Rattle.ckr_desk_plans.specs.Model.Places.{HasFewCards, files_at}
use Rattle.ckr_desk_plans.proofs.NextHeads.{among_names, found_among, source_named}
use Rattle.ckr_desk_plans.proofs.Names.{is_there}
use Rattle.ckr_desk_plans.proofs.LaterWrites.{main_is, rejects_are}

-- each name of the step has a data set
abbrev pub AreNamesThere : StepStart → Catalog → Type 0
AreNamesThere start catalog = (name : Name) → is_among (names_of start.root start.owned) name ≡ true → (set : DataSet) × (set_of catalog name ≡ Some set)

module _ (start : StepStart) (catalog : Catalog) (there : AreNamesThere start catalog) where
  name_there : (name : Name) → is_among (names_of start.root start.owned) name ≡ true → IsSetThere catalog (Some name)
  name_there name among = let its = there name among in is_there catalog name its.0 its.1

  there_by : (dd_name : Option Name) (set : Option Name) → option_and_then (name_of start.root start.owned) (option_and_then (dd_named start.owned) dd_name) ≡ set → IsSetThere catalog set
  there_by dd_name None is = tt
  there_by None (Some name) is = absurd (some-not-none name (sym is))
  there_by (Some dd_name) (Some name) is = by (dd_named start.owned dd_name) refl is
    where
      by : (dd : Option Dd) → dd_named start.owned dd_name ≡ dd → option_and_then (name_of start.root start.owned) dd ≡ Some name → IsSetThere catalog (Some name)
      by None found is = absurd (some-not-none name (sym is))
      by (Some dd) found is = name_there name (found_among (name_of start.root start.owned) (λ d. same_name dd_name d.name) start.owned.step.dds dd name found is (name-itself name))

  main_there : IsSetThere catalog (files_at start).main
  unfolding files_of
  main_there = there_by (slice_get (main_names start.owned.step.program) 0) (files_at start).main refl

  rejects_there : IsSetThere catalog (files_at start).rejects
  unfolding files_of
  rejects_there = there_by (find (same_name rejects_dd) (names_written start.owned.step.program)) (files_at start).rejects refl

  source_there : (input : ℕ) → HasFewCards (source_in start.root start.owned.owner start.owned.step (input_dd start.owned.step input)) → IsSourceThere catalog (source_in start.root start.owned.owner start.owned.step (input_dd start.owned.step input))
  source_there input few = by (source_in start.root start.owned.owner start.owned.step (input_dd start.owned.step input)) refl few
    where
      by : (source : RecordSource) → source_in start.root start.owned.owner start.owned.step (input_dd start.owned.step input) ≡ source → HasFewCards source → IsSourceThere catalog source
      by Nowhere e few = tt
      by (InDeck cards) e few = few
      by (InSet name) e few =
          let named = source_named start input name e in
          name_there name (among_names start (slice_get (input_names start.owned.step.program) input) named.dd name named.found named.named (name-itself name))

  no_rejects : (program : Kind) → has_transactions program ≡ false → find (same_name rejects_dd) (names_written program) ≡ None
  no_rejects Copy is = refl
  no_rejects Select is = refl
  no_rejects Merge is = refl
  no_rejects Master is = absurd (false≢true (sym is))
  no_rejects Update is = absurd (false≢true (sym is))
  no_rejects Print is = refl
  no_rejects Br14 is = refl

  none_for_rejects : has_transactions start.owned.step.program ≡ false → (files_at start).rejects ≡ None
  unfolding files_of
  none_for_rejects is = ap (λ name. set_in start.root start.owned.owner start.owned.step (option_and_then (dd_in start.owned.step) name)) (no_rejects start.owned.step.program is)

  not_same : (rejects main : Option Name) → AreApart main rejects → AreSameSet rejects main → ⊥
  not_same None main apart same = same
  not_same (Some rejects) None apart same = same
  not_same (Some rejects) (Some main) apart same = false≢true (sym apart ∙ name-turned main rejects ∙ same)

  they_differ : are_distinct (names_of start.root start.owned) ≡ true → AreSameSet (files_at start).rejects (files_at start).main → ⊥
  they_differ distinct = by (has_transactions start.owned.step.program) refl
    where
      by : (has : Bool) → has_transactions start.owned.step.program ≡ has → AreSameSet (files_at start).rejects (files_at start).main → ⊥
      by true e = not_same (files_at start).rejects (files_at start).main (subst (λ n. AreApart n (files_at start).rejects) (main_is start) (subst (AreApart (output_name start Main)) (rejects_are start e) (outputs_apart start distinct)))
      by false e = λ same. subst (λ n. AreSameSet n (files_at start).main) (none_for_rejects e) same

  pub are-there : are_distinct (names_of start.root start.owned) ≡ true → HasFewCards (files_at start).first → HasFewCards (files_at start).second → AreThere (files_at start) catalog
  unfolding files_of
  are-there distinct first second = record {
    first = source_there 0 first;
    second = source_there 1 second;
    main = main_there;
    rejects = rejects_there;
    differ = they_differ distinct;
  }
