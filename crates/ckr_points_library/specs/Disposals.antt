-- What becomes of each data set of a step, by whether this step made it and whether an earlier one did.
use Rattle.std.specs.Prelude.{ℕ, Bool, ◌||◌, List, [], ◌∷◌, Option}
use Rattle.std.specs.Option.{option_map}
use Rattle.std.specs.List.{filter_map}
use Rattle.ckr_jcl.specs.declared.deck.Dd.{Dd}
use Rattle.ckr_library.specs.NameMaps.{Name}
use Rattle.ckr_meaning.specs.SetUses.Disposal.{dispose, is_temporary}
use Rattle.ckr_meaning.specs.Dispositions.{Disposal}
use Rattle.ckr_meaning.specs.EffectiveJob.{OwnedStep, name_of}

-- a DD that has a data set, with its name
abbrev pub with_name : ℕ → OwnedStep → Dd → Option (Dd × Name)
with_name root owned dd = option_map (λ name. (dd, name)) (name_of root owned dd)

abbrev pub with_names : ℕ → OwnedStep → List Dd → List (Dd × Name)
with_names root owned dds = filter_map (with_name root owned) dds

abbrev pub disposal_by : Bool → Dd × Name → Bool → Bool → Disposal
disposal_by abnormal one made earlier = record {
  name = one.1;
  after = dispose (is_temporary one.0.origin) one.0.disp made abnormal;
  made = made || earlier;
}

abbrev pub disposals_by : Bool → List (Dd × Name) → List Bool → List Bool → List Disposal
disposals_by abnormal [] made earlier = []
disposals_by abnormal (one ∷ rest) [] earlier = []
disposals_by abnormal (one ∷ rest) (first ∷ made) [] = []
disposals_by abnormal (one ∷ rest) (first ∷ made) (before ∷ earlier) = disposal_by abnormal one first before ∷ disposals_by abnormal rest made earlier

-- the dispositions of a step, in the order of its DDs
abbrev pub disposals_in : ℕ → OwnedStep → List Bool → List Bool → Bool → List Disposal
disposals_in root owned made earlier abnormal = disposals_by abnormal (with_names root owned owned.step.dds) made earlier
