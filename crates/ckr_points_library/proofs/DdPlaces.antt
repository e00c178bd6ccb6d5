-- One more DD of a step, with its place among those that have data sets.
use Rattle.std.proofs.Common.{◌≡◌, ◌≤◌, ℕ, suc, ◌+◌, ◌<◌, Bool, true, false, cond, List, [], ◌∷◌, drop, get_or, filter, length, Option, Some, None, refl, ap, sym, ◌∙◌, subst}
use Rattle.std.specs.Option.{option_map}
use Rattle.std.specs.List.{filter_map, cons_option}
use Rattle.std.proofs.lemmas.List.{at_drop_more, drop_more}
use Rattle.std.proofs.lemmas.Option.{same_Some}
use Rattle.ckr_base.proofs.Options.{some-not-none}
use Rattle.ckr_jcl.specs.declared.deck.Dd.{Dd}
use Rattle.ckr_library.specs.Catalog.{Holding, with_length}
use Rattle.ckr_library.specs.NameMaps.{Name, Named, entry_at, with_changed}
use Rattle.ckr_library.proofs.Named.{at-with_changed-keeps}
use Rattle.ckr_meaning.specs.Allotments.{is_output}
use Rattle.ckr_meaning.specs.EffectiveJob.{OwnedStep, name_of}
use Rattle.ckr_points_library.specs.Commit.{committed, output_name, AreWithinSpace, IsWithinSpace}
use Rattle.ckr_points_library.specs.Disposals.{disposal_by, disposals_by, with_names}

-- the names of the outputs among these DDs
abbrev pub outputs_in : ℕ → OwnedStep → List Dd → List Name
outputs_in root owned dds = filter_map (name_of root owned) (filter (λ dd. is_output dd.role) dds)

-- the item at a place, and those behind it
pub next_at : {A X : Type 0} (F : List A → X) (items : List A) (place : ℕ) (item : A) → place < length items → item ≡ get_or items place item → F (drop place items) ≡ F (item ∷ drop (place + 1) items)
next_at F items place item within is =
    at_drop_more F items place item within ∙ ap (λ one. F (one ∷ drop (place + 1) items)) (sym is)

-- the names among the items from a place on
module _ {A : Type 0} (named : A → Option Name) (items : List A) (place : ℕ) (item : A) (within : place < length items) (is : item ≡ get_or items place item) where
  pub some_names : (name : Name) → named item ≡ Some name → length (filter_map named (drop place items)) ≡ suc (length (filter_map named (drop (place + 1) items)))
  some_names name some =
      next_at (λ left. length (filter_map named left)) items place item within is
      ∙ ap (λ found. length (cons_option found (filter_map named (drop (place + 1) items)))) some

  pub no_names : named item ≡ None → length (filter_map named (drop place items)) ≡ length (filter_map named (drop (place + 1) items))
  no_names none =
      next_at (λ left. length (filter_map named left)) items place item within is
      ∙ ap (λ found. length (cons_option found (filter_map named (drop (place + 1) items)))) none

module _ (root : ℕ) (owned : OwnedStep) (dds : List Dd) (index : ℕ) (dd : Dd) (inside : index < length dds) (is : dd ≡ get_or dds index dd) where
  -- ---- dispositions

  -- of a DD without a data set
  pub none_disposed : (abnormal : Bool) (made earlier : List Bool) → name_of root owned dd ≡ None → disposals_by abnormal (with_names root owned (drop index dds)) made earlier ≡ disposals_by abnormal (with_names root owned (drop (index + 1) dds)) made earlier
  none_disposed abnormal made earlier none =
      next_at (λ left. disposals_by abnormal (with_names root owned left) made earlier) dds index dd inside is
      ∙ ap (λ (name : Option Name). disposals_by abnormal (cons_option (option_map (λ n. (dd, n)) name) (with_names root owned (drop (index + 1) dds))) made earlier) none

  -- of a DD with one, whose items stand at a place
  pub one_disposed : (abnormal : Bool) (name : Name) (place : ℕ) (made earlier : List Bool) (d : Bool) → name_of root owned dd ≡ Some name → place < length made → place < length earlier → disposals_by abnormal (with_names root owned (drop index dds)) (drop place made) (drop place earlier) ≡ disposal_by abnormal (dd, name) (get_or made place d) (get_or earlier place d) ∷ disposals_by abnormal (with_names root owned (drop (index + 1) dds)) (drop (place + 1) made) (drop (place + 1) earlier)
  one_disposed abnormal name place made earlier d some within within_earlier =
      next_at (λ left. disposals_by abnormal (with_names root owned left) (drop place made) (drop place earlier)) dds index dd inside is
      ∙ ap (λ (name : Option Name). disposals_by abnormal (cons_option (option_map (λ n. (dd, n)) name) (with_names root owned (drop (index + 1) dds))) (drop place made) (drop place earlier)) some
      ∙ at_drop_more (λ (left : List Bool). disposals_by abnormal ((dd, name) ∷ with_names root owned (drop (index + 1) dds)) left (drop place earlier)) made place d within
      ∙ at_drop_more (λ (left : List Bool). disposals_by abnormal ((dd, name) ∷ with_names root owned (drop (index + 1) dds)) (get_or made place d ∷ drop (place + 1) made) left) earlier place d within_earlier

  -- ---- lengths

  pub next_outputs : outputs_in root owned (drop index dds) ≡ cons_option (output_name root owned dd) (outputs_in root owned (drop (index + 1) dds))
  next_outputs = next_at (outputs_in root owned) dds index dd inside is ∙ by (is_output dd.role) (drop (index + 1) dds)
    where
      by : (output : Bool) (rest : List Dd) → filter_map (name_of root owned) (cond output (dd ∷ filter (λ one. is_output one.role) rest) (filter (λ one. is_output one.role) rest)) ≡ cons_option (cond output (name_of root owned dd) None) (outputs_in root owned rest)
      by true rest = refl
      by false rest = refl

  pub no_output : output_name root owned dd ≡ None → outputs_in root owned (drop index dds) ≡ outputs_in root owned (drop (index + 1) dds)
  no_output none = next_outputs ∙ ap (λ found. cons_option found (outputs_in root owned (drop (index + 1) dds))) none

  pub one_output : (name : Name) → output_name root owned dd ≡ Some name → outputs_in root owned (drop index dds) ≡ name ∷ outputs_in root owned (drop (index + 1) dds)
  one_output name some = next_outputs ∙ ap (λ found. cons_option found (outputs_in root owned (drop (index + 1) dds))) some

-- the length at a place is the next one
pub one_committed : (name : Name) (names : List Name) (lengths : List ℕ) (place : ℕ) (sets : Named Holding) → place < length lengths → committed with_length (name ∷ names) (drop place lengths) sets ≡ committed with_length names (drop (place + 1) lengths) (with_changed name (with_length (get_or lengths place 0)) sets)
one_committed name names lengths place sets within =
    at_drop_more (λ left. committed with_length (name ∷ names) left sets) lengths place 0 within

pub next_within : (name : Name) (names : List Name) (lengths : List ℕ) (place : ℕ) (sets : Named Holding) → place < length lengths → AreWithinSpace (name ∷ names) (drop place lengths) sets → IsWithinSpace (get_or lengths place 0) (entry_at sets name) × AreWithinSpace names (drop (place + 1) lengths) sets
next_within name names lengths place sets within all =
    subst (λ left. AreWithinSpace (name ∷ names) left sets) (drop_more lengths place 0 within) all

abbrev space_of : Holding → ℕ
space_of holding = holding.set.space

fits_as : (most : ℕ) (one other : Option Holding) → option_map space_of one ≡ option_map space_of other → IsWithinSpace most other → IsWithinSpace most one
fits_as most None other same fits = tt
fits_as most (Some one) None same fits = absurd (some-not-none (space_of one) same)
fits_as most (Some one) (Some other) same fits = subst (λ space. most ≤ space) (sym (same_Some (space_of one) (space_of other) same)) fits

-- a length leaves the spaces
pub still_within : (name : Name) (most : ℕ) (names : List Name) (lengths : List ℕ) (sets : Named Holding) → AreWithinSpace names lengths sets → AreWithinSpace names lengths (with_changed name (with_length most) sets)
still_within name most [] lengths sets all = tt
still_within name most (other ∷ names) [] sets all = tt
still_within name most (other ∷ names) (one ∷ lengths) sets all = (
  fits_as one _ _ (at-with_changed-keeps space_of name other (with_length most) sets (λ x. refl)) all.0,
  still_within name most names lengths sets all.1,
)
