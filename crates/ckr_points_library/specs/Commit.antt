-- The outputs of a step, and their lengths as a commit sets them.
use Rattle.std.specs.Prelude.{ℕ, ◌≤◌, Bool, true, false, List, [], ◌∷◌, filter, Option, Some, None, if◌then◌else◌}
use Rattle.std.specs.List.{filter_map}
use Rattle.ckr_jcl.specs.declared.deck.Dd.{Dd}
use Rattle.ckr_library.specs.Catalog.{Holding}
use Rattle.ckr_library.specs.NameMaps.{Name, Named, entry_at, with_changed}
use Rattle.ckr_meaning.specs.Allotments.{is_output}
use Rattle.ckr_meaning.specs.EffectiveJob.{OwnedStep, name_of}

-- the name of the data set of a DD, if the step puts records into it
abbrev pub output_name : ℕ → OwnedStep → Dd → Option Name
output_name root owned dd = if is_output dd.role then name_of root owned dd else None

-- the names of the step's outputs, in the order of the DDs
abbrev pub output_names : ℕ → OwnedStep → List Name
output_names root owned = filter_map (name_of root owned) (filter (λ dd. is_output dd.role) owned.step.dds)

-- the data sets with these lengths under these names, by what `cut` makes of one with a length
abbrev pub committed : {X : Type 0} → (ℕ → X → X) → List Name → List ℕ → Named X → Named X
committed cut [] lengths sets = sets
committed cut (name ∷ names) [] sets = sets
committed cut (name ∷ names) (most ∷ lengths) sets = committed cut names lengths (with_changed name (cut most) sets)

-- the length fits the data set, if it is there
abbrev pub IsWithinSpace : ℕ → Option Holding → Type 0
IsWithinSpace most None = Unit {0}
IsWithinSpace most (Some holding) = most ≤ holding.set.space

-- each of these lengths fits the data set of its name
abbrev pub AreWithinSpace : List Name → List ℕ → Named Holding → Type 0
AreWithinSpace [] lengths sets = Unit {0}
AreWithinSpace (name ∷ names) [] sets = Unit {0}
AreWithinSpace (name ∷ names) (most ∷ lengths) sets = IsWithinSpace most (entry_at sets name) × AreWithinSpace names lengths sets

-- whether a name isn't empty
abbrev pub is_named : Name → Bool
is_named [] = false
is_named (first ∷ rest) = true
