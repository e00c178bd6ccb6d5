-- What the dispositions of a step, and the end of a job, make of data sets and of the passed list.
use Rattle.std.specs.Prelude.{Bool, true, false, not, if◌then◌else◌, List, [], ◌∷◌, ◌++◌, filter}
use Rattle.ckr_jcl.specs.declared.deck.After.{After}
use Rattle.ckr_jcl.specs.declared.deck.After.TheVariants.{Delete, Keep, Pass, Catlg, Uncatlg}
use Rattle.ckr_library.specs.NameMaps.{Name, Named, same_name, with_changed, without_entry}
use Rattle.ckr_entry.specs.declared.point.Passed.{Passed}
use Rattle.ckr_meaning.specs.LibrarySet.{SetWays}

-- the data sets, and those that the run has passed on
pub record Stock (X : Type 0) : Type 0 where
  pub sets : Named X
  pub passed : List Passed

-- the list that a name has left
abbrev pub unpassed : Name → List Passed → List Passed
unpassed name passed = filter (λ one. not (same_name name one.name)) passed

-- a data set at the end of its step: what becomes of it, and whether the run made it
pub record Disposal : Type 0 where
  pub name : Name
  pub after : After
  pub made : Bool

abbrev pub sets_after : {X : Type 0} → SetWays X → After → Name → Named X → Named X
sets_after ways Delete name sets = without_entry name sets
sets_after ways Keep name sets = sets
sets_after ways Pass name sets = sets
sets_after ways Catlg name sets = with_changed name (ways.marked true) sets
sets_after ways Uncatlg name sets = with_changed name (ways.marked false) sets

-- a data set that was received leaves the list, and PASS enters it again
abbrev pub passed_after : After → Name → Bool → List Passed → List Passed
passed_after Delete name made passed = unpassed name passed
passed_after Keep name made passed = unpassed name passed
passed_after Pass name made passed = unpassed name passed ++ record { name = name; made = made } ∷ []
passed_after Catlg name made passed = unpassed name passed
passed_after Uncatlg name made passed = unpassed name passed

abbrev pub disposed_one : {X : Type 0} → SetWays X → Disposal → Stock X → Stock X
disposed_one ways disposal standing = record {
  sets = sets_after ways disposal.after disposal.name standing.sets;
  passed = passed_after disposal.after disposal.name disposal.made standing.passed;
}

-- after the dispositions of a step, in their order
abbrev pub disposed_all : {X : Type 0} → SetWays X → List Disposal → Stock X → Stock X
disposed_all ways [] standing = standing
disposed_all ways (disposal ∷ disposals) standing = disposed_all ways disposals (disposed_one ways disposal standing)

-- at a job's end the passed data sets that it made are deleted, and the others are kept
abbrev pub passed_ended : {X : Type 0} → List Passed → Named X → Named X
passed_ended [] sets = sets
passed_ended (one ∷ passed) sets = passed_ended passed (if one.made then without_entry one.name sets else sets)
