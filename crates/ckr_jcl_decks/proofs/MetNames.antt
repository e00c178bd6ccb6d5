-- A set with one more name.
use Rattle.std.proofs.Common.{◌≡◌, ◌||◌, [], ℕ, Bool, true, false, List, bytes_eq, refl, cond, Option, Some, None}
use Rattle.std.specs.BTreeSet as sorted
use Rattle.std.specs.BTreeSet.{BTreeSet}
use Rattle.std.specs.Cmp.Lexicographic.{slice_cmp}
use Rattle.std.specs.Ordering.{nat_cmp}
use Rattle.std.proofs.lemmas.Map.Text.{is_eq-slice_cmp}
use Rattle.ckr_jcl_operands.specs.declared.dd_values.DsnText.{DsnText}
use Rattle.ckr_jcl_operands.specs.declared.dd_values.DsnText.TheVariants.{Permanent, Passing, Referring, IllFormed}
use Rattle.ckr_jcl_decks.specs.MetNames.{was_met, dsn_met}

cond-or : (test rest : Bool) → cond test true rest ≡ (test || rest)
cond-or true rest = refl
cond-or false rest = refl

pub met_behind : (old new : BTreeSet (List ℕ)) (name : List ℕ) → sorted.Updates (slice_cmp nat_cmp) old new name true → (other : List ℕ) → was_met new other ≡ (bytes_eq name other || was_met old other)
unfolding was_met
met_behind old new name updates other =
    rw (updates.0 other, cond-or, is_eq-slice_cmp name other) refl

pub none_met : (names : BTreeSet (List ℕ)) (name : List ℕ) → names.keys ≡ [] → was_met names name ≡ false
unfolding was_met
none_met names name empty = rw empty refl

pub no_dsn_met : (permanent passing : BTreeSet (List ℕ)) (dsn : Option DsnText) → permanent.keys ≡ [] → passing.keys ≡ [] → dsn_met permanent passing dsn ≡ false
no_dsn_met permanent passing None some_empty empty = refl
no_dsn_met permanent passing (Some (Permanent name)) some_empty empty = none_met permanent name some_empty
no_dsn_met permanent passing (Some (Passing name)) some_empty empty = none_met passing name empty
no_dsn_met permanent passing (Some Referring) some_empty empty = refl
no_dsn_met permanent passing (Some IllFormed) some_empty empty = refl
