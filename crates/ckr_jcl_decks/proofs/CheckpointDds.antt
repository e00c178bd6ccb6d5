-- Names on CHKDD that were met, and the search for a DD that has one.
use Rattle.std.proofs.Common.{◌≡◌, ℕ, ◌+◌, ◌<◌, ◌||◌, Bool, true, false, List, [], ◌∷◌, ◌++◌, length, take, get_or, refl, sym, find, Option}
use Rattle.std.specs.BTreeSet.{BTreeSet}
use Rattle.std.specs.List.{list_any}
use Rattle.ckr_base.proofs.Bools.{or-false}
use Rattle.ckr_jcl_operands.specs.declared.dd_values.DsnText.{DsnText}
use Rattle.ckr_jcl_faults.specs.declared.deck_text.DdText.{DdText}
use Rattle.ckr_jcl_faults.specs.declared.deck_text.StepText.{StepText}
use Rattle.ckr_jcl_decks.specs.DeckFaults.{any_dd, dd_in_steps, is_checkpointed_on, meets_checkpoint}
use Rattle.ckr_jcl_decks.specs.MetNames.{dsn_met, is_met_dd}
use Rattle.ckr_jcl_decks.proofs.Repeats.{front}
use Rattle.ckr_jcl_decks.proofs.MetNames.{no_dsn_met}

or-assoc : (a b c : Bool) → ((a || b) || c) ≡ (a || (b || c))
or-assoc true b c = refl
or-assoc false b c = refl

or-turn : (a b c : Bool) → (a || (b || c)) ≡ ((b || a) || c)
or-turn true true c = refl
or-turn true false c = refl
or-turn false true c = refl
or-turn false false c = refl

any_dd-append : (test : DdText → Bool) (before : List StepText) (step : StepText) → any_dd test (before ++ step ∷ []) ≡ (any_dd test before || list_any test step.dds)
any_dd-append test [] step = or-false (list_any test step.dds)
any_dd-append test (first ∷ rest) step =
    rw (any_dd-append test rest step) (sym (or-assoc (list_any test first.dds) (any_dd test rest) (list_any test step.dds)))

-- the names of one more step were met
pub steps_met : (test : DdText → Bool) (steps : List StepText) (i : ℕ) (step : StepText) (old new first : Bool) → i < length steps → step ≡ get_or steps i step → new ≡ (list_any test step.dds || old) → old ≡ (any_dd test (take i steps) || first) → new ≡ (any_dd test (take (i + 1) steps) || first)
steps_met test steps i step old new first inside is met before =
    rw (front steps i step inside is, any_dd-append test (take i steps) step, met, before) (or-turn (list_any test step.dds) (any_dd test (take i steps)) first)

-- two tests that agree find the same
find-same : (p q : DdText → Bool) → ((dd : DdText) → p dd ≡ q dd) → (dds : List DdText) → find p dds ≡ find q dds
find-same p q same [] = refl
find-same p q same (dd ∷ rest) = rw (same dd, find-same p q same rest) refl

pub search-same : (p q : DdText → Bool) → ((dd : DdText) → p dd ≡ q dd) → (steps : List StepText) → dd_in_steps p steps ≡ dd_in_steps q steps
search-same p q same [] = refl
search-same p q same (step ∷ rest) = rw (find-same p q same step.dds, search-same p q same rest) refl

pub all_met : (steps : List StepText) (permanent passing no_permanent no_passing : BTreeSet (List ℕ)) → no_permanent.keys ≡ [] → no_passing.keys ≡ [] → ((dsn : Option DsnText) → dsn_met permanent passing dsn ≡ (any_dd (is_checkpointed_on dsn) steps || dsn_met no_permanent no_passing dsn)) → (dd : DdText) → is_met_dd permanent passing dd ≡ meets_checkpoint steps dd
all_met steps permanent passing no_permanent no_passing none empty met dd =
    rw (met dd.dsn, no_dsn_met no_permanent no_passing dd.dsn none empty, or-false (any_dd (is_checkpointed_on dd.dsn) steps)) refl
