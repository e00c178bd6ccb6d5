-- No two DDs of a step have one name, and so no data set name stands twice.
use Rattle.std.proofs.Common.{◌≡◌, ℕ, Bool, true, false, ◌||◌, not, List, [], ◌∷◌, ◌++◌, map, Option, Some, None, refl, ap, sym, ◌∙◌}
use Rattle.std.proofs.lemmas.List.Folds.{list_any-append}
use Rattle.std.specs.Prelude.{bytes_eq}
use Rattle.std.specs.List.{AllByRecursion, cons_option, filter_map, list_any}
use Rattle.std.proofs.lemmas.Bool.{and_from, not-true, or_parts}
use Rattle.ckr_base.proofs.Sequences.{each-both}
use Rattle.ckr_base.proofs.Options.{option_or-none}
use Rattle.ckr_jcl.specs.declared.deck.Cond.{Cond}
use Rattle.ckr_jcl.specs.declared.deck.Dd.{Dd}
use Rattle.ckr_jcl.specs.declared.deck.Kind.{Kind}
use Rattle.ckr_jcl.specs.declared.deck.Step.{Step}
use Rattle.ckr_jcl_decks.specs.Parts.DdText.{DdText}
use Rattle.ckr_jcl_decks.specs.Parts.JobText.{JobText}
use Rattle.ckr_jcl_decks.specs.Parts.StepText.{StepText}
use Rattle.ckr_jcl_decks.specs.DeckFaults.{has_dd_name, has_dsn, has_step_name, is_repeated_dd, is_same_dsn, repeated_dd, repeated_in, repeated_name}
use Rattle.ckr_jcl_decks.specs.Deck.{dd_of, origin_of, step_with}
use Rattle.ckr_jcl.specs.Text.{if_holds}
use Rattle.ckr_library.specs.NameMaps.{Name, same_name}
use Rattle.ckr_uses.specs.SetNames.{run_name}
use Rattle.ckr_uses.specs.Uses.{are_distinct}
use Rattle.ckr_meaning.specs.EffectiveJob.{name_of}
use Rattle.ckr_points_library.specs.Holdings.{owned}
use Rattle.ckr_desk_turn.specs.DeckLimits.{HasNamesOnce}
use Rattle.ckr_desk_turn.proofs.Decks.Clashes.{if_none}
use Rattle.ckr_desk_turn.proofs.Decks.DistinctNames.{differ, names_differ, origin_own, origins_apart, stated_given}
use Rattle.ckr_desk_turn.proofs.Decks.DeckTests.{OfStep}
use Rattle.ckr_desk_turn.proofs.Decks.Texts.{AreStated, IsStated}

-- ---- each two of a list

record AreApart (dd other : DdText) : Type 0 where
  name : bytes_eq dd.name other.name ≡ false
  dsn : is_same_dsn dd.dsn other.dsn ≡ false

abbrev Pairs : {X : Type 0} → (X → X → Type 0) → List X → Type 0
Pairs R [] = Unit {0}
Pairs R (x ∷ xs) = AllByRecursion (R x) xs × Pairs R xs

-- a DD stands in the list: what no DD of the list meets, it doesn't meet
abbrev StandsIn : DdText → List DdText → Type 0
StandsIn dd dds = (test : DdText → Bool) → list_any test dds ≡ false → test dd ≡ false

stands_more : (dd other : DdText) (dds : List DdText) → StandsIn dd dds → StandsIn dd (dds ++ other ∷ [])
stands_more dd other dds there test none = there test (or_parts (list_any test dds) (test other || false) (sym (list_any-append test dds (other ∷ [])) ∙ none)).0

stands_last : (dd : DdText) (dds : List DdText) → StandsIn dd (dds ++ dd ∷ [])
stands_last dd dds test none = (or_parts (test dd) false (or_parts (list_any test dds) (test dd || false) (sym (list_any-append test dds (dd ∷ [])) ∙ none)).1).0

apart_behind : (dd : DdText) (before rest : List DdText) → StandsIn dd before → repeated_dd before rest ≡ None → AllByRecursion (AreApart dd) rest
apart_behind dd before [] there none = tt
apart_behind dd before (other ∷ rest) there none =
    let both = option_or-none (if_holds (is_repeated_dd before other) other.card) (repeated_dd (before ++ other ∷ []) rest) none in
    let free = or_parts (list_any (has_dd_name other.name) before) (list_any (has_dsn other.dsn) before) (if_none (is_repeated_dd before other) other.card both.0) in
    (record { name = there (has_dd_name other.name) free.0; dsn = there (has_dsn other.dsn) free.1 }, apart_behind dd (before ++ other ∷ []) rest (stands_more dd other before there) both.1)

pairs_apart : (before dds : List DdText) → repeated_dd before dds ≡ None → Pairs AreApart dds
pairs_apart before [] none = tt
pairs_apart before (dd ∷ rest) none =
    let later = (option_or-none (if_holds (is_repeated_dd before dd) dd.card) (repeated_dd (before ++ dd ∷ []) rest) none).1 in
    (apart_behind dd (before ++ dd ∷ []) rest (stands_last dd before) later, pairs_apart (before ++ dd ∷ []) rest later)

-- ---- their names

abbrev Differ : (Dd → Option Name) → DdText → DdText → Type 0
Differ named dd other = differ (named (dd_of dd)) (named (dd_of other)) ≡ true

apart_differ : (root owner : ℕ) (step : Step) (tests : List Cond) (program : Option Kind) (dd other : DdText) → IsStated program dd → IsStated program other → AreApart dd other
    → Differ (name_of root (owned step owner tests)) dd other
unfolding dd_of
apart_differ root owner step tests program dd other stated also apart =
    names_differ (origin_of dd) (origin_of other) (run_name root) (run_name owner) step.name dd.name other.name (origin_own dd (stated_given program dd stated)) (origin_own other (stated_given program other also))
    (origins_apart dd other apart.dsn) apart.name

name_alone : (named : Dd → Option Name) (name : Name) (dds : List DdText) → AllByRecursion (λ dd. differ (Some name) (named (dd_of dd)) ≡ true) dds → list_any (same_name name) (filter_map named (map dd_of dds)) ≡ false
name_alone named name [] all = refl
name_alone named name (dd ∷ rest) all = by_name (named (dd_of dd)) all.0 (name_alone named name rest all.1)
  where
    by_name : (found : Option Name) → differ (Some name) found ≡ true → list_any (same_name name) (filter_map named (map dd_of rest)) ≡ false
        → list_any (same_name name) (cons_option found (filter_map named (map dd_of rest))) ≡ false
    by_name None apart later = later
    by_name (Some other) apart later = rw (not-true (same_name name other) apart) later

names_once : (named : Dd → Option Name) (dds : List DdText) → Pairs (Differ named) dds → are_distinct (filter_map named (map dd_of dds)) ≡ true
names_once named [] pairs = refl
names_once named (dd ∷ rest) pairs = by_name (named (dd_of dd)) pairs.0 (names_once named rest pairs.1)
  where
    by_name : (found : Option Name) → AllByRecursion (λ other. differ found (named (dd_of other)) ≡ true) rest → are_distinct (filter_map named (map dd_of rest)) ≡ true
        → are_distinct (cons_option found (filter_map named (map dd_of rest))) ≡ true
    by_name None apart later = later
    by_name (Some name) apart later =
        and_from (not (list_any (same_name name) (filter_map named (map dd_of rest)))) (are_distinct (filter_map named (map dd_of rest))) (ap not (name_alone named name rest apart)) later

-- ---- a step

pairs_differ : (root owner : ℕ) (step : Step) (tests : List Cond) (program : Option Kind) (dds : List DdText) → AllByRecursion (IsStated program) dds → Pairs AreApart dds
    → Pairs (Differ (name_of root (owned step owner tests))) dds
pairs_differ root owner step tests program [] stated apart = tt
pairs_differ root owner step tests program (dd ∷ rest) stated apart = (
  each-both (IsStated program) (AreApart dd) (Differ (name_of root (owned step owner tests)) dd) rest
      (λ other also free. apart_differ root owner step tests program dd other stated.0 also free) stated.1 apart.0,
  pairs_differ root owner step tests program rest stated.1 apart.1,
)

pub step_once : (step : StepText) → AreStated step → repeated_dd [] step.dds ≡ None → OfStep HasNamesOnce step
unfolding step_with
step_once step stated none kind is root owner tests =
    names_once (name_of root (owned (step_with step kind) owner tests)) step.dds
    (pairs_differ root owner (step_with step kind) tests step.program step.dds stated (pairs_apart [] step.dds none))

each_alone : (before steps : List StepText) → repeated_in before steps ≡ None → AllByRecursion (λ step. repeated_dd [] step.dds ≡ None) steps
each_alone before [] none = tt
each_alone before (step ∷ rest) none =
    let behind = (option_or-none (if_holds (list_any (has_step_name step.name) before) step.card) _ none).1 in
    let both = option_or-none (repeated_dd [] step.dds) (repeated_in (before ++ step ∷ []) rest) behind in
    (both.0, each_alone (before ++ step ∷ []) rest both.1)

pub none_repeated : (job : JobText) → repeated_name job ≡ None → AllByRecursion (λ step. repeated_dd [] step.dds ≡ None) job.steps
unfolding repeated_name
none_repeated job none = each_alone [] job.steps none
