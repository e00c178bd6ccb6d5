-- The passed list: what it enters as made, and what its end leaves.
use Rattle.std.proofs.Common.{◌≡◌, Bool, true, false, cond, not, ◌&&◌, ◌||◌, if◌then◌else◌, List, [], ◌∷◌, filter, map, refl, ap, sym, ◌∙◌, Option, None}
use Rattle.std.specs.List.{AllByRecursion, list_any}
use Rattle.std.specs.Option.{option_map}
use Rattle.std.proofs.lemmas.Bool.{false≢true, or_from, or_parts}
use Rattle.std.proofs.lemmas.List.Folds.{list_any-append}
use Rattle.ckr_base.proofs.Bools.{bool-cases}
use Rattle.ckr_base.proofs.Sequences.{any-filter}
use Rattle.ckr_entry.specs.declared.point.Passed.{Passed}
use Rattle.ckr_jcl.specs.declared.deck.After.{After}
use Rattle.ckr_jcl.specs.declared.deck.After.TheVariants.{Delete, Keep, Pass, Catlg, Uncatlg}
use Rattle.ckr_library.specs.NameMaps.{Name, Named, same_name, entry_at, without_entry}
use Rattle.ckr_library.proofs.Named.{at-with_changed, at-without_entry, name-same}
use Rattle.ckr_meaning.specs.LibrarySet.{SetWays}
use Rattle.ckr_meaning.specs.Dispositions.{Disposal, Stock, disposed_all, disposed_one, passed_after, passed_ended, sets_after, unpassed}
use Rattle.ckr_meaning.specs.EffectiveJob.{is_among}
use Rattle.ckr_points.specs.Marks.{without_passed}
use Rattle.ckr_points.specs.Office.{passed_made}

-- whether an entry of the list enters the name as made
abbrev enters : Name → Passed → Bool
enters name one = one.made && same_name name one.name

among_names : (passed : List Passed) (name : Name) → is_among (map (λ one. one.name) passed) name ≡ list_any (λ one. same_name name one.name) passed
among_names [] name = refl
among_names (one ∷ rest) name = ap (λ b. same_name name one.name || b) (among_names rest name)

pub among-made : (passed : List Passed) (name : Name) → is_among (passed_made passed) name ≡ list_any (enters name) passed
among-made passed name =
    among_names (filter (λ one. one.made) passed) name ∙ any-filter (λ (one : Passed). one.made) (λ one. same_name name one.name) passed

fewer : (kept : Passed → Bool) (test : Passed → Bool) (passed : List Passed) → list_any test passed ≡ false → list_any test (filter kept passed) ≡ false
fewer kept test [] none = refl
fewer kept test (one ∷ rest) none =
    by (or_parts (test one) (list_any test rest) none) (fewer kept test rest) (kept one)
  where
    by : (test one ≡ false) × (list_any test rest ≡ false) → (list_any test rest ≡ false → list_any test (filter kept rest) ≡ false) → (b : Bool) → list_any test (cond b (one ∷ filter kept rest) (filter kept rest)) ≡ false
    by both others true = or_from (test one) (list_any test (filter kept rest)) both.0 (others both.1)
    by both others false = others both.1

not_entered : (name : Name) (made same : Bool) → (same ≡ true → made ≡ false) → (made && same) ≡ false
not_entered name true true no_one = no_one refl
not_entered name true false no_one = refl
not_entered name false same no_one = refl

after_enters : (name : Name) (after : After) (disposed : Name) (made : Bool) (passed : List Passed) → (same_name name disposed ≡ true → made ≡ false) → list_any (enters name) passed ≡ false → list_any (enters name) (passed_after after disposed made passed) ≡ false
after_enters name Delete disposed made passed unless none = fewer (λ one. not (same_name disposed one.name)) (enters name) passed none
after_enters name Keep disposed made passed unless none = fewer (λ one. not (same_name disposed one.name)) (enters name) passed none
after_enters name Pass disposed made passed unless none =
    list_any-append (enters name) (unpassed disposed passed) (record { name = disposed; made = made } ∷ [])
    ∙ or_from (list_any (enters name) (unpassed disposed passed)) _ (fewer (λ one. not (same_name disposed one.name)) (enters name) passed none)
    (or_from (made && same_name name disposed) false (not_entered name made (same_name name disposed) unless) refl)
after_enters name Catlg disposed made passed unless none = fewer (λ one. not (same_name disposed one.name)) (enters name) passed none
after_enters name Uncatlg disposed made passed unless none = fewer (λ one. not (same_name disposed one.name)) (enters name) passed none

disposed_enters : {X : Type 0} (ways : SetWays X) (name : Name) (disposals : List Disposal) (standing : Stock X) → AllByRecursion (λ (one : Disposal). same_name name one.name ≡ true → one.made ≡ false) disposals → list_any (enters name) standing.passed ≡ false → list_any (enters name) (disposed_all ways disposals standing).passed ≡ false
disposed_enters ways name [] standing unless none = none
disposed_enters ways name (one ∷ rest) standing unless none =
    disposed_enters ways name rest (disposed_one ways one standing) unless.1 (after_enters name one.after one.name one.made standing.passed unless.0 none)

-- dispositions enter a name as made only where one of them says so
pub disposed-made : {X : Type 0} (ways : SetWays X) (name : Name) (disposals : List Disposal) (standing : Stock X) → AllByRecursion (λ (one : Disposal). same_name name one.name ≡ true → one.made ≡ false) disposals → is_among (passed_made standing.passed) name ≡ false → is_among (passed_made (disposed_all ways disposals standing).passed) name ≡ false
disposed-made ways name disposals standing unless none =
    among-made (disposed_all ways disposals standing).passed name
    ∙ disposed_enters ways name disposals standing unless (sym (among-made standing.passed name) ∙ none)

-- what the end of a run leaves: each name that its list doesn't enter as made
ended_leaves : {X : Type 0} (passed : List Passed) (sets : Named X) (name : Name) → list_any (enters name) passed ≡ false → entry_at (passed_ended passed sets) name ≡ entry_at sets name
ended_leaves [] sets name none = refl
ended_leaves {X = X} (one ∷ rest) sets name none =
    ended_leaves rest (if one.made then without_entry one.name sets else sets) name (or_parts (enters name one) (list_any (enters name) rest) none).1
    ∙ by one.made (or_parts (enters name one) (list_any (enters name) rest) none).0
  where
    by : (goes : Bool) → (goes && same_name name one.name) ≡ false → entry_at (if goes then without_entry one.name sets else sets) name ≡ entry_at sets name
    by true apart = at-without_entry one.name name sets ∙ ap (λ b. cond b None (entry_at sets name)) apart
    by false apart = refl

pub ended-leaves : {X : Type 0} (passed : List Passed) (sets : Named X) (name : Name) → is_among (passed_made passed) name ≡ false → entry_at (passed_ended passed sets) name ≡ entry_at sets name
ended-leaves passed sets name none = ended_leaves passed sets name (sym (among-made passed name) ∙ none)

-- ---- a list without names that were lost

-- what the end of a run leaves of a name
pub at-passed_ended : {X : Type 0} (passed : List Passed) (sets : Named X) (name : Name) → entry_at (passed_ended passed sets) name ≡ cond (is_among (passed_made passed) name) None (entry_at sets name)
at-passed_ended {X = X} passed sets name = by_list passed sets ∙ ap (λ b. cond b None (entry_at sets name)) (sym (among-made passed name))
  where
    goes : (made : Bool) (one : Passed) (sets : Named X) → entry_at (if made then without_entry one.name sets else sets) name ≡ cond (made && same_name name one.name) None (entry_at sets name)
    goes true one sets = at-without_entry one.name name sets
    goes false one sets = refl

    both : (here later : Bool) (entry : Option X) → cond later None (cond here None entry) ≡ cond (here || later) None entry
    both true true entry = refl
    both true false entry = refl
    both false later entry = refl

    by_list : (passed : List Passed) (sets : Named X) → entry_at (passed_ended passed sets) name ≡ cond (list_any (enters name) passed) None (entry_at sets name)
    by_list [] sets = refl
    by_list (one ∷ rest) sets =
        by_list rest (if one.made then without_entry one.name sets else sets) ∙ ap (cond (list_any (enters name) rest) None) (goes one.made one sets)
        ∙ both (enters name one) (list_any (enters name) rest) (entry_at sets name)

pub made-without : (lost : List Name) (passed : List Passed) (name : Name) → is_among (passed_made (without_passed lost passed)) name ≡ (not (is_among lost name) && is_among (passed_made passed) name)
made-without lost passed name =
    among-made (without_passed lost passed) name
    ∙ any-filter (λ (one : Passed). not (is_among lost one.name)) (enters name) passed
    ∙ by_list passed ∙ ap (λ b. not (is_among lost name) && b) (sym (among-made passed name))
  where
    here : (one : Passed) → (not (is_among lost one.name) && enters name one) ≡ (not (is_among lost name) && enters name one)
    here one =
        bool-cases (same_name name one.name)
        (λ same. ap (λ n. not (is_among lost n) && enters name one) (sym (name-same name one.name same)))
        (λ apart. ap (λ b. not (is_among lost one.name) && (one.made && b)) apart ∙ none (not (is_among lost one.name)) one.made ∙ sym (ap (λ b. not (is_among lost name) && (one.made && b)) apart ∙ none (not (is_among lost name)) one.made))
      where
        none : (a made : Bool) → (a && (made && false)) ≡ false
        none true true = refl
        none true false = refl
        none false made = refl

    spread : (a b c : Bool) → ((a && b) || (a && c)) ≡ (a && (b || c))
    spread true b c = refl
    spread false b c = refl

    nothing : (a : Bool) → false ≡ (a && false)
    nothing true = refl
    nothing false = refl

    by_list : (passed : List Passed) → list_any (λ (one : Passed). not (is_among lost one.name) && enters name one) passed ≡ (not (is_among lost name) && list_any (enters name) passed)
    by_list [] = nothing (not (is_among lost name))
    by_list (one ∷ rest) =
        ap (λ b. b || list_any (λ (one : Passed). not (is_among lost one.name) && enters name one) rest) (here one)
        ∙ ap (λ b. (not (is_among lost name) && enters name one) || b) (by_list rest)
        ∙ spread (not (is_among lost name)) (enters name one) (list_any (enters name) rest)

-- a name that isn't lost ends as in the whole list
pub ended-has : {X : Type 0} (lost : List Name) (passed : List Passed) (sets : Named X) (name : Name) → is_among lost name ≡ false → entry_at (passed_ended (without_passed lost passed) sets) name ≡ entry_at (passed_ended passed sets) name
ended-has lost passed sets name stays =
    at-passed_ended (without_passed lost passed) sets name
    ∙ ap (λ b. cond b None (entry_at sets name)) (made-without lost passed name ∙ ap (λ b. not b && is_among (passed_made passed) name) stays)
    ∙ sym (at-passed_ended passed sets name)

-- one that is lost, or isn't passed on as made, stays
pub ended-stays : {X : Type 0} (lost : List Name) (passed : List Passed) (sets : Named X) (name : Name) → (is_among lost name ≡ false → is_among (passed_made passed) name ≡ false) → entry_at (passed_ended (without_passed lost passed) sets) name ≡ entry_at sets name
ended-stays lost passed sets name unless =
    ended-leaves (without_passed lost passed) sets name
    (made-without lost passed name
    ∙ bool-cases (is_among lost name)
    (λ gone. ap (λ b. not b && is_among (passed_made passed) name) gone)
    (λ stays. ap (λ b. not b && is_among (passed_made passed) name) stays ∙ unless stays))

-- ---- names that aren't disposed of

pub after-apart : {X : Type 0} (ways : SetWays X) (after : After) (other name : Name) (sets : Named X) → same_name name other ≡ false → entry_at (sets_after ways after other sets) name ≡ entry_at sets name
after-apart ways Delete other name sets apart = at-without_entry other name sets ∙ ap (λ b. cond b None (entry_at sets name)) apart
after-apart ways Keep other name sets apart = refl
after-apart ways Pass other name sets apart = refl
after-apart ways Catlg other name sets apart = at-with_changed other name (ways.marked true) sets ∙ ap (λ b. cond b (option_map (ways.marked true) (entry_at sets name)) (entry_at sets name)) apart
after-apart ways Uncatlg other name sets apart = at-with_changed other name (ways.marked false) sets ∙ ap (λ b. cond b (option_map (ways.marked false) (entry_at sets name)) (entry_at sets name)) apart

pub disposed-apart : {X : Type 0} (ways : SetWays X) (disposals : List Disposal) (standing : Stock X) (name : Name) → AllByRecursion (λ (one : Disposal). same_name name one.name ≡ false) disposals → entry_at (disposed_all ways disposals standing).sets name ≡ entry_at standing.sets name
disposed-apart ways [] standing name apart = refl
disposed-apart ways (one ∷ rest) standing name apart =
    disposed-apart ways rest (disposed_one ways one standing) name apart.1 ∙ after-apart ways one.after one.name name standing.sets apart.0

pub apart-unmade : (disposals : List Disposal) (name : Name) → AllByRecursion (λ (one : Disposal). same_name name one.name ≡ false) disposals → AllByRecursion (λ (one : Disposal). same_name name one.name ≡ true → one.made ≡ false) disposals
apart-unmade [] name apart = tt
apart-unmade (one ∷ rest) name apart = (λ same. absurd (false≢true (sym apart.0 ∙ same)), apart-unmade rest name apart.1)
