-- What dispositions make of a name in the passed list: it is one that they pass on or that was in the list, and its data set is there.
use Rattle.std.proofs.Common.{◌≡◌, Bool, true, false, cond, not, ◌||◌, List, [], ◌∷◌, map, refl, ap, sym, ◌∙◌}
use Rattle.std.specs.List.{AllByRecursion, list_any}
use Rattle.std.specs.Option.{is_some}
use Rattle.std.proofs.lemmas.Bool.{false≢true, not-true, or_right}
use Rattle.std.proofs.lemmas.List.Folds.{list_any-append}
use Rattle.ckr_base.proofs.Bools.{and-first, and-second, bool-cases, or-false}
use Rattle.ckr_entry.specs.declared.point.Passed.{Passed}
use Rattle.ckr_jcl.specs.declared.deck.After.{After}
use Rattle.ckr_jcl.specs.declared.deck.After.TheVariants.{Delete, Keep, Pass, Catlg, Uncatlg}
use Rattle.ckr_library.specs.NameMaps.{Name, same_name, entry_at}
use Rattle.ckr_library.proofs.Named.{name-same}
use Rattle.ckr_meaning.specs.LibrarySet.{SetWays}
use Rattle.ckr_meaning.specs.Dispositions.{Disposal, Stock, disposed_all, disposed_one, passed_after, sets_after, unpassed}
use Rattle.ckr_meaning.specs.EffectiveJob.{is_among}
use Rattle.ckr_uses.specs.Uses.{are_distinct}
use Rattle.ckr_points_invariant.proofs.Library.PassedList.{after-apart}

-- whether a name is in a passed list
abbrev pub is_listed : Name → List Passed → Bool
is_listed name passed = list_any (λ one. same_name name one.name) passed

-- ---- one disposition

unpassed-itself : (name : Name) (passed : List Passed) → is_listed name (unpassed name passed) ≡ false
unpassed-itself name [] = refl
unpassed-itself name (one ∷ rest) =
    bool-cases (same_name name one.name)
    (λ same. ap (λ b. is_listed name (cond (not b) (one ∷ unpassed name rest) (unpassed name rest))) same ∙ unpassed-itself name rest)
    (λ apart.
    ap (λ b. is_listed name (cond (not b) (one ∷ unpassed name rest) (unpassed name rest))) apart
    ∙ ap (λ b. b || is_listed name (unpassed name rest)) apart ∙ unpassed-itself name rest)

unpassed-other : (name other : Name) (passed : List Passed) → same_name name other ≡ false → is_listed name (unpassed other passed) ≡ is_listed name passed
unpassed-other name other [] apart = refl
unpassed-other name other (one ∷ rest) apart =
    bool-cases (same_name other one.name)
    (λ same.
    ap (λ b. is_listed name (cond (not b) (one ∷ unpassed other rest) (unpassed other rest))) same
    ∙ unpassed-other name other rest apart
    ∙ sym (ap (λ b. b || is_listed name rest) (ap (same_name name) (sym (name-same other one.name same)) ∙ apart)))
    (λ differs.
    ap (λ b. is_listed name (cond (not b) (one ∷ unpassed other rest) (unpassed other rest))) differs
    ∙ ap (λ b. same_name name one.name || b) (unpassed-other name other rest apart))

-- another name stays in the list, or out of it
listed-other : (name : Name) (after : After) (other : Name) (made : Bool) (passed : List Passed) → same_name name other ≡ false → is_listed name (passed_after after other made passed) ≡ is_listed name passed
listed-other name Delete other made passed apart = unpassed-other name other passed apart
listed-other name Keep other made passed apart = unpassed-other name other passed apart
listed-other name Pass other made passed apart =
    list_any-append (λ (one : Passed). same_name name one.name) (unpassed other passed) (record { name = other; made = made } ∷ [])
    ∙ ap (λ b. is_listed name (unpassed other passed) || (b || false)) apart
    ∙ or-false (is_listed name (unpassed other passed)) ∙ unpassed-other name other passed apart
listed-other name Catlg other made passed apart = unpassed-other name other passed apart
listed-other name Uncatlg other made passed apart = unpassed-other name other passed apart

-- a name leaves the list that isn't passed on
listed-itself : (name : Name) (after : After) (other : Name) (made : Bool) (passed : List Passed) → same_name name other ≡ true → is_listed name (unpassed other passed) ≡ false
listed-itself name after other made passed same = ap (λ n. is_listed name (unpassed n passed)) (sym (name-same name other same)) ∙ unpassed-itself name passed

-- where a name is in the list, its data set is there
abbrev pub IsThere : {X : Type 0} → Name → Stock X → Type 0
IsThere name standing = is_listed name standing.passed ≡ true → is_some (entry_at standing.sets name) ≡ true

abbrev pub disposal_names : List Disposal → List Name
disposal_names disposals = map (λ one. one.name) disposals

module _ {X : Type 0} (ways : SetWays X) (name : Name) where
  there-by : (after : After) (other : Name) (made : Bool) (standing : Stock X) → same_name name other ≡ true → is_some (entry_at standing.sets name) ≡ true → is_listed name (passed_after after other made standing.passed) ≡ true → is_some (entry_at (sets_after ways after other standing.sets) name) ≡ true
  there-by Delete other made standing same there listed = absurd (false≢true (sym (listed-itself name Delete other made standing.passed same) ∙ listed))
  there-by Keep other made standing same there listed = there
  there-by Pass other made standing same there listed = there
  there-by Catlg other made standing same there listed = absurd (false≢true (sym (listed-itself name Catlg other made standing.passed same) ∙ listed))
  there-by Uncatlg other made standing same there listed = absurd (false≢true (sym (listed-itself name Uncatlg other made standing.passed same) ∙ listed))

  there-one : (one : Disposal) (standing : Stock X) → (same_name name one.name ≡ true → is_some (entry_at standing.sets name) ≡ true) → IsThere name standing → IsThere name (disposed_one ways one standing)
  there-one one standing mine there listed =
      bool-cases (same_name name one.name)
      (λ same. there-by one.after one.name one.made standing same (mine same) listed)
      (λ apart.
      ap is_some (after-apart ways one.after one.name name standing.sets apart)
      ∙ there (sym (listed-other name one.after one.name one.made standing.passed apart) ∙ listed))

  -- after dispositions of different names, each of which is there before
  pub there-all : (disposals : List Disposal) (standing : Stock X) → are_distinct (disposal_names disposals) ≡ true → (is_among (disposal_names disposals) name ≡ true → is_some (entry_at standing.sets name) ≡ true) → IsThere name standing → IsThere name (disposed_all ways disposals standing)
  there-all [] standing distinct mine there = there
  there-all (one ∷ rest) standing distinct mine there =
      there-all rest (disposed_one ways one standing) (and-second (not (is_among (disposal_names rest) one.name)) _ distinct)
      (λ among.
      bool-cases (same_name name one.name)
      (λ same.
      absurd (false≢true (
      sym (not-true (is_among (disposal_names rest) one.name) (and-first (not (is_among (disposal_names rest) one.name)) _ distinct))
      ∙ ap (is_among (disposal_names rest)) (sym (name-same name one.name same)) ∙ among)))
      (λ apart. ap is_some (after-apart ways one.after one.name name standing.sets apart) ∙ mine (or_right (same_name name one.name) (is_among (disposal_names rest) name) among)))
      (there-one one standing (λ same. mine (ap (λ b. b || is_among (disposal_names rest) name) same)) there)

  -- a name in the list was in it, or is one that is disposed of
  pub listed-from : (disposals : List Disposal) (standing : Stock X) → is_listed name (disposed_all ways disposals standing).passed ≡ true → (is_among (disposal_names disposals) name || is_listed name standing.passed) ≡ true
  listed-from [] standing listed = listed
  listed-from (one ∷ rest) standing listed =
      bool-cases (same_name name one.name)
      (λ same. ap (λ b. b || is_among (disposal_names rest) name || is_listed name standing.passed) same)
      (λ apart.
      ap (λ b. b || is_among (disposal_names rest) name || is_listed name standing.passed) apart
      ∙ sym (ap (λ b. is_among (disposal_names rest) name || b) (listed-other name one.after one.name one.made standing.passed apart))
      ∙ listed-from rest (disposed_one ways one standing) listed)

  kept-out : (after : After) (other : Name) (made : Bool) (passed : List Passed) → (same_name name other ≡ true → after ≡ Keep) → is_listed name passed ≡ false → is_listed name (passed_after after other made passed) ≡ false
  kept-out after other made passed unless out =
      bool-cases (same_name name other)
      (λ same. ap (λ a. is_listed name (passed_after a other made passed)) (unless same) ∙ listed-itself name Keep other made passed same)
      (λ apart. listed-other name after other made passed apart ∙ out)

  -- one that is kept where it is disposed of stays out of it
  pub unlisted-all : (disposals : List Disposal) (standing : Stock X) → AllByRecursion (λ (one : Disposal). same_name name one.name ≡ true → one.after ≡ Keep) disposals → is_listed name standing.passed ≡ false → is_listed name (disposed_all ways disposals standing).passed ≡ false
  unlisted-all [] standing keeps out = out
  unlisted-all (one ∷ rest) standing keeps out =
      unlisted-all rest (disposed_one ways one standing) keeps.1 (kept-out one.after one.name one.made standing.passed keeps.0 out)
