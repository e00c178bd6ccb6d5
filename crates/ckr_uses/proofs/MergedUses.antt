-- One use for each name: the same names, each once, exclusive where one of its uses is.
use Rattle.std.proofs.Common.{◌≡◌, Bool, true, false, not, ◌&&◌, ◌||◌, IsTrue, List, [], ◌∷◌, filter, map, refl, ap, sym, ◌∙◌, cond}
use Rattle.std.specs.List.{list_any}
use Rattle.std.proofs.lemmas.Bool.{and_from, not-true}
use Rattle.ckr_base.proofs.Bools.{and-first, and-second, bool-same, or-first-false, or-second-false}
use Rattle.ckr_library.specs.declared.uses.Use.{Use}
use Rattle.ckr_library.specs.NameMaps.{Name, same_name}
use Rattle.ckr_library.proofs.Named.{name-equivalence}
use Rattle.ckr_uses.specs.Uses.{IsMerged, are_distinct, is_exclusive_of, is_of, merged, names_in, names_once, use_among}
use Rattle.ckr_uses.proofs.Conflicts.{exclusive-respects, merged-any, some_of}
use Rattle.ckr_uses.proofs.SharedNames.{merged-exclusive}

names_in-among : (uses : List Use) (all : List Name) → names_in (map (use_among uses) all) ≡ all
names_in-among uses [] = refl
names_in-among uses (name ∷ all) = ap (λ rest. name ∷ rest) (names_in-among uses all)

-- ---- each once

left_out : (P q : Name → Bool) (all : List Name) → list_any P all ≡ false → list_any P (filter q all) ≡ false
left_out P q [] e = refl
left_out P q (name ∷ all) e =
    elim (q name) as (λ b. list_any P (cond b (name ∷ filter q all) (filter q all)) ≡ false) [
      | true ↦ ap (λ b. b || list_any P (filter q all)) (or-first-false (P name) (list_any P all) e) ∙ left_out P q all (or-second-false (P name) (list_any P all) e)
      | false ↦ left_out P q all (or-second-false (P name) (list_any P all) e)
    ]

distinct-filter : (q : Name → Bool) (all : List Name) → IsTrue (are_distinct all) → IsTrue (are_distinct (filter q all))
distinct-filter q [] e = refl
distinct-filter q (name ∷ all) e =
    elim (q name) as (λ b. IsTrue (are_distinct (cond b (name ∷ filter q all) (filter q all)))) [
      | true ↦ and_from (not (list_any (same_name name) (filter q all))) (are_distinct (filter q all))
          (ap not (left_out (same_name name) q all (not-true (list_any (same_name name) all) (and-first (not (list_any (same_name name) all)) (are_distinct all) e))))
          (distinct-filter q all (and-second (not (list_any (same_name name) all)) (are_distinct all) e))
      | false ↦ distinct-filter q all (and-second (not (list_any (same_name name) all)) (are_distinct all) e)
    ]

none_same : (name : Name) (all : List Name) → list_any (same_name name) (filter (λ other. not (same_name other name)) all) ≡ false
none_same name [] = refl
none_same name (other ∷ all) =
    elim (same_name other name) as (λ b. same_name other name ≡ b → list_any (same_name name) (cond (not b) (other ∷ filter (λ other. not (same_name other name)) all) (filter (λ other. not (same_name other name)) all)) ≡ false) [
      | true ↦ λ e. none_same name all
      | false ↦ λ e. ap (λ b. b || list_any (same_name name) (filter (λ other. not (same_name other name)) all)) (name-equivalence.symm name other ∙ e) ∙ none_same name all
    ] refl

once-distinct : (all : List Name) → IsTrue (are_distinct (names_once all))
once-distinct [] = refl
once-distinct (name ∷ all) =
    and_from (not (list_any (same_name name) (filter (λ other. not (same_name other name)) (names_once all)))) (are_distinct (filter (λ other. not (same_name other name)) (names_once all)))
    (ap not (none_same name (names_once all))) (distinct-filter (λ other. not (same_name other name)) (names_once all) (once-distinct all))

-- ---- the same names

of-respects : (name one other : Name) → same_name one other ≡ true → same_name name one ≡ same_name name other
of-respects name one other e = name-equivalence.symm name one ∙ name-equivalence.congr one other name e ∙ sym (name-equivalence.symm name other)

exclusive-up : (uses : List Use) (name : Name) → list_any (is_exclusive_of name) uses ≡ true → list_any (is_exclusive_of name) (merged uses) ≡ true
exclusive-up uses name e =
    let mine = some_of (is_exclusive_of name) uses e in
    let same = and-first (same_name name mine.0.name) mine.0.exclusive mine.2 in
    merged-any uses (is_exclusive_of name) (respects uses name)
    ∙ mine.1 (λ (used : Use). is_exclusive_of name (use_among uses used.name))
    (and_from (same_name name mine.0.name) (list_any (is_exclusive_of mine.0.name) uses) same
    (mine.1 (is_exclusive_of mine.0.name) (and_from (same_name mine.0.name mine.0.name) mine.0.exclusive (name-equivalence.refl mine.0.name) (and-second (same_name name mine.0.name) mine.0.exclusive mine.2))))
  where
    respects : (uses : List Use) (name one other : Name) → same_name one other ≡ true → is_exclusive_of name (use_among uses one) ≡ is_exclusive_of name (use_among uses other)
    respects uses name one other e =
        ap (λ b. b && list_any (is_exclusive_of one) uses) (of-respects name one other e)
        ∙ ap (λ b. same_name name other && b) (exclusive-respects uses one other e)

pub merged-is : (uses : List Use) → IsMerged uses (merged uses)
merged-is uses = record {
  once = ap are_distinct (names_in-among uses (names_once (names_in uses))) ∙ once-distinct (names_in uses);
  same = λ name. merged-any uses (is_of name) (of-respects name);
  exclusive = λ name. bool-same (list_any (is_exclusive_of name) (merged uses)) (list_any (is_exclusive_of name) uses) (merged-exclusive uses name) (exclusive-up uses name);
}
