-- Names that stand once, one more at a time.
use Rattle.std.proofs.Common.{◌≡◌, ◌<◌, ◌+◌, ℕ, Bool, true, false, ◌||◌, not, List, [], ◌∷◌, ◌++◌, length, take, get_or, filter, map, refl, ap, sym, ◌∙◌, subst, cond, append_assoc, append-nil}
use Rattle.std.specs.List.{list_any}
use Rattle.std.proofs.lemmas.List.{take_more, map-append}
use Rattle.std.proofs.lemmas.List.Elements.{filter-append}
use Rattle.ckr_library.specs.declared.uses.Use.{Use}
use Rattle.ckr_library.specs.NameMaps.{Name, same_name}
use Rattle.ckr_uses.specs.Uses.{names_once, names_in, use_among, is_of}

-- what a further name adds to the names that stand once
abbrev further : Bool → Name → List Name
further known last = cond known [] (last ∷ [])

abbrev is_known : List Name → Name → Bool
is_known names last = list_any (same_name last) names

further-filter : (p : Name → Bool) (last : Name) (same known : Bool) → p last ≡ not same → filter p (further known last) ≡ further (same || known) last
further-filter p last true true e = refl
further-filter p last false true e = refl
further-filter p last true false e = ap (λ b. cond b (last ∷ []) []) e
further-filter p last false false e = ap (λ b. cond b (last ∷ []) []) e

names_once-more : (names : List Name) (last : Name) → names_once (names ++ last ∷ []) ≡ names_once names ++ further (is_known names last) last
names_once-more [] last = refl
names_once-more (name ∷ names) last =
    ap (λ once. name ∷ filter (λ other. not (same_name other name)) once) (names_once-more names last)
    ∙ ap (λ once. name ∷ once) (filter-append (λ other. not (same_name other name)) (names_once names) (further (is_known names last) last))
    ∙ ap (λ once. name ∷ filter (λ other. not (same_name other name)) (names_once names) ++ once) (further-filter (λ other. not (same_name other name)) last (same_name last name) (is_known names last) refl)

is_known-names_in : (uses : List Use) (last : Name) → is_known (names_in uses) last ≡ list_any (is_of last) uses
is_known-names_in [] last = refl
is_known-names_in (used ∷ uses) last = ap (λ b. same_name last used.name || b) (is_known-names_in uses last)

-- one use more
names_in-more : (uses : List Use) (place : ℕ) (d : Use) → place < length uses → names_in (take (place + 1) uses) ≡ names_in (take place uses) ++ (get_or uses place d).name ∷ []
names_in-more uses place d h = ap names_in (take_more uses place d h) ∙ map-append (λ (used : Use). used.name) (take place uses) (get_or uses place d ∷ [])

once-more : (uses : List Use) (place : ℕ) (d : Use) → place < length uses → names_once (names_in (take (place + 1) uses)) ≡ names_once (names_in (take place uses)) ++ further (list_any (is_of (get_or uses place d).name) (take place uses)) (get_or uses place d).name
once-more uses place d h =
    ap names_once (names_in-more uses place d h)
    ∙ names_once-more (names_in (take place uses)) (get_or uses place d).name
    ∙ ap (λ known. names_once (names_in (take place uses)) ++ further known (get_or uses place d).name) (is_known-names_in (take place uses) (get_or uses place d).name)

abbrev merged_to : List Use → List Use → ℕ → List Use
merged_to all uses place = map (use_among all) (names_once (names_in (take place uses)))

merged-more : (all uses : List Use) (place : ℕ) (used : Use) → place < length uses → used ≡ get_or uses place used → merged_to all uses (place + 1) ≡ map (use_among all) (names_once (names_in (take place uses)) ++ further (list_any (is_of used.name) (take place uses)) used.name)
merged-more all uses place used h e =
    subst (λ (u : Use). merged_to all uses (place + 1) ≡ map (use_among all) (names_once (names_in (take place uses)) ++ further (list_any (is_of u.name) (take place uses)) u.name)) (sym e) (ap (map (use_among all)) (once-more uses place used h))

-- a use of a name that stands already
pub merged-known : (all uses : List Use) (place : ℕ) (used : Use) → place < length uses → used ≡ get_or uses place used → list_any (is_of used.name) (take place uses) ≡ true → map (use_among all) (names_once (names_in (take (place + 1) uses))) ≡ map (use_among all) (names_once (names_in (take place uses)))
merged-known all uses place used h e known =
    merged-more all uses place used h e
    ∙ ap (λ b. map (use_among all) (names_once (names_in (take place uses)) ++ further b used.name)) known
    ∙ ap (map (use_among all)) (append-nil (names_once (names_in (take place uses))))

-- a use of a new name
pub merged-new : (all uses : List Use) (place : ℕ) (used : Use) → place < length uses → used ≡ get_or uses place used → list_any (is_of used.name) (take place uses) ≡ false → map (use_among all) (names_once (names_in (take (place + 1) uses))) ≡ map (use_among all) (names_once (names_in (take place uses))) ++ use_among all used.name ∷ []
merged-new all uses place used h e new =
    merged-more all uses place used h e
    ∙ ap (λ b. map (use_among all) (names_once (names_in (take place uses)) ++ further b used.name)) new
    ∙ map-append (use_among all) (names_once (names_in (take place uses))) (used.name ∷ [])

-- ---- lists that grow by what each item gives

-- behind what stood there before
pub behind : {X : Type 0} (before some more new all : List X) → new ≡ before ++ some ++ more → all ≡ some ++ more → new ≡ before ++ all
behind before some more new all e f = e ∙ append_assoc before some more ∙ ap (λ xs. before ++ xs) (sym f)
