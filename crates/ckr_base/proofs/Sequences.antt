-- General facts of lists: what a search finds (find-), tests of all (all-) and of some (any-), what holds of each (each-), places (get-, set-, position-), fronts (take-, drop-).
-- get-inside             where something stands, the place is inside
-- get-from               what is read inside stands there
-- get-set-same           at the place that is set
-- get-set-other          at another place
-- set-same               what stands there, set again
-- set-again              the later of two sets stays
-- position-some          the place that position finds
-- position-none          nothing found: no place inside
-- find-passes            what is found passes the test
-- find-holds             what holds of each holds of what is found
-- find-all               what all pass, what is found passes
-- find-any               what is found stands in the list
-- find-same              tests that agree find the same
-- find-nothing           where nothing is found, no other find passes
-- all-take               a test of all, of a front
-- all-drop               a test of all, of what is behind a front
-- all-at                 a test of all, at one that passes another test
-- all-get                a test of all, at a place
-- all-implies            a weaker test of all
-- any-filter             a test of some that are kept
-- any-filter_map         a test of some that are mapped
-- each-implies           something weaker holds of each
-- each-append            of each of two lists
-- each-get               what holds of each, at a place
-- take-drop              a list is its front and the rest
-- take-most              a front longer than the list is the list
-- take-next              a front that is one longer
-- length-take            the length of a front that ends before an item
-- append-cancel          the same front goes from both sides
-- drop-seam              two stretches of a list on end
-- take-front             the front of front ++ rest
-- drop-front             the rest of front ++ rest
-- drop-at                what is behind a place begins with it
-- filter-twice           kept twice is kept once
-- option-list            an optional item as a list
-- filter_map-more        a front that is one longer, mapped
-- replicate-room         filled up, a list has the length
-- length-fitted          the length of what is cut or filled up
-- find-filter            what is found is found among those that are kept, if it is kept
-- find-filter-none       where nothing is found, nothing is among those that are kept
-- find-append            one more that passes, behind some that don't
-- all-same               tests that agree, of all
-- any-second             where some pass both tests, some pass the second
-- each-filter            of each that is kept
-- each-passes            of each that is kept, and it passes the test
-- each-both              two facts of each
-- each-by_place          of each, where it holds at each place
-- last-holds             what holds of each holds of the last
-- last-append            the last is what is put behind
-- get-there              there is an item at each place inside
-- get-some               the same, as a test
-- get-append-last        what is put behind stands at the end
-- get-append-front       elsewhere stands what stood there
-- drop-get               what is behind a place begins with what stands there
-- take-short             a front is no longer than the list
-- head-same, tail-same   equal lists begin alike and go on alike
use Rattle.std.proofs.Common.{Bool, IsSome, List, None, Option, Some, [], ap, append_assoc, arith, cond, drop, drop-cons, false, filter, get_or, length, nat_lt, refl, replicate, slice_get, slice_index_or, slice_set, subst, suc, sym, take, true, true≢false, zero, ℕ, ◌&&◌, ◌++◌, ◌+◌, ◌<◌, ◌||◌, ◌∙◌, ◌∷◌, ◌≡◌, ◌≢◌, ◌≤◌}
use Rattle.std.proofs.Math.Seq.{drop-append_seam, take-append_seam}
use Rattle.std.proofs.lemmas.Bool.{and_from, false≢true, or_left, or_right}
use Rattle.std.proofs.lemmas.Bool.Decides.{nat_tests}
use Rattle.std.proofs.lemmas.List.{length-append, length-replicate, length-take-le, take_more}
use Rattle.std.proofs.lemmas.List.Elements.{filter_map-append}
use Rattle.std.proofs.lemmas.Option.{none-some, same_Some, slice_get_read}
use Rattle.std.specs.List.{AllByRecursion, cons_option, filter_map, find, last_or, list_all, list_any, position, position_or_len}
use Rattle.std.specs.Option.{option_map_or, option_to_list}
use Rattle.ckr_base.proofs.Bools.{and-first, and-second, bool-cases}
use Rattle.ckr_base.proofs.Numbers.{suc-is-plus}
use Rattle.ckr_base.proofs.Options.{some-not-none}

-- an item stands inside its list
pub get-inside : {A : Type 0} (item : A) (items : List A) (i : ℕ) → slice_get items i ≡ Some item → i < length items
get-inside item [] i at = absurd (some-not-none _ (sym at))
get-inside item (first ∷ items) zero at = omega arith
get-inside item (first ∷ items) (suc i) at = omega (arith, get-inside item items i at)

-- what is read at a place inside a list stands there
pub get-from : {A : Type 0} (items : List A) (place : ℕ) (item : A) → place < length items → item ≡ slice_index_or items place item → slice_get items place ≡ Some item
get-from items place item inside is = slice_get_read items (length items) place item refl inside is

pub get-set-same : {X : Type 0} (xs : List X) (place : ℕ) (x old : X) → slice_get xs place ≡ Some old → slice_get (slice_set xs place x) place ≡ Some x
get-set-same [] place x old at = absurd (some-not-none old (sym at))
get-set-same (first ∷ rest) zero x old at = refl
get-set-same (first ∷ rest) (suc place) x old at = get-set-same rest place x old at

pub get-set-other : {X : Type 0} (xs : List X) (place other : ℕ) (x : X) → other ≢ place → slice_get (slice_set xs place x) other ≡ slice_get xs other
get-set-other [] zero other x apart = refl
get-set-other [] (suc place) other x apart = refl
get-set-other (first ∷ rest) zero zero x apart = absurd (apart refl)
get-set-other (first ∷ rest) zero (suc other) x apart = refl
get-set-other (first ∷ rest) (suc place) zero x apart = refl
get-set-other (first ∷ rest) (suc place) (suc other) x apart = get-set-other rest place other x (λ e. apart (ap suc e))

-- what stands at a place put there again
pub set-same : {A : Type 0} (items : List A) (place : ℕ) (item : A) → slice_get items place ≡ Some item → slice_set items place item ≡ items
set-same [] place item found = refl
set-same (first ∷ items) zero item found = ap (λ one. one ∷ items) (sym (same_Some first item found))
set-same (first ∷ items) (suc place) item found = ap (λ rest. first ∷ rest) (set-same items place item found)

pub set-again : {A : Type 0} (items : List A) (place : ℕ) (one other : A) → slice_set (slice_set items place one) place other ≡ slice_set items place other
set-again [] place one other = refl
set-again (first ∷ items) zero one other = refl
set-again (first ∷ items) (suc place) one other = ap (λ rest. first ∷ rest) (set-again items place one other)

pub position-some : {X : Type 0} (p : X → Bool) (xs : List X) (place : ℕ) → Some place ≡ position p xs → (place ≡ position_or_len p xs) × (place < length xs)
position-some p xs place e = split (nat_lt (position_or_len p xs) (length xs)) refl e
  where
    split : (b : Bool) → nat_lt (position_or_len p xs) (length xs) ≡ b → Some place ≡ cond b (Some (position_or_len p xs)) None → (place ≡ position_or_len p xs) × (place < length xs)
    split true inside e = (same_Some place (position_or_len p xs) e, within place (position_or_len p xs) (length xs) (same_Some place (position_or_len p xs) e) inside)
      where
        within : (a b n : ℕ) → a ≡ b → nat_lt b n ≡ true → a < n
        within a b n e lt = grind (arith, nat_tests)
    split false beyond e = absurd (some-not-none place e)

pub position-none : {X : Type 0} (p : X → Bool) (xs : List X) → None ≡ position p xs → length xs ≤ position_or_len p xs
position-none p xs e = split (nat_lt (position_or_len p xs) (length xs)) refl e
  where
    split : (b : Bool) → nat_lt (position_or_len p xs) (length xs) ≡ b → None ≡ cond b (Some (position_or_len p xs)) None → length xs ≤ position_or_len p xs
    split true inside e = absurd (none-some (position_or_len p xs) e)
    split false beyond e = grind (arith, nat_tests)

-- what is found passes the test, and what holds of all holds of it
pub find-passes : {X : Type 0} (test : X → Bool) (xs : List X) (x : X) → find test xs ≡ Some x → test x ≡ true
find-passes test [] x e = absurd (some-not-none x (sym e))
find-passes test (first ∷ rest) x e = bool-cases (test first)
    (λ does. subst (λ y. test y ≡ true) (same_Some first x (sym (ap (λ b. cond b (Some first) (find test rest)) does) ∙ e)) does)
    (λ isnt. find-passes test rest x (sym (ap (λ b. cond b (Some first) (find test rest)) isnt) ∙ e))

pub find-holds : {X : Type 0} (P : X → Type 0) (test : X → Bool) (xs : List X) (x : X) → AllByRecursion P xs → find test xs ≡ Some x → P x
find-holds P test [] x each e = absurd (some-not-none x (sym e))
find-holds P test (first ∷ rest) x each e = bool-cases (test first)
    (λ does. subst P (same_Some first x (sym (ap (λ b. cond b (Some first) (find test rest)) does) ∙ e)) each.0)
    (λ isnt. find-holds P test rest x each.1 (sym (ap (λ b. cond b (Some first) (find test rest)) isnt) ∙ e))

pub find-all : {X : Type 0} (all test : X → Bool) (xs : List X) (x : X) → list_all all xs ≡ true → find test xs ≡ Some x → all x ≡ true
find-all all test [] x each e = absurd (some-not-none x (sym e))
find-all all test (first ∷ rest) x each e = bool-cases (test first)
    (λ does. subst (λ y. all y ≡ true) (same_Some first x (sym (ap (λ b. cond b (Some first) (find test rest)) does) ∙ e)) (and-first (all first) (list_all all rest) each))
    (λ isnt. find-all all test rest x (and-second (all first) (list_all all rest) each) (sym (ap (λ b. cond b (Some first) (find test rest)) isnt) ∙ e))

-- what is found is in the list
pub find-any : {X : Type 0} (test other : X → Bool) (xs : List X) (x : X) → find test xs ≡ Some x → other x ≡ true → list_any other xs ≡ true
find-any test other [] x e passes = absurd (some-not-none x (sym e))
find-any test other (first ∷ rest) x e passes = bool-cases (test first)
    (λ does. or_left (other first) (list_any other rest) (subst (λ y. other y ≡ true) (sym (same_Some first x (sym (ap (λ b. cond b (Some first) (find test rest)) does) ∙ e))) passes))
    (λ isnt. or_right (other first) (list_any other rest) (find-any test other rest x (sym (ap (λ b. cond b (Some first) (find test rest)) isnt) ∙ e) passes))

-- tests that agree find the same
pub find-same : {X : Type 0} (all one other : X → Bool) (xs : List X) → list_all all xs ≡ true → ((x : X) → all x ≡ true → one x ≡ other x) → find one xs ≡ find other xs
find-same all one other [] each same = refl
find-same all one other (first ∷ rest) each same =
    ap (λ b. cond b (Some first) (find one rest)) (same first (and-first (all first) (list_all all rest) each))
    ∙ ap (cond (other first) (Some first)) (find-same all one other rest (and-second (all first) (list_all all rest) each) same)

-- where nothing is found, what another search finds doesn't pass
pub find-nothing : {X : Type 0} (test other : X → Bool) (xs : List X) (x : X) → find test xs ≡ None → find other xs ≡ Some x → test x ≡ false
find-nothing test other [] x none e = absurd (some-not-none x (sym e))
find-nothing test other (first ∷ rest) x none e = bool-cases (test first)
    (λ does. absurd (some-not-none first (sym (ap (λ b. cond b (Some first) (find test rest)) does) ∙ none)))
    (λ isnt. bool-cases (other first)
    (λ its. subst (λ y. test y ≡ false) (same_Some first x (sym (ap (λ b. cond b (Some first) (find other rest)) its) ∙ e)) isnt)
    (λ out. find-nothing test other rest x (sym (ap (λ b. cond b (Some first) (find test rest)) isnt) ∙ none) (sym (ap (λ b. cond b (Some first) (find other rest)) out) ∙ e)))

pub all-take : {X : Type 0} (all : X → Bool) (count : ℕ) (xs : List X) → list_all all xs ≡ true → list_all all (take count xs) ≡ true
all-take all zero xs each = refl
all-take all (suc count) [] each = refl
all-take all (suc count) (first ∷ rest) each =
    and_from (all first) (list_all all (take count rest)) (and-first (all first) (list_all all rest) each) (all-take all count rest (and-second (all first) (list_all all rest) each))

pub all-drop : {X : Type 0} (all : X → Bool) (count : ℕ) (xs : List X) → list_all all xs ≡ true → list_all all (drop count xs) ≡ true
all-drop all zero xs each = each
all-drop all (suc count) [] each = refl
all-drop all (suc count) (first ∷ rest) each = all-drop all count rest (and-second (all first) (list_all all rest) each)

-- a test of all, at one that some test finds
pub all-at : {X : Type 0} (all test : X → Bool) (xs : List X) → list_all all xs ≡ true → list_any test xs ≡ true → (x : X) × (all x ≡ true) × (test x ≡ true)
all-at all test [] each some = absurd (true≢false (sym some))
all-at all test (first ∷ rest) each some = bool-cases (test first)
    (λ does. (first, and-first (all first) (list_all all rest) each, does))
    (λ isnt. all-at all test rest (and-second (all first) (list_all all rest) each) (sym (ap (λ b. b || list_any test rest) isnt) ∙ some))

pub all-get : {X : Type 0} (all : X → Bool) (xs : List X) (place : ℕ) (x : X) → list_all all xs ≡ true → slice_get xs place ≡ Some x → all x ≡ true
all-get all [] place x each e = absurd (some-not-none x (sym e))
all-get all (first ∷ rest) zero x each e = subst (λ y. all y ≡ true) (same_Some first x e) (and-first (all first) (list_all all rest) each)
all-get all (first ∷ rest) (suc place) x each e = all-get all rest place x (and-second (all first) (list_all all rest) each) e

pub all-implies : {X : Type 0} (all other : X → Bool) (xs : List X) → ((x : X) → all x ≡ true → other x ≡ true) → list_all all xs ≡ true → list_all other xs ≡ true
all-implies all other [] weaker each = refl
all-implies all other (first ∷ rest) weaker each =
    and_from (other first) (list_all other rest) (weaker first (and-first (all first) (list_all all rest) each)) (all-implies all other rest weaker (and-second (all first) (list_all all rest) each))

pub any-filter : {X : Type 0} (kept test : X → Bool) (xs : List X) → list_any test (filter kept xs) ≡ list_any (λ x. kept x && test x) xs
any-filter kept test [] = refl
any-filter kept test (first ∷ rest) =
    elim (kept first) as (λ b. list_any test (cond b (first ∷ filter kept rest) (filter kept rest)) ≡ ((b && test first) || list_any (λ x. kept x && test x) rest)) [
      | true ↦ ap (λ b. test first || b) (any-filter kept test rest)
      | false ↦ any-filter kept test rest
    ]

pub any-filter_map : {A B : Type 0} (f : A → Option B) (test : B → Bool) (items : List A) → list_any test (filter_map f items) ≡ list_any (λ item. option_map_or test (f item) false) items
any-filter_map f test [] = refl
any-filter_map {A} {B} f test (item ∷ items) = by (f item) (any-filter_map f test items)
  where
    by : (found : Option B) → list_any test (filter_map f items) ≡ list_any (λ one. option_map_or test (f one) false) items → list_any test (cons_option found (filter_map f items)) ≡ (option_map_or test found false || list_any (λ one. option_map_or test (f one) false) items)
    by None rest = rest
    by (Some other) rest = ap (λ b. test other || b) rest

pub each-implies : {X : Type 0} (P Q : X → Type 0) (xs : List X) → ((x : X) → P x → Q x) → AllByRecursion P xs → AllByRecursion Q xs
each-implies P Q [] weaker each = tt
each-implies P Q (x ∷ xs) weaker each = (weaker x each.0, each-implies P Q xs weaker each.1)

pub each-append : {X : Type 0} (P : X → Type 0) (xs ys : List X) → AllByRecursion P xs → AllByRecursion P ys → AllByRecursion P (xs ++ ys)
each-append P [] ys all more = more
each-append P (x ∷ xs) ys all more = (all.0, each-append P xs ys all.1 more)

pub each-get : {X : Type 0} (P : X → Type 0) (xs : List X) (place : ℕ) (x : X) → AllByRecursion P xs → slice_get xs place ≡ Some x → P x
each-get P [] place x each at = absurd (some-not-none x (sym at))
each-get P (first ∷ xs) zero x each at = subst P (same_Some first x at) each.0
each-get P (first ∷ xs) (suc place) x each at = each-get P xs place x each.1 at

-- the front of a list, and what is behind it
pub take-drop : {X : Type 0} (count : ℕ) (items : List X) → items ≡ take count items ++ drop count items
take-drop zero items = refl
take-drop (suc count) [] = refl
take-drop (suc count) (first ∷ rest) = ap (λ others. first ∷ others) (take-drop count rest)

pub take-most : {A : Type 0} (n : ℕ) (items : List A) → length items ≤ n → take n items ≡ items
take-most zero [] most = refl
take-most (suc n) [] most = refl
take-most zero (item ∷ items) most = absurd (omega (arith, most))
take-most (suc n) (item ∷ items) most = ap (λ rest. item ∷ rest) (take-most n items (omega (arith, most)))

pub take-front : (n : ℕ) (xs ys : List ℕ) → length xs ≡ n → take n (xs ++ ys) ≡ xs
take-front n xs ys size = ap (λ k. take k (xs ++ ys)) (sym size) ∙ take-append_seam xs ys

pub drop-front : (n : ℕ) (xs ys : List ℕ) → length xs ≡ n → drop n (xs ++ ys) ≡ ys
drop-front n xs ys size = ap (λ k. drop k (xs ++ ys)) (sym size) ∙ drop_seam xs ys
  where
    drop_seam : (xs ys : List ℕ) → drop (length xs) (xs ++ ys) ≡ ys
    drop_seam [] ys = refl
    drop_seam (x ∷ xs) ys = drop_seam xs ys

pub drop-at : {A : Type 0} (items : List A) (place : ℕ) (item : A) → place < length items → item ≡ get_or items place item → drop place items ≡ item ∷ drop (place + 1) items
drop-at items place item inside is = drop-cons items place item inside ∙ ap (λ k. get_or items place item ∷ drop k items) (suc-is-plus place) ∙ ap (λ one. one ∷ drop (place + 1) items) (sym is)

pub filter-twice : {X : Type 0} (keep : X → Bool) (xs : List X) → filter keep (filter keep xs) ≡ filter keep xs
filter-twice keep [] = refl
filter-twice keep (x ∷ xs) =
    bool-cases (keep x)
    (λ kept.
    ap (λ b. filter keep (cond b (x ∷ filter keep xs) (filter keep xs))) kept
    ∙ ap (λ b. cond b (x ∷ filter keep (filter keep xs)) (filter keep (filter keep xs))) kept
    ∙ ap (λ rest. x ∷ rest) (filter-twice keep xs)
    ∙ sym (ap (λ b. cond b (x ∷ filter keep xs) (filter keep xs)) kept))
    (λ gone.
    ap (λ b. filter keep (cond b (x ∷ filter keep xs) (filter keep xs))) gone
    ∙ filter-twice keep xs
    ∙ sym (ap (λ b. cond b (x ∷ filter keep xs) (filter keep xs)) gone))

pub option-list : {X : Type 0} (o : Option X) → cons_option o [] ≡ option_to_list o
option-list None = refl
option-list (Some x) = refl

pub filter_map-more : {X Y : Type 0} (f : X → Option Y) (xs : List X) (place : ℕ) (x : X) → place < length xs → x ≡ get_or xs place x → filter_map f (take (place + 1) xs) ≡ filter_map f (take place xs) ++ option_to_list (f x)
filter_map-more {X} f xs place x h e =
    ap (filter_map f) (take_more xs place x h)
    ∙ filter_map-append f (take place xs) (get_or xs place x ∷ [])
    ∙ ap (λ last. filter_map f (take place xs) ++ last) (option-list (f (get_or xs place x)))
    ∙ ap (λ (y : X). filter_map f (take place xs) ++ option_to_list (f y)) (sym e)

pub replicate-room : (bytes : List ℕ) (count blank : ℕ) → count ≤ length (bytes ++ replicate count blank)
replicate-room bytes count blank = omega (arith, length-append bytes (replicate count blank), length-replicate count blank)

pub length-fitted : (bytes : List ℕ) (count : ℕ) → length (take count (bytes ++ replicate count 32)) ≡ count
length-fitted bytes count = length-take-le count (bytes ++ replicate count 32) (replicate-room bytes count 32)

pub take-next : {A : Type 0} (count : ℕ) (items : List A) (item : A) → slice_get items count ≡ Some item → take (suc count) items ≡ take count items ++ item ∷ []
take-next count [] item at = absurd (some-not-none item (sym at))
take-next zero (first ∷ rest) item at = ap (λ one. one ∷ []) (same_Some first item at)
take-next (suc count) (first ∷ rest) item at = ap (λ items. first ∷ items) (take-next count rest item at)

pub length-take : {A : Type 0} (count : ℕ) (items : List A) (item : A) → slice_get items count ≡ Some item → length (take count items) ≡ count
length-take count [] item at = absurd (some-not-none item (sym at))
length-take zero (first ∷ rest) item at = refl
length-take (suc count) (first ∷ rest) item at = let e : length (take count rest) ≡ count = length-take count rest item at in omega (arith, e)

pub append-cancel : {A : Type 0} (front one other : List A) → front ++ one ≡ front ++ other → one ≡ other
append-cancel [] one other e = e
append-cancel (first ∷ front) one other e = append-cancel front one other (ap (drop 1) e)

pub drop-seam : {A : Type 0} (first piece second other third : List A) → second ≡ first ++ piece → third ≡ second ++ other → drop (length first) second ++ drop (length second) third ≡ drop (length first) third
drop-seam first piece second other third e f =
    let here : drop (length first) second ≡ piece = ap (drop (length first)) e ∙ drop-append_seam first piece in
    let next : drop (length second) third ≡ other = ap (drop (length second)) f ∙ drop-append_seam second other in
    let both : third ≡ first ++ (piece ++ other) = f ∙ ap (λ w. w ++ other) e ∙ append_assoc first piece other in
    ap (λ w. w ++ drop (length second) third) here ∙ ap (λ w. piece ++ w) next
    ∙ sym (ap (drop (length first)) both ∙ drop-append_seam first (piece ++ other))

pub find-filter : {X : Type 0} (test keep : X → Bool) (xs : List X) (x : X) → find test xs ≡ Some x → keep x ≡ true → find test (filter keep xs) ≡ Some x
find-filter test keep [] x at stays = at
find-filter {X = X} test keep (first ∷ rest) x at stays = by (test first) (keep first) refl refl at (find-filter test keep rest x)
  where
    by : (b k : Bool) → test first ≡ b → keep first ≡ k → cond b (Some first) (find test rest) ≡ Some x → (find test rest ≡ Some x → keep x ≡ true → find test (filter keep rest) ≡ Some x) → find test (cond k (first ∷ filter keep rest) (filter keep rest)) ≡ Some x
    by true true e k at later = ap (λ (b : Bool). cond b (Some first) (find test (filter keep rest))) e ∙ at
    by true false e k at later = absurd (false≢true (sym k ∙ ap keep (same_Some first x at) ∙ stays))
    by false true e k at later = ap (λ (b : Bool). cond b (Some first) (find test (filter keep rest))) e ∙ later at stays
    by false false e k at later = later at stays

pub find-filter-none : {X : Type 0} (test keep : X → Bool) (xs : List X) → find test xs ≡ None → find test (filter keep xs) ≡ None
find-filter-none test keep [] none = refl
find-filter-none test keep (first ∷ rest) none = by (test first) (keep first) refl none (find-filter-none test keep rest)
  where
    by : (b k : Bool) → test first ≡ b → cond b (Some first) (find test rest) ≡ None → (find test rest ≡ None → find test (filter keep rest) ≡ None) → find test (cond k (first ∷ filter keep rest) (filter keep rest)) ≡ None
    by true k is none later = absurd (some-not-none first none)
    by false true is none later = ap (λ (b : Bool). cond b (Some first) (find test (filter keep rest))) is ∙ later none
    by false false is none later = later none

pub find-append : {X : Type 0} (test : X → Bool) (xs : List X) (x : X) → find test xs ≡ None → test x ≡ true → find test (xs ++ x ∷ []) ≡ Some x
find-append test [] x none passes = ap (λ (b : Bool). cond b (Some x) None) passes
find-append test (first ∷ rest) x none passes = by (test first) none (λ none. find-append test rest x none passes)
  where
    by : (b : Bool) → cond b (Some first) (find test rest) ≡ None → (find test rest ≡ None → find test (rest ++ x ∷ []) ≡ Some x) → cond b (Some first) (find test (rest ++ x ∷ [])) ≡ Some x
    by true none later = absurd (some-not-none first none)
    by false none later = later none

pub all-same : {X : Type 0} (one other : X → Bool) → ((x : X) → one x ≡ other x) → (xs : List X) → list_all one xs ≡ list_all other xs
all-same one other same [] = refl
all-same one other same (x ∷ xs) = λ i. same x i && all-same one other same xs i

pub any-second : {X : Type 0} (kept test : X → Bool) (xs : List X) → list_any (λ x. kept x && test x) xs ≡ true → list_any test xs ≡ true
any-second kept test [] some = some
any-second kept test (first ∷ rest) some =
    by (kept first) (test first) some (any-second kept test rest)
  where
    by : (a b : Bool) → ((a && b) || list_any (λ x. kept x && test x) rest) ≡ true → (list_any (λ x. kept x && test x) rest ≡ true → list_any test rest ≡ true) → (b || list_any test rest) ≡ true
    by a true some more = refl
    by true false some more = more some
    by false false some more = more some

pub each-filter : {X : Type 0} (P : X → Type 0) (keep : X → Bool) (xs : List X) → AllByRecursion P xs → AllByRecursion P (filter keep xs)
each-filter P keep [] each = tt
each-filter P keep (first ∷ rest) each =
    elim (keep first) as (λ b. AllByRecursion P (cond b (first ∷ filter keep rest) (filter keep rest))) [
      | true ↦ (each.0, each-filter P keep rest each.1)
      | false ↦ each-filter P keep rest each.1
    ]

pub each-passes : {X : Type 0} (P : X → Type 0) (test : X → Bool) (xs : List X) → AllByRecursion P xs → AllByRecursion (λ x. P x × (test x ≡ true)) (filter test xs)
each-passes P test [] each = tt
each-passes P test (x ∷ rest) each = by (test x) refl (each-passes P test rest each.1)
  where
    by : (b : Bool) → test x ≡ b → AllByRecursion (λ x. P x × (test x ≡ true)) (filter test rest) → AllByRecursion (λ x. P x × (test x ≡ true)) (cond b (x ∷ filter test rest) (filter test rest))
    by true does later = ((each.0, does), later)
    by false does later = later

pub each-both : {X : Type 0} (P Q R : X → Type 0) (xs : List X) → ((x : X) → P x → Q x → R x) → AllByRecursion P xs → AllByRecursion Q xs → AllByRecursion R xs
each-both P Q R [] both ps qs = tt
each-both P Q R (x ∷ xs) both ps qs = (both x ps.0 qs.0, each-both P Q R xs both ps.1 qs.1)

pub each-by_place : {X : Type 0} (P : X → Type 0) (xs : List X) → ((place : ℕ) (x : X) → slice_get xs place ≡ Some x → P x) → AllByRecursion P xs
each-by_place P [] each = tt
each-by_place P (first ∷ xs) each = (each 0 first refl, each-by_place P xs (λ place x at. each (suc place) x at))

pub last-holds : {X : Type 0} (P : X → Type 0) (before : Option X) (xs : List X) (x : X) → ((y : X) → before ≡ Some y → P y) → AllByRecursion P xs → last_or before xs ≡ Some x → P x
last-holds P before [] x first each last = first x last
last-holds P before (y ∷ rest) x first each last = last-holds P (Some y) rest x (λ z same. subst P (same_Some y z same) each.0) each.1 last

pub last-append : {A : Type 0} (before : Option A) (items : List A) (item : A) → last_or before (items ++ item ∷ []) ≡ Some item
last-append before [] item = refl
last-append before (first ∷ items) item = last-append (Some first) items item

pub get-there : {A : Type 0} (items : List A) (place : ℕ) → place < length items → (item : A) × (slice_get items place ≡ Some item)
get-there [] place inside = absurd (omega (arith, inside))
get-there (item ∷ items) zero inside = (item, refl)
get-there (item ∷ items) (suc place) inside = get-there items place (omega (arith, inside))

pub get-some : {A : Type 0} (items : List A) (place : ℕ) → place < length items → IsSome (slice_get items place)
get-some [] place inside = absurd (omega (arith, inside))
get-some (item ∷ items) zero inside = refl
get-some (item ∷ items) (suc place) inside = get-some items place (omega (arith, inside))

pub drop-get : {A : Type 0} (items : List A) (place : ℕ) (item : A) → slice_get items place ≡ Some item → drop place items ≡ item ∷ drop (suc place) items
drop-get [] place item at = absurd (some-not-none item (sym at))
drop-get (first ∷ items) zero item at = ap (λ one. one ∷ items) (same_Some first item at)
drop-get (first ∷ items) (suc place) item at = drop-get items place item at

pub take-short : {A : Type 0} (count : ℕ) (items : List A) → length (take count items) ≤ length items
take-short zero items = omega arith
take-short (suc count) [] = omega arith
take-short (suc count) (first ∷ rest) = let e : length (take count rest) ≤ length rest = take-short count rest in omega (arith, e)

pub head-same : {A : Type 0} (one other : A) (xs ys : List A) → one ∷ xs ≡ other ∷ ys → one ≡ other
head-same one other xs ys is = cc

pub tail-same : {A : Type 0} (one other : A) (xs ys : List A) → one ∷ xs ≡ other ∷ ys → xs ≡ ys
tail-same one other xs ys is = cc

pub get-append-last : {A : Type 0} (items : List A) (item : A) → slice_get (items ++ item ∷ []) (length items) ≡ Some item
get-append-last [] item = refl
get-append-last (first ∷ rest) item = get-append-last rest item

pub get-append-front : {A : Type 0} (items : List A) (item : A) (place : ℕ) → place ≢ length items → slice_get (items ++ item ∷ []) place ≡ slice_get items place
get-append-front [] item zero apart = absurd (apart refl)
get-append-front [] item (suc place) apart = refl
get-append-front (first ∷ rest) item zero apart = refl
get-append-front (first ∷ rest) item (suc place) apart = get-append-front rest item place (λ e. apart (ap suc e))
