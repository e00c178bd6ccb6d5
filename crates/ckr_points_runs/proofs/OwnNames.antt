-- The names of the steps that a run executes itself.
use Rattle.std.proofs.Common.{◌≡◌, ℕ, zero, suc, ◌+◌, ◌-◌, ◌<◌, ◌≤◌, ◌||◌, Bool, true, false, if◌then◌else◌, List, [], ◌∷◌, ◌++◌, drop, length, slice_get, refl, ap, sym, ◌∙◌, arith, get_or, Option, None, Some}
use Rattle.std.specs.List.{cons_option, filter_map}
use Rattle.std.specs.Option.{option_map_or, option_to_list}
use Rattle.std.specs.Cmp.Lexicographic.{nat_list_cmp_total}
use Rattle.std.specs.Cmp.{tied_itself}
use Rattle.std.specs.Ordering.{is_eq}
use Rattle.std.proofs.lemmas.Bool.{false≢true, or_right}
use Rattle.std.proofs.lemmas.Option.{same_Some}
use Rattle.ckr_base.proofs.Options.{some-not-none}
use Rattle.ckr_library.specs.NameMaps.{Name, same_name}
use Rattle.ckr_meaning.specs.EffectiveJob.{OwnedStep, is_among, names_of, names_of_steps}
use Rattle.ckr_base.proofs.Sequences.{find-passes}
use Rattle.ckr_entry.specs.declared.point.Mark.{Mark}
use Rattle.ckr_library.proofs.Named.{name-same}
use Rattle.ckr_points.specs.Marks.{mark_at}
use Rattle.ckr_points_runs.specs.RunJobs.{names_in}
use Rattle.ckr_points_runs.specs.RunMarks.{mark_by}
use Rattle.ckr_points_runs.proofs.RunJobs.{names-next}

-- a name among the first names or the second ones
pub among-both : (first second : List Name) (name : Name) → is_among (first ++ second) name ≡ (is_among first name || is_among second name)
among-both [] second name = refl
among-both (other ∷ first) second name = ap (λ b. same_name name other || b) (among-both first second name) ∙ sym (join (same_name name other) (is_among first name) (is_among second name))
  where
    join : (a b c : Bool) → (a || b) || c ≡ (a || (b || c))
    join true b c = refl
    join false b c = refl

-- a name is among itself and others
pub among-itself : (name : Name) (names : List Name) → is_among (name ∷ names) name ≡ true
among-itself name names = ap (λ b. b || is_among names name) (ap is_eq (tied_itself nat_list_cmp_total name))

among-first : (first second : List Name) (name : Name) → is_among first name ≡ true → is_among (first ++ second) name ≡ true
among-first first second name e = among-both first second name ∙ ap (λ b. b || is_among second name) e

among-second : (first second : List Name) (name : Name) → is_among second name ≡ true → is_among (first ++ second) name ≡ true
among-second first second name e = among-both first second name ∙ or_right (is_among first name) (is_among second name) e

-- ---- of steps

names-at : (root : ℕ) (steps : List OwnedStep) (place : ℕ) (own : OwnedStep) (name : Name) → slice_get steps place ≡ Some own → is_among (names_of root own) name ≡ true → is_among (names_of_steps root steps) name ≡ true
names-at root [] place own name there e = absurd (some-not-none _ (sym there))
names-at root (first ∷ steps) zero own name there e =
    among-first (names_of root first) (names_of_steps root steps) name (ap (λ one. is_among (names_of root one) name) (same_Some first own there) ∙ e)
names-at root (first ∷ steps) (suc place) own name there e = among-second (names_of root first) (names_of_steps root steps) name (names-at root steps place own name there e)

drop-get : {A : Type 0} (items : List A) (start k place : ℕ) (one : A) → start + k ≡ place → slice_get items place ≡ Some one → slice_get (drop start items) k ≡ Some one
drop-get items zero k place one is there = ap (slice_get items) (omega (arith, is)) ∙ there
drop-get [] (suc start) k place one is there = absurd (some-not-none _ (sym there))
drop-get (first ∷ items) (suc start) k zero one is there = absurd (omega (arith, is))
drop-get (first ∷ items) (suc start) k (suc place) one is there = drop-get items start k place one (omega (arith, is)) there

-- those of a step are among those of the steps from an earlier place on
pub names-behind : (root : ℕ) (steps : List OwnedStep) (start place : ℕ) (own : OwnedStep) (name : Name) → start ≤ place → slice_get steps place ≡ Some own → is_among (names_of root own) name ≡ true → is_among (names_of_steps root (drop start steps)) name ≡ true
names-behind root steps start place own name behind there e =
    names-at root (drop start steps) (place - start) own name (drop-get steps start (place - start) place own (omega (arith, behind)) there) e

-- whether a name is among those of the steps from a place on
pub among-next : (root : ℕ) (steps : List OwnedStep) (place next : ℕ) (name : Name) → place < length steps → next ≡ place + 1
    → is_among (names_of_steps root (drop place steps)) name ≡ (is_among (names_in root (slice_get steps place)) name || is_among (names_of_steps root (drop next steps)) name)
among-next root steps place next name inside is =
    ap (λ names. is_among names name) (names-next root steps place next inside is) ∙ among-both (names_in root (slice_get steps place)) (names_of_steps root (drop next steps)) name

-- ---- of DDs

pub one-among : {A : Type 0} (f : A → Option Name) (items : List A) (place : ℕ) (one : A) (name : Name) → place < length items → one ≡ get_or items place one → is_among (option_to_list (f one)) name ≡ true → is_among (filter_map f items) name ≡ true
one-among f [] place one name inside is e = absurd (omega (arith, inside))
one-among f (first ∷ items) zero one name inside is e = by (f first) (ap (λ x. is_among (option_to_list (f x)) name) (sym is) ∙ e)
  where
    by : (found : Option Name) → is_among (option_to_list found) name ≡ true → is_among (cons_option found (filter_map f items)) name ≡ true
    by None e = absurd (false≢true e)
    by (Some other) e = among-first (other ∷ []) (filter_map f items) name e
one-among f (first ∷ items) (suc place) one name inside is e = by (f first) (one-among f items place one name (omega (arith, inside)) is e)
  where
    by : (found : Option Name) → is_among (filter_map f items) name ≡ true → is_among (cons_option found (filter_map f items)) name ≡ true
    by None e = e
    by (Some other) e = or_right (same_name name other) (is_among (filter_map f items) name) e

-- ---- the mark of a name

-- it has the name
pub named-by : (now : Name → Mark) → ((name : Name) → (now name).name ≡ name) → (own : List Name) (carried : List Mark) (name : Name) → (mark_by now own carried name).name ≡ name
named-by now named own carried name = by (is_among own name)
  where
    found : (there : Option Mark) → mark_at carried name ≡ there → (option_map_or (λ mark. mark) there (now name)).name ≡ name
    found None e = named name
    found (Some mark) e = sym (name-same name mark.name (find-passes (λ (one : Mark). same_name name one.name) carried mark e))

    by : (b : Bool) → (if b then now name else option_map_or (λ mark. mark) (mark_at carried name) (now name)).name ≡ name
    by true = named name
    by false = found (mark_at carried name) refl
