-- The steps of a run: those that it has taken over, and then those of its own deck.
use Rattle.std.proofs.Common.{◌≡◌, ℕ, zero, suc, ◌+◌, ◌-◌, ◌<◌, ◌≤◌, ◌||◌, Bool, true, false, nat_le, IsSome, IfSome, List, [], ◌∷◌, ◌++◌, drop, length, map, slice_get, refl, ap, sym, ◌∙◌, subst, arith, add-one, take, length-append, Option, None, Some}
use Rattle.std.specs.List.{cons_option, list_all}
use Rattle.std.specs.Option.{is_some, option_map, option_map_or}
use Rattle.std.proofs.lemmas.Bool.{false≢true}
use Rattle.std.proofs.lemmas.Bool.Decides.{nat_tests}
use Rattle.std.proofs.lemmas.Option.{same_Some, slice_get-map, slice_get_within}
use Rattle.std.proofs.lemmas.List.{drop_all, length-drop, length-map, length-take}
use Rattle.ckr_base.proofs.Bools.{and-first, and-second}
use Rattle.ckr_base.proofs.Numbers.{nat_le-true}
use Rattle.ckr_base.proofs.Options.{some-not-none}
use Rattle.ckr_meaning.specs.EffectiveJob.{Effective, OwnedStep, names_of, names_of_steps, owned_by, step_at}
use Rattle.ckr_base.proofs.Sequences.{all-get, drop-get, get-there}
use Rattle.ckr_library.specs.NameMaps.{Name}
use Rattle.ckr_jcl.specs.declared.deck.Job.{Job}
use Rattle.ckr_points.specs.Restart.{spliced}
use Rattle.ckr_points_runs.specs.MadeNames.{RunPoints, made_by, made_in}
use Rattle.ckr_points_runs.specs.RunJobs.{AreTaken, IsFitting, IsFittingStep, JobView, continued_view, effective, has_few_dds, is_fitting_step, names_in, own_of, taken_at, taken_from}
use Rattle.ckr_points_runs.specs.declared.own_step.OwnStep.{OwnStep}
use Rattle.ckr_points_runs.specs.declared.taken_step.TakenStep.{TakenStep}

-- ---- the steps that were taken over

one-more : {A : Type 0} (found : Option A) → IsSome found → (rest : List A) → length (cons_option found rest) ≡ suc (length rest)
one-more None some rest = absurd (false≢true some)
one-more (Some one) some rest = refl

-- one for each
pub taken-length : (start : ℕ) (items : List TakenStep) → AreTaken start items → length items ≡ length (taken_from start items)
taken-length start [] are = refl
taken-length start (one ∷ items) are = ap suc (taken-length (suc start) items are.1) ∙ sym (one-more (taken_at start one) are.0 (taken_from (suc start) items))

first-of : {A : Type 0} (found : Option A) → IsSome found → (rest : List A) → found ≡ slice_get (cons_option found rest) 0
first-of None some rest = absurd (false≢true some)
first-of (Some one) some rest = refl

later-of : {A : Type 0} (found : Option A) → IsSome found → (rest : List A) (place : ℕ) → slice_get rest place ≡ slice_get (cons_option found rest) (suc place)
later-of None some rest place = absurd (false≢true some)
later-of (Some one) some rest place = refl

-- the one at a place
pub taken-get : (start : ℕ) (items : List TakenStep) → AreTaken start items → (place : ℕ) (one : TakenStep) → slice_get items place ≡ Some one → taken_at (start + place) one ≡ slice_get (taken_from start items) place
taken-get start [] are place one there = absurd (some-not-none _ (sym there))
taken-get start (first ∷ items) are zero one there =
    ap (taken_at (start + 0)) (sym (same_Some first one there)) ∙ ap (λ n. taken_at n first) (omega arith) ∙ first-of (taken_at start first) are.0 (taken_from (suc start) items)
taken-get start (first ∷ items) are (suc place) one there =
    ap (λ n. taken_at n one) (omega arith) ∙ taken-get (suc start) items are.1 place one there ∙ later-of (taken_at start first) are.0 (taken_from (suc start) items) place

pub taken-none : (start : ℕ) (items : List TakenStep) → AreTaken start items → (place : ℕ) → slice_get items place ≡ None → None ≡ slice_get (taken_from start items) place
taken-none start [] are place none = refl
taken-none start (first ∷ items) are zero none = absurd (some-not-none _ none)
taken-none start (first ∷ items) are (suc place) none = taken-none (suc start) items are.1 place none ∙ later-of (taken_at start first) are.0 (taken_from (suc start) items) place

pub taken-some : (start : ℕ) (items : List TakenStep) → AreTaken start items → (place : ℕ) (one : TakenStep) → slice_get items place ≡ Some one → IsSome (taken_at (start + place) one)
taken-some start [] are place one there = absurd (some-not-none _ (sym there))
taken-some start (first ∷ items) are zero one there = subst IsSome (ap (taken_at start) (same_Some first one there) ∙ ap (λ n. taken_at n one) (omega arith)) are.0
taken-some start (first ∷ items) are (suc place) one there = subst (λ n. IsSome (taken_at n one)) (omega arith) (taken-some (suc start) items are.1 place one there)

pub mapped-some : {A B : Type 0} (f : A → B) (found : Option A) → IsSome found → IsSome (option_map f found)
mapped-some f None some = absurd (false≢true some)
mapped-some f (Some one) some = refl

pub unmapped-some : {A B : Type 0} (f : A → B) (found : Option A) → IsSome (option_map f found) → IsSome found
unmapped-some f None some = absurd (false≢true some)
unmapped-some f (Some one) some = refl

-- one more
pub taken-more : (start : ℕ) (items : List TakenStep) → AreTaken start items → (one : TakenStep) → IsSome (taken_at (start + length items) one) → AreTaken start (items ++ one ∷ [])
taken-more start [] are one some = (subst (λ n. IsSome (taken_at n one)) (omega arith) some, tt)
taken-more start (first ∷ items) are one some = (are.0, taken-more (suc start) items are.1 one (subst (λ n. IsSome (taken_at n one)) (omega arith) some))

joined : {A : Type 0} (found : Option A) (rest more : List A) → cons_option found (rest ++ more) ≡ cons_option found rest ++ more
joined None rest more = refl
joined (Some one) rest more = refl

pub taken-push : (start : ℕ) (items : List TakenStep) (one : TakenStep) (own : OwnedStep) → taken_at (start + length items) one ≡ Some own → taken_from start (items ++ one ∷ []) ≡ taken_from start items ++ own ∷ []
taken-push start [] one own there = ap (λ found. cons_option found []) (ap (λ n. taken_at n one) (omega arith) ∙ there)
taken-push start (first ∷ items) one own there =
    ap (cons_option (taken_at start first)) (taken-push (suc start) items one own (ap (λ n. taken_at n one) (omega arith) ∙ there)) ∙ joined (taken_at start first) (taken_from (suc start) items) (own ∷ [])

-- ---- the steps of a run

first-get : {A : Type 0} (taken rest : List A) (place : ℕ) → place < length taken → slice_get taken place ≡ slice_get (taken ++ rest) place
first-get [] rest place inside = absurd (omega (arith, inside))
first-get (one ∷ taken) rest zero inside = refl
first-get (one ∷ taken) rest (suc place) inside = first-get taken rest place (omega (arith, inside))

drop-none : {A : Type 0} (count : ℕ) → [] ≡ drop count (let none : List A = [] in none)
drop-none zero = refl
drop-none (suc count) = refl

later-get : {A B : Type 0} (f : A → B) (taken : List B) (steps : List A) (place : ℕ) → length taken ≤ place → option_map f (slice_get steps place) ≡ slice_get (taken ++ map f (drop (length taken) steps)) place
later-get f [] steps place beyond = sym (slice_get-map f steps place)
later-get f (one ∷ taken) steps zero beyond = absurd (omega (arith, beyond))
later-get {A = A} f (one ∷ taken) [] (suc place) beyond =
    later-get f taken [] place (omega (arith, beyond)) ∙ ap (λ (rest : List A). slice_get (taken ++ map f rest) place) (sym (drop-none (length taken)) ∙ drop-none (suc (length taken)))
later-get f (one ∷ taken) (step ∷ steps) (suc place) beyond = later-get f taken steps place (omega (arith, beyond))

-- one that was taken over
pub step-taken : (run : ℕ) (job : JobView) (place : ℕ) → place < length job.taken → slice_get job.taken place ≡ slice_get (effective run job).steps place
step-taken run job place inside = first-get job.taken (map (owned_by run job.deck) (drop (length job.taken) job.deck.steps)) place inside

-- one of its own deck
pub step-later : (run : ℕ) (job : JobView) (place : ℕ) → length job.taken ≤ place → option_map (owned_by run job.deck) (slice_get job.deck.steps place) ≡ slice_get (effective run job).steps place
step-later run job place beyond = later-get (owned_by run job.deck) job.taken job.deck.steps place beyond

-- how many there are
pub steps-count : (run : ℕ) (job : JobView) → length (effective run job).steps ≡ length job.taken + (length job.deck.steps - length job.taken)
steps-count run job =
    length-append job.taken (map (owned_by run job.deck) (drop (length job.taken) job.deck.steps))
    ∙ ap (λ n. length job.taken + n) (length-map (drop (length job.taken) job.deck.steps) (owned_by run job.deck) ∙ length-drop (length job.taken) job.deck.steps)

-- ---- steps within the limits

pub step-fits : (own : OwnedStep) → is_fitting_step own ≡ true → IsFittingStep own
step-fits own fits =
    let dds = and-second (nat_le own.owner 9999999) (has_few_dds own.step) fits in
    record {
      owner = nat_le-true own.owner 9999999 (and-first (nat_le own.owner 9999999) _ fits);
      dds = nat_le-true (length own.step.dds) 16 (and-first (nat_le (length own.step.dds) 16) _ dds);
      serials = and-second (nat_le (length own.step.dds) 16) _ dds;
    }

-- what holds of each step of a job holds of one
pub step-all : (all : OwnedStep → Bool) (job : Effective) (number : ℕ) (own : OwnedStep) → list_all all job.steps ≡ true → step_at job number ≡ Some own → all own ≡ true
step-all all job zero own each there = absurd (some-not-none own (sym there))
step-all all job (suc place) own each there = all-get all job.steps place own each there

pub fits-at : (job : Effective) → IsFitting job → (number : ℕ) (own : OwnedStep) → step_at job number ≡ Some own → IsFittingStep own
fits-at job fits number own there = step-fits own (step-all is_fitting_step job number own fits.steps there)

-- so does one that the code finds
pub found-fits : (job : Effective) (place : ℕ) (found : Option OwnStep) → option_map own_of found ≡ slice_get job.steps place → IsFitting job → IfSome found (λ own. IsFittingStep (own_of own))
found-fits job place None there fits = tt
found-fits job place (Some own) there fits = step-fits (own_of own) (all-get is_fitting_step job.steps place (own_of own) fits.steps (sym there))

-- ---- a step by its number

pub at-place : (job : Effective) (number : ℕ) → (number ≡ 0 → ⊥) → slice_get job.steps (number - 1) ≡ step_at job number
at-place job zero some = absurd (some refl)
at-place job (suc place) some = ap (slice_get job.steps) (omega arith)

none-less : (n : ℕ) → false ≡ nat_le (suc n) 0
none-less n = grind (arith, nat_tests)

some-less : (n : ℕ) → true ≡ nat_le 1 (suc n)
some-less n = grind (arith, nat_tests)

more-less : (one other : ℕ) → nat_le (suc one) other ≡ nat_le (suc (suc one)) (suc other)
more-less one other = grind (arith, nat_tests)

some-inside : {A : Type 0} (items : List A) (place : ℕ) → is_some (slice_get items place) ≡ nat_le (suc place) (length items)
some-inside [] place = none-less place
some-inside (one ∷ items) zero = some-less (length items)
some-inside (one ∷ items) (suc place) = some-inside items place ∙ more-less place (length items)

-- there is a step of each number up to their count
pub has-at : (job : Effective) (number count : ℕ) → count ≡ length job.steps → (number ≡ 0 → ⊥) → nat_le number count ≡ is_some (step_at job number)
has-at job zero count is some = absurd (some refl)
has-at job (suc place) count is some = ap (nat_le (suc place)) is ∙ sym (some-inside job.steps place)

-- one of the first 64
pub low-step : (job : Effective) → IsFitting job → (number : ℕ) → is_some (step_at job number) ≡ true → number ≤ 64
low-step job fits zero there = omega arith
low-step job fits (suc place) there =
    let inside : suc place ≤ length job.steps = nat_le-true (suc place) (length job.steps) (sym (some-inside job.steps place) ∙ there) in
    omega (arith, inside, fits.few)

-- ---- steps from a place on

pub drop-next : {A : Type 0} (items : List A) (place next : ℕ) (one : A) → slice_get items place ≡ Some one → next ≡ place + 1 → drop place items ≡ one ∷ drop next items
drop-next items place next one there is = drop-get items place one there ∙ ap (λ k. one ∷ drop k items) (sym (add-one place) ∙ sym is)

take-get : {A : Type 0} (items : List A) (count place : ℕ) → place < count → slice_get (take count items) place ≡ slice_get items place
take-get items zero place inside = absurd (omega (arith, inside))
take-get [] (suc count) place inside = refl
take-get (one ∷ items) (suc count) zero inside = refl
take-get (one ∷ items) (suc count) (suc place) inside = take-get items count place (omega (arith, inside))

-- the names of the steps from a place on
pub names-next : (root : ℕ) (steps : List OwnedStep) (place next : ℕ) → place < length steps → next ≡ place + 1 → names_of_steps root (drop place steps) ≡ names_in root (slice_get steps place) ++ names_of_steps root (drop next steps)
names-next root steps place next inside is =
    let there = get-there steps place inside in
    ap (names_of_steps root) (drop-next steps place next there.0 there.1 is) ∙ ap (λ found. names_in root found ++ names_of_steps root (drop next steps)) (sym there.1)

names-from : (root : ℕ) (steps : List OwnedStep) (place : ℕ) → length (names_of_steps root (drop place steps)) ≤ length (names_of_steps root steps)
names-from root steps zero = omega arith
names-from root [] (suc place) = omega arith
names-from root (own ∷ steps) (suc place) = omega (arith, names-from root steps place, length-append (names_of root own) (names_of_steps root steps))

-- those of one step and of those behind it are no more than all
pub names-here : (root : ℕ) (steps : List OwnedStep) (place next : ℕ) → place < length steps → next ≡ place + 1 → length (names_in root (slice_get steps place)) + length (names_of_steps root (drop next steps)) ≤ length (names_of_steps root steps)
names-here root steps place next inside is =
    omega (arith, names-from root steps place, ap length (names-next root steps place next inside is), length-append (names_in root (slice_get steps place)) (names_of_steps root (drop next steps)))

-- whether one of the first steps made a name, from a place on
pub made-next : (points : RunPoints) (root : ℕ) (name : Name) (steps : List OwnedStep) (count place next number : ℕ) → place < count → place < length steps → next ≡ place + 1
    → made_in points root number (drop place (take count steps)) name ≡ (option_map_or (made_by points root number name) (slice_get steps place) false || made_in points root (suc number) (drop next (take count steps)) name)
made-next points root name steps count place next number first inside is =
    let there = get-there steps place inside in
    ap (λ some. made_in points root number some name) (drop-next (take count steps) place next there.0 (take-get steps count place first ∙ there.1) is)
    ∙ ap (λ found. option_map_or (made_by points root number name) found false || made_in points root (suc number) (drop next (take count steps)) name) (sym there.1)

-- none is behind the last one
pub made-end : (points : RunPoints) (root : ℕ) (name : Name) (steps : List OwnedStep) (count place number : ℕ) → length (take count steps) ≤ place → made_in points root number (drop place (take count steps)) name ≡ false
made-end points root name steps count place number beyond = ap (λ some. made_in points root number some name) (drop_all place (take count steps) beyond)

-- the first steps, where there are no more
pub take-far : {A : Type 0} (items : List A) (place count : ℕ) → place ≤ count → (place < count → length items ≤ place) → take place items ≡ take count items
take-far items zero zero within far = refl
take-far [] zero (suc count) within far = refl
take-far (one ∷ items) zero (suc count) within far = absurd (omega (arith, far (omega arith)))
take-far items (suc place) zero within far = absurd (omega (arith, within))
take-far [] (suc place) (suc count) within far = refl
take-far (one ∷ items) (suc place) (suc count) within far = ap (λ rest. one ∷ rest) (take-far items place count (omega (arith, within)) (λ less. omega (arith, far (omega (arith, less)))))

-- a step of a continued job
pub spliced-is : (number run step : ℕ) (deck : Job) (earlier : JobView) (own : OwnedStep) → step_at (effective number earlier) step ≡ Some own → spliced (effective number earlier) step run deck ≡ effective run (continued_view number deck earlier step)
spliced-is number run zero deck earlier own there = absurd (some-not-none own (sym there))
spliced-is number run (suc place) deck earlier own there =
    let steps = (effective number earlier).steps in
    let inside : place < length steps = slice_get_within steps place own there in
    let long : suc place ≡ length (take (suc place) steps) = omega (arith, inside, length-take (suc place) steps) in
    ap (λ n. let job : Effective = record { root = earlier.root; steps = take (suc place) steps ++ map (owned_by run deck) (drop n deck.steps) } in job) long

-- the step at which it goes on is that of the earlier run
pub continued-step : (number run step : ℕ) (deck : Job) (earlier : JobView) (own : OwnedStep) → step_at (effective number earlier) step ≡ Some own → step_at (effective run (continued_view number deck earlier step)) step ≡ Some own
continued-step number run zero deck earlier own there = absurd (some-not-none own (sym there))
continued-step number run (suc place) deck earlier own there =
    let steps = (effective number earlier).steps in
    let inside : place < length steps = slice_get_within steps place own there in
    let front : place < length (take (suc place) steps) = omega (arith, inside, length-take (suc place) steps) in
    sym (step-taken run (continued_view number deck earlier (suc place)) place front) ∙ take-get steps (suc place) place (omega arith) ∙ there

pub take-next : {A : Type 0} (items : List A) (place : ℕ) (one : A) → slice_get items place ≡ Some one → take place items ++ one ∷ [] ≡ take (suc place) items
take-next [] place one there = absurd (some-not-none _ (sym there))
take-next (first ∷ items) zero one there = ap (λ x. x ∷ []) (sym (same_Some first one there))
take-next (first ∷ items) (suc place) one there = ap (λ rest. first ∷ rest) (take-next items place one there)
