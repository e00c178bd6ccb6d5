-- What a name keeps that no DD of a step, or of a job, has.
use Rattle.std.proofs.Common.{◌≡◌, ℕ, zero, suc, pred, Bool, true, false, not, cond, ◌||◌, if◌then◌else◌, List, [], ◌∷◌, map, take, length, Option, Some, None, refl, ap, sym, ◌∙◌}
use Rattle.std.specs.Prelude.{option_and_then, slice_get}
use Rattle.std.specs.List.{find, filter_map, cons_option}
use Rattle.std.specs.Option.{option_map, option_map_or}
use Rattle.std.specs.Ordering.{is_eq}
use Rattle.std.specs.Cmp.Lexicographic.{nat_list_cmp_total}
use Rattle.std.specs.Cmp.{alike_right, eq_by_cmp_equiv}
use Rattle.std.specs.FinMap.Entries.{find-where_key}
use Rattle.std.proofs.lemmas.List.Folds.{list_any-append}
use Rattle.std.proofs.lemmas.Option.{same_Some}
use Rattle.ckr_base.specs.declared.programs.Output.{Output}
use Rattle.ckr_base.specs.declared.programs.Write.{Write}
use Rattle.ckr_base.proofs.Bools.{or-first-false, or-second-false}
use Rattle.ckr_base.proofs.Options.{some-not-none}
use Rattle.ckr_jcl.specs.declared.deck.After.{After}
use Rattle.ckr_jcl.specs.declared.deck.After.TheVariants.{Delete, Keep, Pass, Catlg, Uncatlg}
use Rattle.ckr_jcl.specs.declared.deck.Dd.{Dd}
use Rattle.ckr_library.specs.declared.sets.Stamp.{Stamp}
use Rattle.ckr_library.specs.NameMaps.{Name, Named, name_cmp, same_name, entry_at, without_entry}
use Rattle.ckr_library.proofs.Named.{at-with_changed-other, at-with_entry-other}
use Rattle.ckr_entry.specs.declared.point.Passed.{Passed}
use Rattle.ckr_meaning.specs.declared.place.Place.{Place}
use Rattle.ckr_meaning.specs.declared.place.Place.TheVariants.{Before, Opened, Within}
use Rattle.ckr_meaning.specs.LibrarySet.{LibrarySet, Library, SetWays, record_ways}
use Rattle.ckr_meaning.specs.Allotments.{AllotmentModel, found, made, refused, DdAllotment, is_passed, opened_by, opened_one, opened_all, is_output}
use Rattle.ckr_meaning.specs.Dispositions.{Disposal, Stock, unpassed, sets_after, passed_after, disposed_one, disposed_all, passed_ended}
use Rattle.ckr_meaning.specs.EffectiveJob.{OwnedStep, Effective, name_of, names_of, names_of_steps, names_of_job, is_among, placed_one, placed_from, disposals_of, step_at}
use Rattle.ckr_meaning.specs.StepRun.{StepStart, placed_at, stamp_at, opened_at, fresh_set, made_one, made_all, made_at, set_name, output_dd, output_name, written_set, changed_in, written_one, written_all, work_at, within_at, disposed_at}
use Rattle.ckr_meaning.specs.JobRun.{Walk, start_in, step_walked, walked_by, walked_one, walked, walk_from, walk_before, start_at, is_bypassed, with_sets, at, cut_from, cut_at, end_of_job, job_run}

-- ---- one name

without_entry-other : {X : Type 0} (name other : Name) (named : Named X) → same_name other name ≡ false → entry_at (without_entry name named) other ≡ entry_at named other
without_entry-other name other named apart =
    find-where_key name_cmp (λ x. not (same_name name x)) other (λ x tied. ap (λ r. not (is_eq r)) (sym (alike_right nat_list_cmp_total other x name tied))) named
    ∙ ap (λ b. cond (not b) (entry_at named other) None) ((eq_by_cmp_equiv nat_list_cmp_total).symm name other ∙ apart)

-- a name that leaves the passed list takes no other with it
is_passed-unpassed : (name other : Name) (passed : List Passed) → same_name other name ≡ false → is_passed (unpassed name passed) other ≡ is_passed passed other
is_passed-unpassed name other [] apart = refl
is_passed-unpassed name other (one ∷ passed) apart =
    elim (same_name name one.name) as
    (λ b. same_name name one.name ≡ b → is_passed (cond (not b) (one ∷ unpassed name passed) (unpassed name passed)) other ≡ (same_name other one.name || is_passed passed other)) [
      | true ↦ λ tied. is_passed-unpassed name other passed apart ∙ ap (λ b. b || is_passed passed other) (sym (apart_from one.name tied))
      | false ↦ λ free. ap (λ b. same_name other one.name || b) (is_passed-unpassed name other passed apart)
    ] refl
  where
    apart_from : (third : Name) → same_name name third ≡ true → same_name other third ≡ false
    apart_from third tied =
        let e = eq_by_cmp_equiv nat_list_cmp_total in
        e.symm other third ∙ sym (e.congr name third other tied) ∙ e.symm name other ∙ apart

-- ---- a step

abbrev names_in : List DdAllotment → List Name
names_in placed = map (λ one. one.name) placed

opened_one-other : {X : Type 0} (ways : SetWays X) (stamp : Stamp) (placed : DdAllotment) (allotment : AllotmentModel) (output : Bool) (sets : Named X) (name : Name) → same_name name placed.name ≡ false → entry_at (opened_one ways stamp placed allotment output sets) name ≡ entry_at sets name
opened_one-other ways stamp placed found true sets name apart = at-with_changed-other placed.name name (opened_by ways stamp placed.dd.disp.status) sets apart
opened_one-other ways stamp placed found false sets name apart = refl
opened_one-other ways stamp placed made output sets name apart = refl
opened_one-other ways stamp placed (refused flaw) output sets name apart = refl

pub opened_all-other : {X : Type 0} (ways : SetWays X) (stamp : Stamp) (all : List DdAllotment) (sets : Named X) (name : Name) → is_among (names_in all) name ≡ false → entry_at (opened_all ways stamp all sets) name ≡ entry_at sets name
opened_all-other ways stamp [] sets name apart = refl
opened_all-other ways stamp (placed ∷ rest) sets name apart =
    opened_all-other ways stamp rest (opened_one ways stamp placed placed.allotment (is_output placed.dd.role) sets) name (or-second-false (same_name name placed.name) _ apart)
    ∙ opened_one-other ways stamp placed placed.allotment (is_output placed.dd.role) sets name (or-first-false _ (is_among (names_in rest) name) apart)

made_one-other : (stamp : Stamp) (placed : DdAllotment) (allotment : AllotmentModel) (library : Library) (name : Name) → same_name name placed.name ≡ false → entry_at (made_one stamp placed allotment library) name ≡ entry_at library name
made_one-other stamp placed found library name apart = refl
made_one-other stamp placed made library name apart = at-with_entry-other placed.name name (fresh_set stamp placed.dd) library apart
made_one-other stamp placed (refused flaw) library name apart = refl

made_all-other : (stamp : Stamp) (all : List DdAllotment) (library : Library) (name : Name) → is_among (names_in all) name ≡ false → entry_at (made_all stamp all library) name ≡ entry_at library name
made_all-other stamp [] library name apart = refl
made_all-other stamp (placed ∷ rest) library name apart =
    made_all-other stamp rest (made_one stamp placed placed.allotment library) name (or-second-false (same_name name placed.name) _ apart)
    ∙ made_one-other stamp placed placed.allotment library name (or-first-false _ (is_among (names_in rest) name) apart)

-- the DDs that allocation looks at have the step's names
names_in-placed_from : {X : Type 0} (ways : SetWays X) (standing : Stock X) (root : ℕ) (owned : OwnedStep) (number : ℕ) (dds : List Dd) → names_in (placed_from ways standing root owned number dds) ≡ filter_map (name_of root owned) dds
names_in-placed_from ways standing root owned number [] = refl
names_in-placed_from {X = X} ways standing root owned number (dd ∷ dds) =
    by (names_in-placed_from ways standing root owned (suc number) dds) (name_of root owned dd)
  where
    by : names_in (placed_from ways standing root owned (suc number) dds) ≡ filter_map (name_of root owned) dds → (name : Option Name) → names_in (cons_option (option_map (placed_one ways standing number dd) name) (placed_from ways standing root owned (suc number) dds)) ≡ cons_option name (filter_map (name_of root owned) dds)
    by rest None = rest
    by rest (Some name) = ap (λ names. name ∷ names) rest

placed_at-other : (start : StepStart) (name : Name) → is_among (names_of start.root start.owned) name ≡ false → is_among (names_in (placed_at start)) name ≡ false
unfolding placed_at
placed_at-other start name apart =
    ap (λ names. is_among names name) (names_in-placed_from record_ways start.standing start.root start.owned 1 start.owned.step.dds) ∙ apart

pub opened_at-other : (start : StepStart) (name : Name) → is_among (names_of start.root start.owned) name ≡ false → entry_at (opened_at start) name ≡ entry_at start.standing.sets name
unfolding opened_at
opened_at-other start name apart =
    opened_all-other record_ways (stamp_at start) (placed_at start) start.standing.sets name (placed_at-other start name apart)

made_at-other : (start : StepStart) (name : Name) → is_among (names_of start.root start.owned) name ≡ false → entry_at (made_at start) name ≡ entry_at start.standing.sets name
unfolding made_at
made_at-other start name apart =
    made_all-other (stamp_at start) (placed_at start) (opened_at start) name (placed_at-other start name apart) ∙ opened_at-other start name apart

-- a DD that is found by its name has one of the step's names
found_name-other : (f : Dd → Option Name) (test : Dd → Bool) (dds : List Dd) (name other : Name) → is_among (filter_map f dds) name ≡ false → option_and_then f (find test dds) ≡ Some other → same_name name other ≡ false
found_name-other f test [] name other apart known = absurd (some-not-none other (sym known))
found_name-other f test (dd ∷ dds) name other apart known =
    by (λ apart known. found_name-other f test dds name other apart known) (test dd) (f dd) refl known apart
  where
    by : (is_among (filter_map f dds) name ≡ false → option_and_then f (find test dds) ≡ Some other → same_name name other ≡ false) → (passes : Bool) (its : Option Name) → f dd ≡ its → option_and_then f (cond passes (Some dd) (find test dds)) ≡ Some other → is_among (cons_option its (filter_map f dds)) name ≡ false → same_name name other ≡ false
    by rest true None e known apart = absurd (some-not-none other (sym known ∙ e))
    by rest true (Some its) e known apart =
        ap (same_name name) (sym (same_Some its other (sym e ∙ known))) ∙ or-first-false (same_name name its) _ apart
    by rest false None e known apart = rest apart known
    by rest false (Some its) e known apart = rest (or-second-false (same_name name its) _ apart) known

abbrev Apart : Name → Option Name → Type 0
Apart name None = Unit {0}
Apart name (Some other) = same_name name other ≡ false

output_name-other : (start : StepStart) (output : Output) (name : Name) → is_among (names_of start.root start.owned) name ≡ false → Apart name (output_name start output)
unfolding output_name
output_name-other start output name apart = by (output_dd start.owned.step.program output)
  where
    of_dd : (dd : Name) (its : Option Name) → set_name start dd ≡ its → Apart name its
    of_dd dd None e = tt
    of_dd dd (Some other) e =
        found_name-other (name_of start.root start.owned) (λ one. same_name dd one.name) start.owned.step.dds name other apart e

    by : (dd : Option Name) → Apart name (option_and_then (set_name start) dd)
    by None = tt
    by (Some dd) = of_dd dd (set_name start dd) refl

changed_in-other : (in_set : Option Name) (change : LibrarySet → LibrarySet) (library : Library) (name : Name) → Apart name in_set → entry_at (changed_in in_set change library) name ≡ entry_at library name
changed_in-other None change library name apart = refl
changed_in-other (Some other) change library name apart = at-with_changed-other other name change library apart

written_one-other : (start : StepStart) (write : Write) (library : Library) (name : Name) → is_among (names_of start.root start.owned) name ≡ false → entry_at (written_one start write library) name ≡ entry_at library name
unfolding written_one
written_one-other start write library name apart =
    changed_in-other (output_name start write.output) (written_set start write.output write.image) library name (output_name-other start write.output name apart)

written_all-other : (start : StepStart) (writes : List Write) (library : Library) (name : Name) → is_among (names_of start.root start.owned) name ≡ false → entry_at (written_all start writes library) name ≡ entry_at library name
written_all-other start [] library name apart = refl
written_all-other start (write ∷ writes) library name apart =
    written_all-other start writes (written_one start write library) name apart ∙ written_one-other start write library name apart

pub within_at-other : (start : StepStart) (writes : ℕ) (name : Name) → is_among (names_of start.root start.owned) name ≡ false → entry_at (within_at start writes) name ≡ entry_at start.standing.sets name
unfolding within_at
within_at-other start writes name apart =
    written_all-other start (take writes (work_at start).writes) (made_at start) name apart ∙ made_at-other start name apart

-- ---- dispositions

sets_after-other : {X : Type 0} (ways : SetWays X) (after : After) (name other : Name) (sets : Named X) → same_name other name ≡ false → entry_at (sets_after ways after name sets) other ≡ entry_at sets other
sets_after-other ways Delete name other sets apart = without_entry-other name other sets apart
sets_after-other ways Keep name other sets apart = refl
sets_after-other ways Pass name other sets apart = refl
sets_after-other ways Catlg name other sets apart = at-with_changed-other name other (ways.marked true) sets apart
sets_after-other ways Uncatlg name other sets apart = at-with_changed-other name other (ways.marked false) sets apart

passed_after-other : (after : After) (name other : Name) (by_run : Bool) (passed : List Passed) → same_name other name ≡ false → is_passed (passed_after after name by_run passed) other ≡ is_passed passed other
passed_after-other Delete name other by_run passed apart = is_passed-unpassed name other passed apart
passed_after-other Keep name other by_run passed apart = is_passed-unpassed name other passed apart
passed_after-other Pass name other by_run passed apart =
    list_any-append (λ (one : Passed). same_name other one.name) (unpassed name passed) (record { name = name; made = by_run } ∷ [])
    ∙ ap (λ b. is_passed (unpassed name passed) other || (b || false)) apart
    ∙ no_more (is_passed (unpassed name passed) other) ∙ is_passed-unpassed name other passed apart
  where
    no_more : (b : Bool) → (b || (false || false)) ≡ b
    no_more true = refl
    no_more false = refl
passed_after-other Catlg name other by_run passed apart = is_passed-unpassed name other passed apart
passed_after-other Uncatlg name other by_run passed apart = is_passed-unpassed name other passed apart

abbrev disposed_names : List Disposal → List Name
disposed_names disposals = map (λ one. one.name) disposals

pub disposed_all-other : {X : Type 0} (ways : SetWays X) (disposals : List Disposal) (standing : Stock X) (name : Name) → is_among (disposed_names disposals) name ≡ false → entry_at (disposed_all ways disposals standing).sets name ≡ entry_at standing.sets name
disposed_all-other ways [] standing name apart = refl
disposed_all-other ways (disposal ∷ rest) standing name apart =
    disposed_all-other ways rest (disposed_one ways disposal standing) name (or-second-false (same_name name disposal.name) _ apart)
    ∙ sets_after-other ways disposal.after disposal.name name standing.sets (or-first-false _ (is_among (disposed_names rest) name) apart)

pub disposed_all-passed : {X : Type 0} (ways : SetWays X) (disposals : List Disposal) (standing : Stock X) (name : Name) → is_among (disposed_names disposals) name ≡ false → is_passed (disposed_all ways disposals standing).passed name ≡ is_passed standing.passed name
disposed_all-passed ways [] standing name apart = refl
disposed_all-passed ways (disposal ∷ rest) standing name apart =
    disposed_all-passed ways rest (disposed_one ways disposal standing) name (or-second-false (same_name name disposal.name) _ apart)
    ∙ passed_after-other disposal.after disposal.name name disposal.made standing.passed (or-first-false _ (is_among (disposed_names rest) name) apart)

disposed_names-of : (earlier : List Name) (abnormal : Bool) (placed : List DdAllotment) → disposed_names (disposals_of earlier abnormal placed) ≡ names_in placed
disposed_names-of earlier abnormal [] = refl
disposed_names-of earlier abnormal (one ∷ rest) = ap (λ names. one.name ∷ names) (disposed_names-of earlier abnormal rest)

disposals-other : (start : StepStart) (abnormal : Bool) (name : Name) → is_among (names_of start.root start.owned) name ≡ false → is_among (disposed_names (disposals_of start.earlier abnormal (placed_at start))) name ≡ false
disposals-other start abnormal name apart =
    ap (λ names. is_among names name) (disposed_names-of start.earlier abnormal (placed_at start)) ∙ placed_at-other start name apart

pub disposed_at-other : (start : StepStart) (abnormal : Bool) (library : Library) (name : Name) → is_among (names_of start.root start.owned) name ≡ false → entry_at (disposed_at start abnormal library).sets name ≡ entry_at library name
unfolding disposed_at
disposed_at-other start abnormal library name apart =
    disposed_all-other record_ways (disposals_of start.earlier abnormal (placed_at start)) (record { sets = library; passed = start.standing.passed }) name (disposals-other start abnormal name apart)

pub disposed_at-passed : (start : StepStart) (abnormal : Bool) (library : Library) (name : Name) → is_among (names_of start.root start.owned) name ≡ false → is_passed (disposed_at start abnormal library).passed name ≡ is_passed start.standing.passed name
unfolding disposed_at
disposed_at-passed start abnormal library name apart =
    disposed_all-passed record_ways (disposals_of start.earlier abnormal (placed_at start)) (record { sets = library; passed = start.standing.passed }) name (disposals-other start abnormal name apart)

-- ---- a job

-- the name has kept its data set, and isn't passed
record Keeps (library : Library) (standing : Stock LibrarySet) (name : Name) : Type 0 where
  set : entry_at standing.sets name ≡ entry_at library name
  free : is_passed standing.passed name ≡ false

step_walked-keeps : (library : Library) (start : StepStart) (walk : Walk) (name : Name) → is_among (names_of start.root start.owned) name ≡ false → Keeps library start.standing name → Keeps library (step_walked start walk).standing name
unfolding step_walked
step_walked-keeps library start walk name apart keeps =
    let behind : Library = within_at start (length (work_at start).writes) in
    record {
      set = disposed_at-other start false behind name apart ∙ within_at-other start (length (work_at start).writes) name apart ∙ keeps.set;
      free = disposed_at-passed start false behind name apart ∙ keeps.free;
    }

walked_one-keeps : (library : Library) (root number : ℕ) (owned : OwnedStep) (walk : Walk) (name : Name) → is_among (names_of root owned) name ≡ false → Keeps library walk.standing name → Keeps library (walked_one root number owned walk).standing name
unfolding walked_one
walked_one-keeps library root number owned walk name apart keeps = by (is_bypassed walk.rcs owned)
  where
    by : (bypassed : Bool) → Keeps library (walked_by bypassed (start_in root number owned walk) walk).standing name
    by true = keeps
    by false = step_walked-keeps library (start_in root number owned walk) walk name apart keeps

-- a name that no step of the job has
abbrev FreeOf : ℕ → List OwnedStep → Name → Type 0
FreeOf root steps name = is_among (names_of_steps root steps) name ≡ false

free_of_first : (root : ℕ) (owned : OwnedStep) (rest : List OwnedStep) (name : Name) → FreeOf root (owned ∷ rest) name → is_among (names_of root owned) name ≡ false
free_of_first root owned rest name free =
    or-first-false _ (is_among (names_of_steps root rest) name) (sym (list_any-append (same_name name) (names_of root owned) (names_of_steps root rest)) ∙ free)

free_of_rest : (root : ℕ) (owned : OwnedStep) (rest : List OwnedStep) (name : Name) → FreeOf root (owned ∷ rest) name → FreeOf root rest name
free_of_rest root owned rest name free =
    or-second-false (is_among (names_of root owned) name) _ (sym (list_any-append (same_name name) (names_of root owned) (names_of_steps root rest)) ∙ free)

free_of_take : (root count : ℕ) (steps : List OwnedStep) (name : Name) → FreeOf root steps name → FreeOf root (take count steps) name
free_of_take root zero steps name free = refl
free_of_take root (suc count) [] name free = refl
free_of_take root (suc count) (owned ∷ rest) name free =
    list_any-append (same_name name) (names_of root owned) (names_of_steps root (take count rest))
    ∙ ap (λ b. b || is_among (names_of_steps root (take count rest)) name) (free_of_first root owned rest name free)
    ∙ free_of_take root count rest name (free_of_rest root owned rest name free)

free_at : (root place : ℕ) (steps : List OwnedStep) (name : Name) (owned : OwnedStep) → FreeOf root steps name → slice_get steps place ≡ Some owned → is_among (names_of root owned) name ≡ false
free_at root place [] name owned free at = absurd (some-not-none owned (sym at))
free_at root zero (first ∷ rest) name owned free at =
    ap (λ step. is_among (names_of root step) name) (sym (same_Some first owned at)) ∙ free_of_first root first rest name free
free_at root (suc place) (first ∷ rest) name owned free at =
    free_at root place rest name owned (free_of_rest root first rest name free) at

free_step : (job : Effective) (number : ℕ) (name : Name) (owned : OwnedStep) → is_among (names_of_job job) name ≡ false → step_at job number ≡ Some owned → is_among (names_of job.root owned) name ≡ false
free_step job zero name owned free at = absurd (some-not-none owned (sym at))
free_step job (suc before) name owned free at = free_at job.root before job.steps name owned free at

walked-keeps : (library : Library) (root number : ℕ) (steps : List OwnedStep) (walk : Walk) (name : Name) → FreeOf root steps name → Keeps library walk.standing name → Keeps library (walked root number steps walk).standing name
walked-keeps library root number [] walk name free keeps = keeps
walked-keeps library root number (owned ∷ rest) walk name free keeps =
    walked-keeps library root (suc number) rest (walked_one root number owned walk) name (free_of_rest root owned rest name free)
    (walked_one-keeps library root number owned walk name (free_of_first root owned rest name free) keeps)

walk_before-keeps : (job : Effective) (library : Library) (number : ℕ) (name : Name) → is_among (names_of_job job) name ≡ false → Keeps library (walk_before job library number).standing name
unfolding walk_before
walk_before-keeps job library number name free =
    walked-keeps library job.root 1 (take (pred number) job.steps) (walk_from library) name (free_of_take job.root (pred number) job.steps name free) (record { set = refl; free = refl })

abbrev start_by : Effective → Library → ℕ → Option OwnedStep → Option StepStart
start_by job library number step = option_map (λ owned. start_in job.root number owned (walk_before job library number)) step

at-keeps : (job : Effective) (library : Library) (place : Place) (name : Name) → is_among (names_of_job job) name ≡ false → Keeps library (at job library place) name
unfolding at start_at
at-keeps job library (Before number) name free = walk_before-keeps job library number name free
at-keeps job library (Opened number) name free = by (step_at job number) refl
  where
    before : Keeps library (walk_before job library number).standing name
    before = walk_before-keeps job library number name free

    by : (step : Option OwnedStep) → step_at job number ≡ step → Keeps library (option_map_or (λ (start : StepStart). with_sets (opened_at start) start.standing) (start_by job library number step) (walk_before job library number).standing) name
    by None e = before
    by (Some owned) e = record { set = opened_at-other (start_in job.root number owned (walk_before job library number)) name (free_step job number name owned free e) ∙ before.set; free = before.free }
at-keeps job library (Within number writes) name free = by (step_at job number) refl
  where
    before : Keeps library (walk_before job library number).standing name
    before = walk_before-keeps job library number name free

    by : (step : Option OwnedStep) → step_at job number ≡ step → Keeps library (option_map_or (λ (start : StepStart). with_sets (within_at start writes) start.standing) (start_by job library number step) (walk_before job library number).standing) name
    by None e = before
    by (Some owned) e = record { set = within_at-other (start_in job.root number owned (walk_before job library number)) writes name (free_step job number name owned free e) ∙ before.set; free = before.free }

cut_from-keeps : (job : Effective) (library : Library) (place : Place) (standing : Stock LibrarySet) (name : Name) → is_among (names_of_job job) name ≡ false → Keeps library standing name → Keeps library (cut_from job library place standing) name
unfolding start_at
cut_from-keeps job library (Before number) standing name free keeps = keeps
cut_from-keeps job library (Opened number) standing name free keeps = keeps
cut_from-keeps job library (Within number writes) standing name free keeps = by (step_at job number) refl
  where
    before : Keeps library (walk_before job library number).standing name
    before = walk_before-keeps job library number name free

    by : (step : Option OwnedStep) → step_at job number ≡ step → Keeps library (option_map_or (λ (start : StepStart). disposed_at start true standing.sets) (start_by job library number step) standing) name
    by None e = keeps
    by (Some owned) e =
        let start : StepStart = start_in job.root number owned (walk_before job library number) in
        let apart = free_step job number name owned free e in
        record { set = disposed_at-other start true standing.sets name apart ∙ keeps.set; free = disposed_at-passed start true standing.sets name apart ∙ before.free }

passed_ended-other : {X : Type 0} (passed : List Passed) (sets : Named X) (name : Name) → is_passed passed name ≡ false → entry_at (passed_ended passed sets) name ≡ entry_at sets name
passed_ended-other [] sets name free = refl
passed_ended-other {X = X} (one ∷ passed) sets name free =
    passed_ended-other passed _ name (or-second-false (same_name name one.name) _ free) ∙ by_maker one.made
  where
    by_maker : (goes : Bool) → entry_at (if goes then without_entry one.name sets else sets) name ≡ entry_at sets name
    by_maker true = without_entry-other one.name name sets (or-first-false _ (is_passed passed name) free)
    by_maker false = refl

cut_at-other : (job : Effective) (library : Library) (place : Place) (name : Name) → is_among (names_of_job job) name ≡ false → entry_at (cut_at job library place) name ≡ entry_at library name
unfolding cut_at
cut_at-other job library place name free =
    let standing : Stock LibrarySet = cut_from job library place (at job library place) in
    let keeps : Keeps library standing name = cut_from-keeps job library place (at job library place) name free (at-keeps job library place name free) in
    passed_ended-other standing.passed standing.sets name keeps.free ∙ keeps.set

pub at-other : (job : Effective) (library : Library) (place : Place) (name : Name) → is_among (names_of_job job) name ≡ false → entry_at (at job library place).sets name ≡ entry_at library name
at-other job library place name free = (at-keeps job library place name free).set

pub job_run-other : (job : Effective) (library : Library) (cut : Option Place) (name : Name) → is_among (names_of_job job) name ≡ false → entry_at (job_run job library cut) name ≡ entry_at library name
unfolding job_run
job_run-other job library None name free = cut_at-other job library (end_of_job job library) name free
job_run-other job library (Some place) name free = cut_at-other job library place name free
