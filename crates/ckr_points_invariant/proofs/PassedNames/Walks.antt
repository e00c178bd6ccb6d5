-- The passed names of a job between two of its steps: each is a name of the job, its data set is there, and the job doesn't leave it as it was.
use Rattle.std.proofs.Common.{◌≡◌, ℕ, zero, suc, pred, Bool, true, false, cond, ◌&&◌, ◌||◌, List, [], ◌∷◌, map, filter, take, length, refl, ap, sym, ◌∙◌, subst, Option, Some, None}
use Rattle.std.specs.List.{AllByRecursion, cons_option, filter_map, list_all}
use Rattle.std.specs.Option.{is_none, is_some, option_map}
use Rattle.std.proofs.lemmas.Bool.{false≢true, or_right}
use Rattle.std.proofs.lemmas.List.Folds.{list_any-append}
use Rattle.ckr_base.specs.declared.programs.Finish.{Finish}
use Rattle.ckr_base.specs.declared.programs.Write.{Write}
use Rattle.ckr_base.proofs.Bools.{and-first, and-second, bool-cases, or-cases}
use Rattle.ckr_base.proofs.Options.{some-not-none}
use Rattle.ckr_jcl.specs.declared.deck.After.TheVariants.{Keep}
use Rattle.ckr_jcl.specs.declared.deck.Dd.{Dd}
use Rattle.ckr_library.specs.NameMaps.{Name, same_name, entry_at}
use Rattle.ckr_library.proofs.Named.{at-with_changed, at-with_entry}
use Rattle.ckr_meaning.specs.Allotments.{AllotmentModel, found, made, refused, DdAllotment, FlawModel, is_made}
use Rattle.ckr_meaning.specs.Dispositions.{Disposal, Stock}
use Rattle.ckr_meaning.specs.EffectiveJob.{Effective, OwnedStep, disposals_of, flaws_in, is_among, name_of, names_made, names_of, names_of_job, names_of_steps, placed_from, placed_one}
use Rattle.ckr_meaning.specs.JobRun.{Walk, all_go_on, end_in, end_unless, is_bypassed, place_of_end, start_in, step_walked, walk_before, walk_from, walked, walked_by, walked_one}
use Rattle.ckr_meaning.specs.LibrarySet.{Library, LibrarySet, SetWays, record_ways}
use Rattle.ckr_meaning.specs.StepRun.{StepStart, changed_in, disposed_at, end_at, end_by, fresh_set, made_all, made_at, made_one, opened_at, output_name, placed_at, stamp_at, within_at, work_at, written_all, written_one, written_set}
use Rattle.ckr_meaning.specs.declared.place.Place.{Place}
use Rattle.ckr_meaning.proofs.JobEnds.{all_go_on-step, go_on_unless}
use Rattle.ckr_library.specs.declared.sets.Stamp.{Stamp}
use Rattle.ckr_uses.specs.Disposal.{dispose, is_temporary}
use Rattle.ckr_uses.specs.Uses.{are_distinct}
use Rattle.ckr_points.specs.Payload.{is_formed, is_formed_step}
use Rattle.ckr_points_invariant.specs.Invariant.{Leaves, leaves_dd}
use Rattle.ckr_points_invariant.proofs.Holders.SharedSets.{Left, LeavesStep, Stays, placed_at-left}
use Rattle.ckr_points_invariant.proofs.Start.Openings.{opened-none}
use Rattle.ckr_points_invariant.proofs.StepEnd.Disposals.{names_made-placed}
use Rattle.ckr_points_invariant.proofs.Steps.Walks.{step_walked-standing}
use Rattle.ckr_points_invariant.proofs.PassedNames.Dispositions.{IsThere, disposal_names, is_listed, listed-from, there-all, unlisted-all}

-- ---- a step that goes on

flawless-by : (start : StepStart) (flaws : List (ℕ × FlawModel)) (finish : Finish) → place_of_end start.number (work_at start) (end_by flaws finish) ≡ None → flaws ≡ []
flawless-by start [] finish e = refl
flawless-by start (first ∷ others) finish e = absurd (some-not-none _ e)

-- a step that ends with a return code has no flaw
pub flawless-on : (root number : ℕ) (owned : OwnedStep) (walk : Walk) → end_in root number owned walk ≡ None → is_bypassed walk.rcs owned ≡ false → flaws_in (placed_at (start_in root number owned walk)) ≡ []
unfolding end_in end_at
flawless-on root number owned walk e runs =
    let start : StepStart = start_in root number owned walk in
    flawless-by start (flaws_in (placed_at start)) (work_at start).finish (ap (λ by. end_unless by start) (sym runs) ∙ e)

-- ---- the names of a step

placed-names : {X : Type 0} (ways : SetWays X) (standing : Stock X) (root : ℕ) (owned : OwnedStep) (number : ℕ) (dds : List Dd) → map (λ (one : DdAllotment). one.name) (placed_from ways standing root owned number dds) ≡ filter_map (name_of root owned) dds
placed-names ways standing root owned number [] = refl
placed-names ways standing root owned number (dd ∷ dds) =
    by (name_of root owned dd) (placed-names ways standing root owned (suc number) dds)
  where
    by : (name : Option Name) → map (λ (one : DdAllotment). one.name) (placed_from ways standing root owned (suc number) dds) ≡ filter_map (name_of root owned) dds → map (λ (one : DdAllotment). one.name) (cons_option (option_map (placed_one ways standing number dd) name) (placed_from ways standing root owned (suc number) dds)) ≡ cons_option name (filter_map (name_of root owned) dds)
    by None rest = rest
    by (Some name) rest = ap (λ names. name ∷ names) rest

disposed-names : (earlier : List Name) (abnormal : Bool) (placed : List DdAllotment) → disposal_names (disposals_of earlier abnormal placed) ≡ map (λ (one : DdAllotment). one.name) placed
disposed-names earlier abnormal [] = refl
disposed-names earlier abnormal (one ∷ rest) = ap (λ names. one.name ∷ names) (disposed-names earlier abnormal rest)

names-disposed : (start : StepStart) (abnormal : Bool) → disposal_names (disposals_of start.earlier abnormal (placed_at start)) ≡ names_of start.root start.owned
unfolding placed_at
names-disposed start abnormal =
    disposed-names start.earlier abnormal (placed_at start) ∙ placed-names record_ways start.standing start.root start.owned 1 start.owned.step.dds

-- ---- each name of a step is there

made_one-there : (name : Name) (stamp : Stamp) (placed : DdAllotment) (allotment : AllotmentModel) (library : Library) → is_some (entry_at (made_one stamp placed allotment library) name) ≡ (is_some (entry_at library name) || (is_made allotment && same_name name placed.name))
made_one-there name stamp placed found library = same (is_some (entry_at library name))
  where
    same : (b : Bool) → b ≡ (b || false)
    same true = refl
    same false = refl
made_one-there name stamp placed made library =
    ap is_some (at-with_entry placed.name name (fresh_set stamp placed.dd) library) ∙ by (same_name name placed.name) (entry_at library name)
  where
    by : (b : Bool) (entry : Option LibrarySet) → is_some (cond b (Some (fresh_set stamp placed.dd)) entry) ≡ (is_some entry || b)
    by true None = refl
    by true (Some set) = refl
    by false None = refl
    by false (Some set) = refl
made_one-there name stamp placed (refused flaw) library = same (is_some (entry_at library name))
  where
    same : (b : Bool) → b ≡ (b || false)
    same true = refl
    same false = refl

made_all-there : (name : Name) (stamp : Stamp) (all : List DdAllotment) (library : Library) → is_some (entry_at (made_all stamp all library) name) ≡ (is_some (entry_at library name) || is_among (names_made all) name)
made_all-there name stamp [] library = same (is_some (entry_at library name))
  where
    same : (b : Bool) → b ≡ (b || false)
    same true = refl
    same false = refl
made_all-there name stamp (placed ∷ rest) library =
    made_all-there name stamp rest (made_one stamp placed placed.allotment library)
    ∙ ap (λ b. b || is_among (names_made rest) name) (made_one-there name stamp placed placed.allotment library)
    ∙ by (is_made placed.allotment) (is_some (entry_at library name))
  where
    by : (makes before : Bool) → ((before || (makes && same_name name placed.name)) || is_among (names_made rest) name) ≡ (before || is_among (map (λ (one : DdAllotment). one.name) (cond makes (placed ∷ filter (λ one. is_made one.allotment) rest) (filter (λ one. is_made one.allotment) rest))) name)
    by true true = refl
    by true false = refl
    by false true = refl
    by false false = refl

pub some-present : {A : Type 0} (entry : Option A) → is_some entry ≡ true → is_none entry ≡ false
some-present None e = absurd (false≢true e)
some-present (Some x) e = refl

pub present-some : {A : Type 0} (entry : Option A) → is_none entry ≡ false → is_some entry ≡ true
present-some None e = absurd (false≢true (sym e))
present-some (Some x) e = refl

made-there : (start : StepStart) (name : Name) → flaws_in (placed_at start) ≡ [] → is_among (names_of start.root start.owned) name ≡ true → is_some (entry_at (made_at start) name) ≡ true
unfolding made_at placed_at
made-there start name flawless among =
    made_all-there name (stamp_at start) (placed_at start) (opened_at start)
    ∙ bool-cases (is_none (entry_at start.standing.sets name))
    (λ absent.
    ap (λ b. is_some (entry_at (opened_at start) name) || b)
    (names_made-placed start.standing start.root start.owned 1 start.owned.step.dds name flawless
    ∙ ap (λ b. b && is_among (names_of start.root start.owned) name) absent ∙ among)
    ∙ always (is_some (entry_at (opened_at start) name)))
    (λ there. ap (λ b. b || is_among (names_made (placed_at start)) name) (present-some (entry_at (opened_at start) name) (opened-none start name ∙ there)))
  where
    always : (b : Bool) → (b || true) ≡ true
    always true = refl
    always false = refl

changed-there : (name : Name) (to : Option Name) (change : LibrarySet → LibrarySet) (library : Library) → is_some (entry_at (changed_in to change library) name) ≡ is_some (entry_at library name)
changed-there name None change library = refl
changed-there name (Some to) change library =
    ap is_some (at-with_changed to name change library) ∙ by (same_name name to) (entry_at library name)
  where
    by : (b : Bool) (entry : Option LibrarySet) → is_some (cond b (option_map change entry) entry) ≡ is_some entry
    by true None = refl
    by true (Some set) = refl
    by false entry = refl

written-there : (start : StepStart) (name : Name) (writes : List Write) (library : Library) → is_some (entry_at (written_all start writes library) name) ≡ is_some (entry_at library name)
unfolding written_one
written-there start name [] library = refl
written-there start name (write ∷ writes) library =
    written-there start name writes (written_one start write library)
    ∙ changed-there name (output_name start write.output) (written_set start write.output write.image) library

within-there : (start : StepStart) (writes : ℕ) (name : Name) → flaws_in (placed_at start) ≡ [] → is_among (names_of start.root start.owned) name ≡ true → is_some (entry_at (within_at start writes) name) ≡ true
unfolding within_at
within-there start writes name flawless among = written-there start name (take writes (work_at start).writes) (made_at start) ∙ made-there start name flawless among

-- what was there before the step and isn't disposed of is there behind it
pub kept-there : (start : StepStart) (writes : ℕ) (name : Name) → is_some (entry_at start.standing.sets name) ≡ true → is_some (entry_at (within_at start writes) name) ≡ true
unfolding within_at made_at
kept-there start writes name there =
    written-there start name (take writes (work_at start).writes) (made_at start)
    ∙ made_all-there name (stamp_at start) (placed_at start) (opened_at start)
    ∙ ap (λ b. b || is_among (names_made (placed_at start)) name)
    (present-some (entry_at (opened_at start) name) (opened-none start name ∙ some-present (entry_at start.standing.sets name) there))

-- ---- behind a step

module _ (name : Name) where
  disposed-there : (start : StepStart) (writes : ℕ) → is_formed_step start.root start.owned ≡ true → flaws_in (placed_at start) ≡ [] → IsThere name start.standing → IsThere name (disposed_at start false (within_at start writes))
  unfolding disposed_at
  disposed-there start writes formed flawless there =
      there-all record_ways name (disposals_of start.earlier false (placed_at start)) (record { sets = within_at start writes; passed = start.standing.passed })
      (ap are_distinct (names-disposed start false) ∙ and-first (are_distinct (names_of start.root start.owned)) _ (and-first (are_distinct (names_of start.root start.owned) && _) _ formed))
      (λ among. within-there start writes name flawless (sym (ap (λ names. is_among names name) (names-disposed start false)) ∙ among))
      (λ listed. kept-there start writes name (there listed))

  disposed-from : (start : StepStart) (writes : ℕ) → is_listed name (disposed_at start false (within_at start writes)).passed ≡ true → (is_among (names_of start.root start.owned) name || is_listed name start.standing.passed) ≡ true
  unfolding disposed_at
  disposed-from start writes listed =
      ap (λ names. is_among names name || is_listed name start.standing.passed) (sym (names-disposed start false))
      ∙ listed-from record_ways name (disposals_of start.earlier false (placed_at start)) (record { sets = within_at start writes; passed = start.standing.passed }) listed

  keeps-all : (earlier : List Name) (placed : List DdAllotment) → AllByRecursion (Left name) placed → AllByRecursion (λ (one : Disposal). same_name name one.name ≡ true → one.after ≡ Keep) (disposals_of earlier false placed)
  keeps-all earlier [] left = tt
  keeps-all earlier (one ∷ rest) left = (
    λ same. let stays : Stays name one = left.0 same in ap (λ b. dispose (is_temporary one.dd.origin) one.dd.disp b false) stays.unmade ∙ stays.normal,
    keeps-all earlier rest left.1,
  )

  disposed-unlisted : (start : StepStart) (writes : ℕ) → LeavesStep name start.root start.owned → is_listed name start.standing.passed ≡ false → is_listed name (disposed_at start false (within_at start writes)).passed ≡ false
  unfolding disposed_at
  disposed-unlisted start writes left out =
      unlisted-all record_ways name (disposals_of start.earlier false (placed_at start)) (record { sets = within_at start writes; passed = start.standing.passed })
      (keeps-all start.earlier (placed_at start) (placed_at-left name start left)) out

  -- ---- behind some steps

  -- what is known of the name between two steps, where it is one of these names if it is in the passed list
  record PassedSo (among : Bool) (walk : Walk) : Type 0 where
    there : IsThere name walk.standing
    from : is_listed name walk.standing.passed ≡ true → among ≡ true

  step-so : (among : Bool) (start : StepStart) (walk : Walk) → start.standing ≡ walk.standing → is_formed_step start.root start.owned ≡ true → flaws_in (placed_at start) ≡ [] → (is_among (names_of start.root start.owned) name ≡ true → among ≡ true) → PassedSo among walk → PassedSo among (step_walked start walk)
  step-so among start walk same formed flawless its so = record {
    there =
        subst (IsThere name) (sym (step_walked-standing start walk))
        (disposed-there start (length (work_at start).writes) formed flawless (subst (IsThere name) (sym same) so.there));
    from = λ listed.
        or-cases (is_among (names_of start.root start.owned) name) (is_listed name start.standing.passed)
        (disposed-from start (length (work_at start).writes) (sym (ap (λ (standing : Stock LibrarySet). is_listed name standing.passed) (step_walked-standing start walk)) ∙ listed)) its
        (λ before. so.from (sym (ap (λ (standing : Stock LibrarySet). is_listed name standing.passed) same) ∙ before));
  }

  one-so : (among : Bool) (root number : ℕ) (owned : OwnedStep) (walk : Walk) → is_formed_step root owned ≡ true → end_in root number owned walk ≡ None → (is_among (names_of root owned) name ≡ true → among ≡ true) → PassedSo among walk → PassedSo among (walked_one root number owned walk)
  unfolding walked_one
  one-so among root number owned walk formed goes its so = by (is_bypassed walk.rcs owned) refl
    where
      by : (bypassed : Bool) → is_bypassed walk.rcs owned ≡ bypassed → PassedSo among (walked_by bypassed (start_in root number owned walk) walk)
      by true e = so
      by false e = step-so among (start_in root number owned walk) walk refl formed (flawless-on root number owned walk goes e) its so

  walked-so : (among : Bool) (root number : ℕ) (steps : List OwnedStep) (walk : Walk) → AllByRecursion (λ owned. is_formed_step root owned ≡ true) steps → all_go_on root number steps walk ≡ true → (is_among (names_of_steps root steps) name ≡ true → among ≡ true) → PassedSo among walk → PassedSo among (walked root number steps walk)
  walked-so among root number [] walk formed goes its so = so
  walked-so among root number (owned ∷ rest) walk formed goes its so =
      let on = on_by (end_in root number owned walk) refl (sym (all_go_on-step root number owned rest walk) ∙ goes) in
      walked-so among root (suc number) rest (walked_one root number owned walk) formed.1 on.1
      (λ later. its (list_any-append (same_name name) (names_of root owned) (names_of_steps root rest) ∙ or_right (is_among (names_of root owned) name) (is_among (names_of_steps root rest) name) later))
      (one-so among root number owned walk formed.0 on.0
      (λ here. its (list_any-append (same_name name) (names_of root owned) (names_of_steps root rest) ∙ ap (λ b. b || is_among (names_of_steps root rest) name) here)) so)
    where
      on_by : (place : Option Place) → end_in root number owned walk ≡ place → go_on_unless place (all_go_on root (suc number) rest (walked_one root number owned walk)) ≡ true → (end_in root number owned walk ≡ None) × (all_go_on root (suc number) rest (walked_one root number owned walk) ≡ true)
      on_by None e others = (e, others)
      on_by (Some place) e others = absurd (false≢true others)

  one-unlisted : (root number : ℕ) (owned : OwnedStep) (walk : Walk) → LeavesStep name root owned → is_listed name walk.standing.passed ≡ false → is_listed name (walked_one root number owned walk).standing.passed ≡ false
  unfolding walked_one
  one-unlisted root number owned walk left out = by (is_bypassed walk.rcs owned)
    where
      by : (bypassed : Bool) → is_listed name (walked_by bypassed (start_in root number owned walk) walk).standing.passed ≡ false
      by true = out
      by false =
          ap (λ (standing : Stock LibrarySet). is_listed name standing.passed) (step_walked-standing (start_in root number owned walk) walk)
          ∙ disposed-unlisted (start_in root number owned walk) (length (work_at (start_in root number owned walk)).writes) left out

  walked-unlisted : (root number : ℕ) (steps : List OwnedStep) (walk : Walk) → AllByRecursion (LeavesStep name root) steps → is_listed name walk.standing.passed ≡ false → is_listed name (walked root number steps walk).standing.passed ≡ false
  walked-unlisted root number [] walk left out = out
  walked-unlisted root number (owned ∷ rest) walk left out =
      walked-unlisted root (suc number) rest (walked_one root number owned walk) left.1 (one-unlisted root number owned walk left.0 out)

  -- ---- the job

  formed_taken : (root count : ℕ) (steps : List OwnedStep) → list_all (is_formed_step root) steps ≡ true → AllByRecursion (λ owned. is_formed_step root owned ≡ true) (take count steps)
  formed_taken root zero steps formed = tt
  formed_taken root (suc count) [] formed = tt
  formed_taken root (suc count) (owned ∷ rest) formed = (and-first (is_formed_step root owned) _ formed, formed_taken root count rest (and-second (is_formed_step root owned) _ formed))

  among_taken : (root count : ℕ) (steps : List OwnedStep) → is_among (names_of_steps root (take count steps)) name ≡ true → is_among (names_of_steps root steps) name ≡ true
  among_taken root zero steps among = absurd (false≢true among)
  among_taken root (suc count) [] among = among
  among_taken root (suc count) (owned ∷ rest) among =
      list_any-append (same_name name) (names_of root owned) (names_of_steps root rest)
      ∙ or-cases (is_among (names_of root owned) name) (is_among (names_of_steps root (take count rest)) name) (sym (list_any-append (same_name name) (names_of root owned) (names_of_steps root (take count rest))) ∙ among)
      (λ here. ap (λ b. b || is_among (names_of_steps root rest) name) here)
      (λ later. or_right (is_among (names_of root owned) name) (is_among (names_of_steps root rest) name) (among_taken root count rest later))

  leaves_taken : (root count : ℕ) (steps : List OwnedStep) → list_all (is_formed_step root) steps ≡ true → list_all (λ owned. list_all (leaves_dd root owned name) owned.step.dds) steps ≡ true → AllByRecursion (LeavesStep name root) (take count steps)
  leaves_taken root zero steps formed left = tt
  leaves_taken root (suc count) [] formed left = tt
  leaves_taken root (suc count) (owned ∷ rest) formed left = (
    record { formed = and-first (is_formed_step root owned) _ formed; leaves = and-first (list_all (leaves_dd root owned name) owned.step.dds) _ left },
    leaves_taken root count rest (and-second (is_formed_step root owned) _ formed) (and-second (list_all (leaves_dd root owned name) owned.step.dds) _ left),
  )

  module _ (job : Effective) (library : Library) (number : ℕ) (formed : is_formed job ≡ true) where
    so_before : all_go_on job.root 1 (take (pred number) job.steps) (walk_from library) ≡ true → PassedSo (is_among (names_of_job job) name) (walk_before job library number)
    unfolding walk_before
    so_before goes =
        walked-so (is_among (names_of_job job) name) job.root 1 (take (pred number) job.steps) (walk_from library) (formed_taken job.root (pred number) job.steps formed) goes
        (among_taken job.root (pred number) job.steps) (record { there = λ listed. absurd (false≢true listed); from = λ listed. absurd (false≢true listed) })

    -- a passed name is there
    pub passed-there : all_go_on job.root 1 (take (pred number) job.steps) (walk_from library) ≡ true → is_listed name (walk_before job library number).standing.passed ≡ true → is_some (entry_at (walk_before job library number).standing.sets name) ≡ true
    passed-there goes = (so_before goes).there

    -- and is a name of the job
    pub passed-named : all_go_on job.root 1 (take (pred number) job.steps) (walk_from library) ≡ true → is_listed name (walk_before job library number).standing.passed ≡ true → is_among (names_of_job job) name ≡ true
    passed-named goes = (so_before goes).from

    -- which the job doesn't leave
    pub left-unlisted : Leaves job name → is_listed name (walk_before job library number).standing.passed ≡ false
    unfolding walk_before
    left-unlisted left = walked-unlisted job.root 1 (take (pred number) job.steps) (walk_from library) (leaves_taken job.root (pred number) job.steps formed left) refl
