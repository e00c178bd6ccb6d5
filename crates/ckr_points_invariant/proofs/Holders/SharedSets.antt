-- A name that a job shares, SHR with KEEP at both ends, keeps its data set at each place of the job and at its end.
use Rattle.std.proofs.Common.{◌≡◌, ℕ, zero, suc, pred, Bool, true, false, cond, ◌&&◌, ◌||◌, if◌then◌else◌, List, [], ◌∷◌, filter, map, take, length, refl, ap, sym, ◌∙◌, subst, Option, Some, None}
use Rattle.std.specs.Prelude.{slice_get}
use Rattle.std.specs.List.{AllByRecursion, cons_option, list_all}
use Rattle.std.specs.Option.{option_map, option_map_or, is_some}
use Rattle.std.proofs.lemmas.Bool.{false≢true}
use Rattle.std.proofs.lemmas.List.Folds.{list_any-append}
use Rattle.std.proofs.lemmas.Option.{same_Some}
use Rattle.ckr_base.specs.declared.programs.Output.{Output}
use Rattle.ckr_base.specs.declared.programs.Write.{Write}
use Rattle.ckr_base.proofs.Bools.{and-first, and-second, bool-cases, if-then}
use Rattle.ckr_base.proofs.Options.{option-cases, some-not-none}
use Rattle.ckr_base.proofs.Sequences.{all-take, find-all}
use Rattle.ckr_uses.specs.Disposal.{dispose, is_temporary}
use Rattle.ckr_uses.specs.Uses.{is_keep, is_shared, is_shr, leaves}
use Rattle.ckr_jcl.specs.declared.deck.After.{After}
use Rattle.ckr_jcl.specs.declared.deck.After.TheVariants.{Delete, Keep, Pass, Catlg, Uncatlg}
use Rattle.ckr_jcl.specs.declared.deck.Dd.{Dd}
use Rattle.ckr_jcl.specs.declared.deck.Kind.{Kind}
use Rattle.ckr_jcl.specs.declared.deck.Role.{Role}
use Rattle.ckr_jcl.specs.declared.deck.Role.TheVariants.{Reads, Writes, Updates, Checkpoints, Unused}
use Rattle.ckr_jcl.specs.declared.deck.Status.{Status}
use Rattle.ckr_jcl.specs.declared.deck.Status.TheVariants.{New, Old, Shr, Mod}
use Rattle.ckr_library.specs.declared.sets.Stamp.{Stamp}
use Rattle.ckr_library.specs.NameMaps.{Name, Named, same_name, entry_at}
use Rattle.ckr_library.proofs.Named.{at-with_changed, at-with_entry, name-same}
use Rattle.ckr_meaning.specs.declared.place.Place.{Place}
use Rattle.ckr_meaning.specs.declared.place.Place.TheVariants.{Before, Opened, Within}
use Rattle.ckr_meaning.specs.LibrarySet.{Known, LibrarySet, Library, SetWays, record_ways}
use Rattle.ckr_meaning.specs.Allotments.{AllotmentModel, found, made, refused, missing, wrong_kind, DdAllotment, allotment_by, allotment_of, is_found, is_made, is_output, is_passed, opened_by, opened_one, opened_all, with_kind, is_wrong_kind}
use Rattle.ckr_meaning.specs.Dispositions.{Disposal, Stock, disposed_all, disposed_one, sets_after}
use Rattle.ckr_meaning.specs.EffectiveJob.{Effective, OwnedStep, disposal_of, disposals_of, is_among, name_of, names_made, placed_from, placed_one, step_at}
use Rattle.ckr_meaning.specs.StepRun.{StepStart, changed_in, disposed_at, fresh_set, made_all, made_at, made_one, opened_at, output_name, placed_at, stamp_at, within_at, work_at, written_all, written_one, written_set}
use Rattle.ckr_meaning.specs.JobRun.{Walk, at, cut_at, cut_from, end_of_job, is_bypassed, job_run, start_at, start_in, step_walked, walk_before, walk_from, walked, walked_by, walked_one, with_sets}
use Rattle.ckr_points.specs.Payload.{allows, has_role, is_formed, is_formed_step}
use Rattle.ckr_points_invariant.specs.Invariant.{Leaves, leaves_dd}
use Rattle.ckr_points.specs.Office.{passed_made}
use Rattle.ckr_points_invariant.proofs.Library.PassedList.{after-apart, disposed-made, ended-leaves}
use Rattle.ckr_points_invariant.proofs.Writes.Roles.{changes_records, formed-roles, is_right, target, target-changes, work_at-right}

keep_is : (after : After) → is_keep after ≡ true → after ≡ Keep
keep_is Delete e = absurd (false≢true e)
keep_is Keep e = refl
keep_is Pass e = absurd (false≢true e)
keep_is Catlg e = absurd (false≢true e)
keep_is Uncatlg e = absurd (false≢true e)

pub no_output : (role : Role) → changes_records role ≡ false → is_output role ≡ false
no_output Reads e = refl
no_output Writes e = absurd (false≢true (sym e))
no_output Updates e = refl
no_output Checkpoints e = absurd (false≢true (sym e))
no_output Unused e = refl

shared_by : (role : Role) (status : Status) → allows role status ≡ true → is_shr status ≡ true → changes_records role ≡ false
shared_by Reads status e shr = refl
shared_by Unused status e shr = refl
shared_by Writes Shr e shr = absurd (false≢true e)
shared_by Checkpoints Shr e shr = absurd (false≢true e)
shared_by Updates Shr e shr = absurd (false≢true e)
shared_by role New e shr = absurd (false≢true shr)
shared_by role Old e shr = absurd (false≢true shr)
shared_by role Mod e shr = absurd (false≢true shr)

pub shared_role : (program : Kind) (dd : Dd) → has_role program dd ≡ true → is_shared dd ≡ true → changes_records dd.role ≡ false
shared_role program dd has shared =
    shared_by dd.role dd.disp.status (and-second _ (allows dd.role dd.disp.status) has)
    (and-first (is_shr dd.disp.status) _ (and-first (is_shr dd.disp.status && is_keep (dispose (is_temporary dd.origin) dd.disp false false)) _ shared))

-- what is there already, and what is shared
abbrev pub is_there : Status → Bool
is_there New = false
is_there Old = true
is_there Shr = true
is_there Mod = false

pub not-made : (dd : Dd) (passed : Bool) (its : Option Known) → is_there dd.disp.status ≡ true → is_made (allotment_of dd passed its) ≡ false
not-made dd passed its there = by dd.disp.status there (is_found dd passed its)
  where
    kind_by : (role : Role) (its : Option Known) → is_made (with_kind role its found) ≡ false
    kind_by role None = refl
    kind_by role (Some known) = elim (is_wrong_kind role known.content) as (λ b. is_made (if b then refused wrong_kind else found) ≡ false) [ true ↦ refl | false ↦ refl ]

    none_by : (role : Role) (its : Option Known) → is_made (with_kind role its (refused missing)) ≡ false
    none_by role None = refl
    none_by role (Some known) = refl

    here_by : (here : Bool) → is_made (with_kind dd.role its (if here then found else refused missing)) ≡ false
    here_by true = kind_by dd.role its
    here_by false = none_by dd.role its

    by : (status : Status) → is_there status ≡ true → (here : Bool) → is_made (with_kind dd.role its (allotment_by status (is_some its) here (is_some dd.space))) ≡ false
    by New e here = absurd (false≢true e)
    by Old e here = here_by here
    by Shr e here = here_by here
    by Mod e here = absurd (false≢true e)

shr_there : (status : Status) → is_shr status ≡ true → is_there status ≡ true
shr_there New e = e
shr_there Old e = refl
shr_there Shr e = refl
shr_there Mod e = e

-- a DD that neither opens its data set for output nor makes it
pub record IsUntouched (placed : DdAllotment) : Type 0 where
  pub output : is_output placed.dd.role ≡ false
  pub unmade : is_made placed.allotment ≡ false

-- a DD of a step that leaves the name, if it has it
pub record Stays (name : Name) (placed : DdAllotment) : Type 0 where
  pub output : is_output placed.dd.role ≡ false
  pub unmade : is_made placed.allotment ≡ false
  pub normal : dispose (is_temporary placed.dd.origin) placed.dd.disp false false ≡ Keep
  pub abnormal : dispose (is_temporary placed.dd.origin) placed.dd.disp false true ≡ Keep

module _ (name : Name) where
  abbrev pub Left : DdAllotment → Type 0
  Left placed = same_name name placed.name ≡ true → Stays name placed

  left_one : (program : Kind) (standing : Stock LibrarySet) (number : ℕ) (dd : Dd) (other : Name) → has_role program dd ≡ true → leaves name (Some other) (is_shared dd) ≡ true → Left (placed_one record_ways standing number dd other)
  left_one program standing number dd other has leaves same =
      let shared : is_shared dd ≡ true = if-then (same_name name other) (is_shared dd) leaves same in
      let keeps : (is_shr dd.disp.status && is_keep (dispose (is_temporary dd.origin) dd.disp false false)) ≡ true = and-first (is_shr dd.disp.status && is_keep (dispose (is_temporary dd.origin) dd.disp false false)) _ shared in
      record {
        output = no_output dd.role (shared_role program dd has shared);
        unmade = not-made dd (is_passed standing.passed other) (option_map record_ways.known (entry_at standing.sets other)) (shr_there dd.disp.status (and-first (is_shr dd.disp.status) _ keeps));
        normal = keep_is _ (and-second (is_shr dd.disp.status) _ keeps);
        abnormal = keep_is _ (and-second (is_shr dd.disp.status && is_keep (dispose (is_temporary dd.origin) dd.disp false false)) _ shared);
      }

  left_from : (standing : Stock LibrarySet) (root : ℕ) (owned : OwnedStep) (number : ℕ) (dds : List Dd) → list_all (has_role owned.step.program) dds ≡ true → list_all (leaves_dd root owned name) dds ≡ true → AllByRecursion Left (placed_from record_ways standing root owned number dds)
  left_from standing root owned number [] has left = tt
  left_from standing root owned number (dd ∷ dds) has left =
      by (left_from standing root owned (suc number) dds (and-second (has_role owned.step.program dd) _ has) (and-second (leaves_dd root owned name dd) _ left)) (name_of root owned dd) (and-first (leaves_dd root owned name dd) _ left)
    where
      by : AllByRecursion Left (placed_from record_ways standing root owned (suc number) dds) → (other : Option Name) → leaves name other (is_shared dd) ≡ true → AllByRecursion Left (cons_option (option_map (placed_one record_ways standing number dd) other) (placed_from record_ways standing root owned (suc number) dds))
      by rest None leaves = rest
      by rest (Some other) leaves = (left_one owned.step.program standing number dd other (and-first (has_role owned.step.program dd) _ has) leaves, rest)

  -- ---- opened, made

  abbrev pub Untouched : DdAllotment → Type 0
  Untouched placed = same_name name placed.name ≡ true → IsUntouched placed

  abbrev pub Unmade : DdAllotment → Type 0
  Unmade placed = same_name name placed.name ≡ true → is_made placed.allotment ≡ false

  pub unmade_all : (all : List DdAllotment) → AllByRecursion Untouched all → AllByRecursion Unmade all
  unmade_all [] left = tt
  unmade_all (placed ∷ rest) left = (λ same. (left.0 same).unmade, unmade_all rest left.1)

  pub untouched_all : (all : List DdAllotment) → AllByRecursion Left all → AllByRecursion Untouched all
  untouched_all [] left = tt
  untouched_all (placed ∷ rest) left = (λ same. record { output = (left.0 same).output; unmade = (left.0 same).unmade }, untouched_all rest left.1)

  opened_left : {X : Type 0} (ways : SetWays X) (stamp : Stamp) (placed : DdAllotment) (allotment : AllotmentModel) (output : Bool) (sets : Named X) → (same_name name placed.name ≡ true → output ≡ false) → entry_at (opened_one ways stamp placed allotment output sets) name ≡ entry_at sets name
  opened_left ways stamp placed found true sets unless =
      bool-cases (same_name name placed.name) (λ same. absurd (false≢true (sym (unless same))))
      (λ apart. at-with_changed placed.name name (opened_by ways stamp placed.dd.disp.status) sets ∙ ap (λ b. cond b (option_map (opened_by ways stamp placed.dd.disp.status) (entry_at sets name)) (entry_at sets name)) apart)
  opened_left ways stamp placed found false sets unless = refl
  opened_left ways stamp placed made output sets unless = refl
  opened_left ways stamp placed (refused flaw) output sets unless = refl

  pub opened_all-left : {X : Type 0} (ways : SetWays X) (stamp : Stamp) (all : List DdAllotment) (sets : Named X) → AllByRecursion Untouched all → entry_at (opened_all ways stamp all sets) name ≡ entry_at sets name
  opened_all-left ways stamp [] sets left = refl
  opened_all-left ways stamp (placed ∷ rest) sets left =
      opened_all-left ways stamp rest (opened_one ways stamp placed placed.allotment (is_output placed.dd.role) sets) left.1
      ∙ opened_left ways stamp placed placed.allotment (is_output placed.dd.role) sets (λ same. (left.0 same).output)

  made_left : (stamp : Stamp) (placed : DdAllotment) (allotment : AllotmentModel) (library : Library) → (same_name name placed.name ≡ true → is_made allotment ≡ false) → entry_at (made_one stamp placed allotment library) name ≡ entry_at library name
  made_left stamp placed found library unless = refl
  made_left stamp placed made library unless =
      bool-cases (same_name name placed.name) (λ same. absurd (false≢true (sym (unless same))))
      (λ apart. at-with_entry placed.name name (fresh_set stamp placed.dd) library ∙ ap (λ b. cond b (Some (fresh_set stamp placed.dd)) (entry_at library name)) apart)
  made_left stamp placed (refused flaw) library unless = refl

  pub made_all-left : (stamp : Stamp) (all : List DdAllotment) (library : Library) → AllByRecursion Unmade all → entry_at (made_all stamp all library) name ≡ entry_at library name
  made_all-left stamp [] library left = refl
  made_all-left stamp (placed ∷ rest) library left =
      made_all-left stamp rest (made_one stamp placed placed.allotment library) left.1
      ∙ made_left stamp placed placed.allotment library left.0

  made_names-left : (all : List DdAllotment) → AllByRecursion Left all → is_among (names_made all) name ≡ false
  made_names-left [] left = refl
  made_names-left (placed ∷ rest) left =
      bool-cases (is_made placed.allotment)
      (λ makes.
      ap (λ b. is_among (map (λ (one : DdAllotment). one.name) (cond b (placed ∷ filter (λ one. is_made one.allotment) rest) (filter (λ one. is_made one.allotment) rest))) name) makes
      ∙ ap (λ b. b || is_among (names_made rest) name) (bool-cases (same_name name placed.name) (λ same. absurd (false≢true (sym (left.0 same).unmade ∙ makes))) (λ apart. apart))
      ∙ made_names-left rest left.1)
      (λ makes.
      ap (λ b. is_among (map (λ (one : DdAllotment). one.name) (cond b (placed ∷ filter (λ one. is_made one.allotment) rest) (filter (λ one. is_made one.allotment) rest))) name) makes
      ∙ made_names-left rest left.1)

  -- ---- disposed of

  kept_by : (abnormal : Bool) (placed : DdAllotment) → Stays name placed → dispose (is_temporary placed.dd.origin) placed.dd.disp (is_made placed.allotment) abnormal ≡ Keep
  kept_by false placed stays = ap (λ b. dispose (is_temporary placed.dd.origin) placed.dd.disp b false) stays.unmade ∙ stays.normal
  kept_by true placed stays = ap (λ b. dispose (is_temporary placed.dd.origin) placed.dd.disp b true) stays.unmade ∙ stays.abnormal

  after_left : {X : Type 0} (ways : SetWays X) (after : After) (other : Name) (sets : Named X) → (same_name name other ≡ true → after ≡ Keep) → entry_at (sets_after ways after other sets) name ≡ entry_at sets name
  after_left ways after other sets unless =
      bool-cases (same_name name other)
      (λ same. ap (λ a. entry_at (sets_after ways a other sets) name) (unless same))
      (λ apart. after-apart ways after other name sets apart)

  pub disposed_all-left : {X : Type 0} (ways : SetWays X) (earlier : List Name) (abnormal : Bool) (all : List DdAllotment) (standing : Stock X) → AllByRecursion Left all → entry_at (disposed_all ways (disposals_of earlier abnormal all) standing).sets name ≡ entry_at standing.sets name
  disposed_all-left ways earlier abnormal [] standing left = refl
  disposed_all-left ways earlier abnormal (placed ∷ rest) standing left =
      disposed_all-left ways earlier abnormal rest (disposed_one ways (disposal_of earlier abnormal placed) standing) left.1
      ∙ after_left ways (disposal_of earlier abnormal placed).after placed.name standing.sets (λ same. kept_by abnormal placed (left.0 same))

  pub unmade_left : (earlier : List Name) (abnormal : Bool) (all : List DdAllotment) → is_among earlier name ≡ false → AllByRecursion Left all → AllByRecursion (λ (one : Disposal). same_name name one.name ≡ true → one.made ≡ false) (disposals_of earlier abnormal all)
  unmade_left earlier abnormal [] none left = tt
  unmade_left earlier abnormal (placed ∷ rest) none left = (
    λ same. ap (λ b. b || is_among earlier placed.name) (left.0 same).unmade ∙ ap (is_among earlier) (sym (name-same name placed.name same)) ∙ none,
    unmade_left earlier abnormal rest none left.1,
  )

  -- ---- a step

  -- a step that leaves the name, and has its form
  pub record LeavesStep (root : ℕ) (owned : OwnedStep) : Type 0 where
    pub formed : is_formed_step root owned ≡ true
    pub leaves : list_all (leaves_dd root owned name) owned.step.dds ≡ true

  pub placed_at-left : (start : StepStart) → LeavesStep start.root start.owned → AllByRecursion Left (placed_at start)
  unfolding placed_at
  placed_at-left start left =
      left_from start.standing start.root start.owned 1 start.owned.step.dds (formed-roles start.root start.owned left.formed) left.leaves

  opened_at-left : (start : StepStart) → LeavesStep start.root start.owned → entry_at (opened_at start) name ≡ entry_at start.standing.sets name
  unfolding opened_at
  opened_at-left start left = opened_all-left record_ways (stamp_at start) (placed_at start) start.standing.sets (untouched_all (placed_at start) (placed_at-left start left))

  made_at-left : (start : StepStart) → LeavesStep start.root start.owned → entry_at (made_at start) name ≡ entry_at start.standing.sets name
  unfolding made_at
  made_at-left start left = made_all-left (stamp_at start) (placed_at start) (opened_at start) (unmade_all (placed_at start) (untouched_all (placed_at start) (placed_at-left start left))) ∙ opened_at-left start left

  -- a write goes elsewhere
  pub elsewhere : (start : StepStart) (output : Output) (to : Name) → LeavesStep start.root start.owned → is_right start.owned.step.program output ≡ true → output_name start output ≡ Some to → same_name name to ≡ false
  elsewhere start output to left right e =
      bool-cases (same_name name to)
      (λ same.
      let t = target start output to e in
      let its : leaves name (Some to) (is_shared t.0) ≡ true = ap (λ other. leaves name other (is_shared t.0)) (sym t.1.has) ∙ find-all (leaves_dd start.root start.owned name) _ start.owned.step.dds t.0 left.leaves t.1.found in
      let has : has_role start.owned.step.program t.0 ≡ true = find-all (has_role start.owned.step.program) _ start.owned.step.dds t.0 (formed-roles start.root start.owned left.formed) t.1.found in
      absurd (false≢true (sym (shared_role start.owned.step.program t.0 has (if-then (same_name name to) (is_shared t.0) its same)) ∙ target-changes start output to t.0 left.formed right t.1)))
      (λ apart. apart)

  written_left : (start : StepStart) (write : Write) (library : Library) → LeavesStep start.root start.owned → is_right start.owned.step.program write.output ≡ true → entry_at (written_one start write library) name ≡ entry_at library name
  unfolding written_one
  written_left start write library left right =
      option-cases (output_name start write.output)
      (λ none. ap (λ to. entry_at (changed_in to change library) name) none)
      (λ to e.
      ap (λ o. entry_at (changed_in o change library) name) e
      ∙ at-with_changed to name change library
      ∙ ap (λ b. cond b (option_map change (entry_at library name)) (entry_at library name)) (elsewhere start write.output to left right e))
    where
      change : LibrarySet → LibrarySet
      change = written_set start write.output write.image

  written_all-left : (start : StepStart) (writes : List Write) (library : Library) → LeavesStep start.root start.owned → list_all (λ write. is_right start.owned.step.program write.output) writes ≡ true → entry_at (written_all start writes library) name ≡ entry_at library name
  written_all-left start [] library left right = refl
  written_all-left start (write ∷ writes) library left right =
      written_all-left start writes (written_one start write library) left (and-second (is_right start.owned.step.program write.output) _ right)
      ∙ written_left start write library left (and-first (is_right start.owned.step.program write.output) _ right)

  pub within_at-left : (start : StepStart) (writes : ℕ) → LeavesStep start.root start.owned → entry_at (within_at start writes) name ≡ entry_at start.standing.sets name
  unfolding within_at
  within_at-left start writes left =
      written_all-left start (take writes (work_at start).writes) (made_at start) left (all-take _ writes (work_at start).writes (work_at-right start))
      ∙ made_at-left start left

  disposed_at-left : (start : StepStart) (abnormal : Bool) (library : Library) → LeavesStep start.root start.owned → entry_at (disposed_at start abnormal library).sets name ≡ entry_at library name
  unfolding disposed_at
  disposed_at-left start abnormal library left =
      disposed_all-left record_ways start.earlier abnormal (placed_at start) (record { sets = library; passed = start.standing.passed }) (placed_at-left start left)

  disposed_at-made : (start : StepStart) (abnormal : Bool) (library : Library) → LeavesStep start.root start.owned → is_among start.earlier name ≡ false → is_among (passed_made start.standing.passed) name ≡ false → is_among (passed_made (disposed_at start abnormal library).passed) name ≡ false
  unfolding disposed_at
  disposed_at-made start abnormal library left none free =
      disposed-made record_ways name (disposals_of start.earlier abnormal (placed_at start)) (record { sets = library; passed = start.standing.passed })
      (unmade_left start.earlier abnormal (placed_at start) none (placed_at-left start left)) free

  -- ---- a job

  -- the name has kept its data set, and no step made it
  pub record Keeps (library : Library) (walk : Walk) : Type 0 where
    pub set : entry_at walk.standing.sets name ≡ entry_at library name
    pub free : is_among (passed_made walk.standing.passed) name ≡ false
    pub unmade : is_among walk.earlier name ≡ false

  step_walked-keeps : (library : Library) (start : StepStart) (walk : Walk) → start.standing ≡ walk.standing → start.earlier ≡ walk.earlier → LeavesStep start.root start.owned → Keeps library walk → Keeps library (step_walked start walk)
  unfolding step_walked
  step_walked-keeps library start walk stands before left keeps = record {
    set =
        disposed_at-left start false (within_at start (length (work_at start).writes)) left ∙ within_at-left start (length (work_at start).writes) left
        ∙ ap (λ (standing : Stock LibrarySet). entry_at standing.sets name) stands ∙ keeps.set;
    free =
        disposed_at-made start false (within_at start (length (work_at start).writes)) left (ap (λ names. is_among names name) before ∙ keeps.unmade)
        (ap (λ (standing : Stock LibrarySet). is_among (passed_made standing.passed) name) stands ∙ keeps.free);
    unmade =
        list_any-append (same_name name) walk.earlier (names_made (placed_at start))
        ∙ ap (λ b. b || is_among (names_made (placed_at start)) name) keeps.unmade ∙ made_names-left (placed_at start) (placed_at-left start left);
  }

  walked_one-keeps : (library : Library) (root number : ℕ) (owned : OwnedStep) (walk : Walk) → LeavesStep root owned → Keeps library walk → Keeps library (walked_one root number owned walk)
  unfolding walked_one
  walked_one-keeps library root number owned walk left keeps = by (is_bypassed walk.rcs owned)
    where
      by : (bypassed : Bool) → Keeps library (walked_by bypassed (start_in root number owned walk) walk)
      by true = keeps
      by false = step_walked-keeps library (start_in root number owned walk) walk refl refl left keeps

  walked-keeps : (library : Library) (root number : ℕ) (steps : List OwnedStep) (walk : Walk) → AllByRecursion (LeavesStep root) steps → Keeps library walk → Keeps library (walked root number steps walk)
  walked-keeps library root number [] walk left keeps = keeps
  walked-keeps library root number (owned ∷ rest) walk left keeps =
      walked-keeps library root (suc number) rest (walked_one root number owned walk) left.1 (walked_one-keeps library root number owned walk left.0 keeps)

  each_left : (root : ℕ) (steps : List OwnedStep) → list_all (is_formed_step root) steps ≡ true → list_all (λ owned. list_all (leaves_dd root owned name) owned.step.dds) steps ≡ true → AllByRecursion (LeavesStep root) steps
  each_left root [] formed left = tt
  each_left root (owned ∷ rest) formed left = (
    record { formed = and-first (is_formed_step root owned) _ formed; leaves = and-first (list_all (leaves_dd root owned name) owned.step.dds) _ left },
    each_left root rest (and-second (is_formed_step root owned) _ formed) (and-second (list_all (leaves_dd root owned name) owned.step.dds) _ left),
  )

  each_taken : (root count : ℕ) (steps : List OwnedStep) → AllByRecursion (LeavesStep root) steps → AllByRecursion (LeavesStep root) (take count steps)
  each_taken root zero steps each = tt
  each_taken root (suc count) [] each = tt
  each_taken root (suc count) (owned ∷ rest) each = (each.0, each_taken root count rest each.1)

  each_at : (root place : ℕ) (steps : List OwnedStep) (owned : OwnedStep) → AllByRecursion (LeavesStep root) steps → slice_get steps place ≡ Some owned → LeavesStep root owned
  each_at root place [] owned each e = absurd (some-not-none owned (sym e))
  each_at root zero (first ∷ rest) owned each e = subst (LeavesStep root) (same_Some first owned e) each.0
  each_at root (suc place) (first ∷ rest) owned each e = each_at root place rest owned each.1 e

  -- the job leaves the name
  module _ (job : Effective) (library : Library) (formed : is_formed job ≡ true) (left : Leaves job name) where
    steps_left : AllByRecursion (LeavesStep job.root) job.steps
    steps_left = each_left job.root job.steps formed left

    pub step_left : (number : ℕ) (owned : OwnedStep) → step_at job number ≡ Some owned → LeavesStep job.root owned
    step_left zero owned e = absurd (some-not-none owned (sym e))
    step_left (suc before) owned e = each_at job.root before job.steps owned steps_left e

    pub before_keeps : (number : ℕ) → Keeps library (walk_before job library number)
    unfolding walk_before
    before_keeps number =
        walked-keeps library job.root 1 (take (pred number) job.steps) (walk_from library) (each_taken job.root (pred number) job.steps steps_left) (record { set = refl; free = refl; unmade = refl })

    abbrev start_by : ℕ → Option OwnedStep → Option StepStart
    start_by number step = option_map (λ owned. start_in job.root number owned (walk_before job library number)) step

    record KeepsAt (standing : Stock LibrarySet) : Type 0 where
      set : entry_at standing.sets name ≡ entry_at library name
      free : is_among (passed_made standing.passed) name ≡ false

    at_keeps : (place : Place) → KeepsAt (at job library place)
    unfolding at start_at
    at_keeps (Before number) = record { set = (before_keeps number).set; free = (before_keeps number).free }
    at_keeps (Opened number) = by (step_at job number) refl
      where
        by : (step : Option OwnedStep) → step_at job number ≡ step → KeepsAt (option_map_or (λ (start : StepStart). with_sets (opened_at start) start.standing) (start_by number step) (walk_before job library number).standing)
        by None e = record { set = (before_keeps number).set; free = (before_keeps number).free }
        by (Some owned) e = record { set = opened_at-left (start_in job.root number owned (walk_before job library number)) (step_left number owned e) ∙ (before_keeps number).set; free = (before_keeps number).free }
    at_keeps (Within number writes) = by (step_at job number) refl
      where
        by : (step : Option OwnedStep) → step_at job number ≡ step → KeepsAt (option_map_or (λ (start : StepStart). with_sets (within_at start writes) start.standing) (start_by number step) (walk_before job library number).standing)
        by None e = record { set = (before_keeps number).set; free = (before_keeps number).free }
        by (Some owned) e = record { set = within_at-left (start_in job.root number owned (walk_before job library number)) writes (step_left number owned e) ∙ (before_keeps number).set; free = (before_keeps number).free }

    cut_keeps : (place : Place) (standing : Stock LibrarySet) → KeepsAt standing → KeepsAt (cut_from job library place standing)
    unfolding start_at
    cut_keeps (Before number) standing keeps = keeps
    cut_keeps (Opened number) standing keeps = keeps
    cut_keeps (Within number writes) standing keeps = by (step_at job number) refl
      where
        by : (step : Option OwnedStep) → step_at job number ≡ step → KeepsAt (option_map_or (λ (start : StepStart). disposed_at start true standing.sets) (start_by number step) standing)
        by None e = keeps
        by (Some owned) e =
            let start : StepStart = start_in job.root number owned (walk_before job library number) in
            record {
              set = disposed_at-left start true standing.sets (step_left number owned e) ∙ keeps.set;
              free = disposed_at-made start true standing.sets (step_left number owned e) (before_keeps number).unmade (before_keeps number).free;
            }

    -- at each place
    pub at-left : (place : Place) → entry_at (at job library place).sets name ≡ entry_at library name
    at-left place = (at_keeps place).set

    cut_at-left : (place : Place) → entry_at (cut_at job library place) name ≡ entry_at library name
    unfolding cut_at
    cut_at-left place =
        let standing : Stock LibrarySet = cut_from job library place (at job library place) in
        let keeps : KeepsAt standing = cut_keeps place (at job library place) (at_keeps place) in
        ended-leaves standing.passed standing.sets name keeps.free ∙ keeps.set

    -- and at its end
    pub job_run-left : (cut : Option Place) → entry_at (job_run job library cut) name ≡ entry_at library name
    unfolding job_run
    job_run-left None = cut_at-left (end_of_job job library)
    job_run-left (Some place) = cut_at-left place
