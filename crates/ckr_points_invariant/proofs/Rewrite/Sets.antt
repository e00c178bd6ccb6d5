-- What a step updates: it is as it was before the step, but for the records that were rewritten and their number in its stamp.
use Rattle.std.proofs.Common.{◌≡◌, ℕ, suc, Bool, true, false, cond, not, ◌&&◌, ◌||◌, List, [], ◌∷◌, filter, refl, ap, sym, ◌∙◌, subst, Option, Some, None}
use Rattle.std.specs.List.{AllByRecursion, cons_option, filter_map, find, list_all, list_any}
use Rattle.std.specs.Option.{option_map}
use Rattle.std.proofs.lemmas.Bool.{and_from, false≢true, not-true, or_parts, or_right}
use Rattle.std.proofs.lemmas.Option.{same_Some}
use Rattle.ckr_base.specs.declared.programs.Output.TheVariants.{InPlace}
use Rattle.ckr_base.proofs.Bools.{and-first, and-second, bool-cases, if-then}
use Rattle.ckr_base.proofs.Options.{some-not-none}
use Rattle.ckr_base.proofs.Sequences.{any-filter, find-all, find-any, find-passes}
use Rattle.ckr_uses.specs.Uses.{are_distinct}
use Rattle.ckr_jcl.specs.declared.deck.Dd.{Dd}
use Rattle.ckr_jcl.specs.declared.deck.Kind.{Kind}
use Rattle.ckr_jcl.specs.declared.deck.Kind.TheVariants.{Copy, Select, Merge, Master, Update, Print, Br14}
use Rattle.ckr_jcl.specs.declared.deck.Role.TheVariants.{Updates}
use Rattle.ckr_jcl.specs.declared.deck.Status.{Status}
use Rattle.ckr_jcl.specs.declared.deck.Status.TheVariants.{New, Old, Shr, Mod}
use Rattle.ckr_jcl.specs.Programs.{is_checkpointed_by, is_read_by, is_updated_by, is_written_by, role_of}
use Rattle.ckr_library.specs.NameMaps.{Name, same_name, entry_at}
use Rattle.ckr_library.proofs.Named.{name-equivalence, name-same}
use Rattle.ckr_meaning.specs.LibrarySet.{LibrarySet, record_ways}
use Rattle.ckr_meaning.specs.Allotments.{is_output, is_passed}
use Rattle.ckr_meaning.specs.Dispositions.{Stock}
use Rattle.ckr_meaning.specs.EffectiveJob.{is_among, name_of, names_of, placed_from, placed_one}
use Rattle.ckr_meaning.specs.StepRun.{StepStart, made_at, opened_at, output_dd, output_name, placed_at, stamp_at}
use Rattle.ckr_points.specs.Payload.{allows, has_role, is_formed_step, is_old}
use Rattle.ckr_points_library.specs.Commit.{output_names}
use Rattle.ckr_points_invariant.proofs.Library.Entries.{among-filter_map, is_name}
use Rattle.ckr_points_invariant.proofs.Holders.SharedSets.{Untouched, is_there, made_all-left, not-made, opened_all-left, unmade_all}
use Rattle.ckr_points_invariant.proofs.Writes.Roles.{IsTarget, dd_role, formed-roles, target}

-- ---- one DD of a name

abbrev keeps_unless : (Dd → Bool) → (Dd → Option Name) → Name → Dd → Bool
keeps_unless kept f name dd = not (is_name name (f dd)) || kept dd

no_names : (kept : Dd → Bool) (f : Dd → Option Name) (name : Name) (dds : List Dd) → list_any (same_name name) (filter_map f dds) ≡ false → list_all (keeps_unless kept f name) dds ≡ true
no_names kept f name [] none = refl
no_names kept f name (dd ∷ dds) none = by (f dd) none (no_names kept f name dds)
  where
    by : (its : Option Name) → list_any (same_name name) (cons_option its (filter_map f dds)) ≡ false → (list_any (same_name name) (filter_map f dds) ≡ false → list_all (keeps_unless kept f name) dds ≡ true) → ((not (is_name name its) || kept dd) && list_all (keeps_unless kept f name) dds) ≡ true
    by None none rest = rest none
    by (Some other) none rest =
        let parts = or_parts (same_name name other) _ none in
        and_from (not (same_name name other) || kept dd) _ (ap (λ b. not b || kept dd) parts.0) (rest parts.1)

distinct_rest : (f : Dd → Option Name) (its : Option Name) (dds : List Dd) → are_distinct (cons_option its (filter_map f dds)) ≡ true → are_distinct (filter_map f dds) ≡ true
distinct_rest f None dds e = e
distinct_rest f (Some other) dds e = and-second (not (list_any (same_name other) (filter_map f dds))) _ e

-- where no name stands twice, what holds of the DD that has the name holds of each that has it
one_of_name : (kept test : Dd → Bool) (f : Dd → Option Name) (name : Name) (dd : Dd) (dds : List Dd) → are_distinct (filter_map f dds) ≡ true → find test dds ≡ Some dd → f dd ≡ Some name → kept dd ≡ true → list_all (keeps_unless kept f name) dds ≡ true
one_of_name kept test f name dd [] distinct found has holds = absurd (some-not-none dd (sym found))
one_of_name kept test f name dd (first ∷ rest) distinct found has holds =
    bool-cases (test first)
    (λ here.
    let e : first ≡ dd = same_Some first dd (sym (ap (λ b. cond b (Some first) (find test rest)) here) ∙ found) in
    and_from (keeps_unless kept f name first) _
    (ap (keeps_unless kept f name) e ∙ ap (λ its. not (is_name name its) || kept dd) has ∙ or_right (not (same_name name name)) (kept dd) holds)
    (no_names kept f name rest (not-true (list_any (same_name name) (filter_map f rest)) (and-first (not (list_any (same_name name) (filter_map f rest))) _ (sym (ap (λ its. are_distinct (cons_option its (filter_map f rest))) (ap f e ∙ has)) ∙ distinct)))))
    (λ there.
    let later : find test rest ≡ Some dd = sym (ap (λ b. cond b (Some first) (find test rest)) there) ∙ found in
    and_from (keeps_unless kept f name first) _
    (by (f first) refl later)
    (one_of_name kept test f name dd rest (distinct_rest f (f first) rest distinct) later has holds))
  where
    by : (its : Option Name) → f first ≡ its → find test rest ≡ Some dd → (not (is_name name its) || kept first) ≡ true
    by None e later = refl
    by (Some other) e later =
        bool-cases (same_name name other)
        (λ same.
        absurd (false≢true (
        sym (not-true (list_any (same_name other) (filter_map f rest)) (and-first (not (list_any (same_name other) (filter_map f rest))) _ (sym (ap (λ its. are_distinct (cons_option its (filter_map f rest))) e) ∙ distinct)))
        ∙ ap (λ n. list_any (same_name n) (filter_map f rest)) (sym (name-same name other same))
        ∙ among-filter_map f rest name
        ∙ find-any test (λ one. is_name name (f one)) rest dd later (ap (is_name name) has ∙ name-equivalence.refl name))))
        (λ apart. ap (λ b. not b || kept first) apart)

-- ---- the DD that a step updates

abbrev is_kept_dd : Dd → Bool
is_kept_dd dd = not (is_output dd.role) && is_there dd.disp.status

role_updates : (program : Kind) (place : ℕ) (dd : Name) → output_dd program (InPlace place) ≡ Some dd → role_of program dd ≡ Updates
unfolding role_of is_read_by is_written_by is_updated_by is_checkpointed_by
role_updates Update place dd e = subst (λ d. role_of Update d ≡ Updates) (same_Some _ dd e) refl
role_updates Copy place dd e = absurd (some-not-none dd (sym e))
role_updates Select place dd e = absurd (some-not-none dd (sym e))
role_updates Merge place dd e = absurd (some-not-none dd (sym e))
role_updates Master place dd e = absurd (some-not-none dd (sym e))
role_updates Print place dd e = absurd (some-not-none dd (sym e))
role_updates Br14 place dd e = absurd (some-not-none dd (sym e))

old_there : (status : Status) → is_old status ≡ true → is_there status ≡ true
old_there New e = e
old_there Old e = refl
old_there Shr e = refl
old_there Mod e = e

module _ (start : StepStart) (name : Name) (place : ℕ) (formed : is_formed_step start.root start.owned ≡ true) (goes : output_name start (InPlace place) ≡ Some name) where
  its_dd : (dd : Dd) × IsTarget start (InPlace place) name dd
  its_dd = target start (InPlace place) name goes

  has_so : has_role start.owned.step.program its_dd.0 ≡ true
  has_so = find-all (has_role start.owned.step.program) _ start.owned.step.dds its_dd.0 (formed-roles start.root start.owned formed) its_dd.1.found

  role_so : its_dd.0.role ≡ Updates
  role_so =
      dd_role start.owned.step.program its_dd.0 has_so
      ∙ ap (role_of start.owned.step.program) (sym (name-same its_dd.1.dd_name its_dd.0.name (find-passes (λ one. same_name its_dd.1.dd_name one.name) start.owned.step.dds its_dd.0 its_dd.1.found)))
      ∙ role_updates start.owned.step.program place its_dd.1.dd_name its_dd.1.named

  kept_so : is_kept_dd its_dd.0 ≡ true
  kept_so =
      and_from (not (is_output its_dd.0.role)) _ (ap (λ role. not (is_output role)) role_so)
      (old_there its_dd.0.disp.status (ap (λ role. allows role its_dd.0.disp.status) (sym role_so) ∙ and-second _ (allows its_dd.0.role its_dd.0.disp.status) has_so))

  all_kept : list_all (keeps_unless is_kept_dd (name_of start.root start.owned) name) start.owned.step.dds ≡ true
  all_kept =
      one_of_name is_kept_dd (λ one. same_name its_dd.1.dd_name one.name) (name_of start.root start.owned) name its_dd.0 start.owned.step.dds
      (and-first (are_distinct (names_of start.root start.owned)) _ (and-first (are_distinct (names_of start.root start.owned) && list_all (has_role start.owned.step.program) start.owned.step.dds) _ formed))
      its_dd.1.found its_dd.1.has kept_so

  untouched_from : (standing : Stock LibrarySet) (number : ℕ) (dds : List Dd) → list_all (keeps_unless is_kept_dd (name_of start.root start.owned) name) dds ≡ true → AllByRecursion (Untouched name) (placed_from record_ways standing start.root start.owned number dds)
  untouched_from standing number [] kept = tt
  untouched_from standing number (dd ∷ dds) kept =
      by (name_of start.root start.owned dd) (and-first (keeps_unless is_kept_dd (name_of start.root start.owned) name dd) _ kept) (untouched_from standing (suc number) dds (and-second (keeps_unless is_kept_dd (name_of start.root start.owned) name dd) _ kept))
    where
      by : (other : Option Name) → (not (is_name name other) || is_kept_dd dd) ≡ true → AllByRecursion (Untouched name) (placed_from record_ways standing start.root start.owned (suc number) dds) → AllByRecursion (Untouched name) (cons_option (option_map (placed_one record_ways standing number dd) other) (placed_from record_ways standing start.root start.owned (suc number) dds))
      by None keeps rest = rest
      by (Some other) keeps rest = (
        λ same.
            let its : is_kept_dd dd ≡ true = if-then (same_name name other) (is_kept_dd dd) keeps same in
            record {
              output = not-true (is_output dd.role) (and-first (not (is_output dd.role)) _ its);
              unmade = not-made dd (is_passed standing.passed other) (option_map record_ways.known (entry_at standing.sets other)) (and-second (not (is_output dd.role)) _ its);
            },
        rest,
      )

  -- it is opened and made as it was
  pub updated-opened : entry_at (opened_at start) name ≡ entry_at start.standing.sets name
  unfolding opened_at placed_at
  updated-opened = opened_all-left name record_ways (stamp_at start) (placed_at start) start.standing.sets (untouched_from start.standing 1 start.owned.step.dds all_kept)

  pub updated-made : entry_at (made_at start) name ≡ entry_at start.standing.sets name
  unfolding made_at placed_at
  updated-made = made_all-left name (stamp_at start) (placed_at start) (opened_at start) (unmade_all name (placed_at start) (untouched_from start.standing 1 start.owned.step.dds all_kept)) ∙ updated-opened

  no_output_of : (dds : List Dd) → list_all (keeps_unless is_kept_dd (name_of start.root start.owned) name) dds ≡ true → list_any (λ dd. is_output dd.role && is_name name (name_of start.root start.owned dd)) dds ≡ false
  no_output_of [] kept = refl
  no_output_of (dd ∷ dds) kept =
      ap (λ b. b || list_any (λ dd. is_output dd.role && is_name name (name_of start.root start.owned dd)) dds) (by (is_output dd.role) (is_name name (name_of start.root start.owned dd)) (is_there dd.disp.status) (and-first (keeps_unless is_kept_dd (name_of start.root start.owned) name dd) _ kept))
      ∙ no_output_of dds (and-second (keeps_unless is_kept_dd (name_of start.root start.owned) name dd) _ kept)
    where
      by : (output named there : Bool) → (not named || (not output && there)) ≡ true → (output && named) ≡ false
      by true true there e = absurd (false≢true e)
      by true false there e = refl
      by false named there e = refl

  -- and is no output
  pub updated-out : is_among (output_names start.root start.owned) name ≡ false
  updated-out =
      among-filter_map (name_of start.root start.owned) (filter (λ dd. is_output dd.role) start.owned.step.dds) name
      ∙ any-filter (λ dd. is_output dd.role) (λ dd. is_name name (name_of start.root start.owned dd)) start.owned.step.dds
      ∙ no_output_of start.owned.step.dds all_kept
