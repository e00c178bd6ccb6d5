-- A step of a formed job that has no flaw may start.
use Rattle.std.proofs.Common.{◌≡◌, ℕ, zero, suc, Bool, true, false, cond, not, ◌&&◌, List, [], ◌∷◌, find, refl, ap, sym, ◌∙◌, subst, Option, Some, None}
use Rattle.std.specs.Prelude.{codes, if◌then◌else◌, option_and_then, slice_get}
use Rattle.std.specs.List.{AllByRecursion, cons_option, filter_map, list_all}
use Rattle.std.specs.Option.{is_some, option_map}
use Rattle.std.proofs.lemmas.Bool.{false≢true, not-true}
use Rattle.std.proofs.lemmas.Option.{same_Some}
use Rattle.ckr_base.proofs.Bools.{and-first, and-second}
use Rattle.ckr_base.proofs.Options.{option-cases, some-not-none}
use Rattle.ckr_base.proofs.Sequences.{find-all, find-passes}
use Rattle.ckr_uses.specs.SetNames.{origin_name, run_name}
use Rattle.ckr_uses.specs.Uses.{are_distinct}
use Rattle.ckr_jcl.specs.declared.deck.Dd.{Dd}
use Rattle.ckr_jcl.specs.declared.deck.Kind.{Kind}
use Rattle.ckr_jcl.specs.declared.deck.Kind.TheVariants.{Copy, Select, Merge, Master, Update, Print, Br14}
use Rattle.ckr_jcl.specs.declared.deck.Origin.{Origin}
use Rattle.ckr_jcl.specs.declared.deck.Origin.TheVariants.{InStream, Named as NamedOrigin, Temporary, Unnamed, Sysout, Dummy}
use Rattle.ckr_jcl.specs.declared.deck.Role.{Role}
use Rattle.ckr_jcl.specs.declared.deck.Role.TheVariants.{Reads, Writes, Updates, Checkpoints as ChecksOn, Unused}
use Rattle.ckr_jcl.specs.declared.deck.Status.{Status}
use Rattle.ckr_jcl.specs.declared.deck.Status.TheVariants.{New, Old, Shr, Mod}
use Rattle.ckr_jcl.specs.Programs.{is_checkpointed_by, is_read_by, is_updated_by, is_written_by, names_updated, names_written, role_of}
use Rattle.ckr_desk_turn.proofs.Start.Sets.{made_at-there}
use Rattle.ckr_desk_turn.proofs.Units.Outputs.{distinct-step}
use Rattle.ckr_library.specs.declared.sets.Content.{Content}
use Rattle.ckr_library.specs.declared.sets.Content.TheVariants.{Plain, Checkpoints}
use Rattle.ckr_library.specs.declared.sets.Stamp.{Stamp}
use Rattle.ckr_library.specs.NameMaps.{Name, entry_at, same_name}
use Rattle.ckr_library.proofs.Named.{at-with_entry, name-itself, name-same}
use Rattle.ckr_meaning.specs.Allotments.{AllotmentModel, FlawModel, DdAllotment, allotment_by, allotment_of, content_for, exists, found, is_found, is_passed, is_wrong_kind, made, missing, refused, with_kind, wrong_kind}
use Rattle.ckr_meaning.specs.Dispositions.{Stock}
use Rattle.ckr_meaning.specs.EffectiveJob.{OwnedStep, flaw_in, flaws_in, is_among, name_of, names_of, placed_from, placed_one}
use Rattle.ckr_meaning.specs.LibrarySet.{Known, Library, LibrarySet, record_ways}
use Rattle.ckr_meaning.specs.StepRun.{StepStart, dd_named, fresh_set, input_names, made_all, made_at, made_one, main_names, opened_at, placed_at, rejects_dd, stamp_at}
use Rattle.ckr_points.specs.Payload.{has_role, has_set, is_formed_step}
use Rattle.ckr_points_invariant.proofs.Library.Likeness.{placed-apart}
use Rattle.ckr_points_invariant.proofs.Start.Openings.{opened-known}
use Rattle.ckr_points_invariant.proofs.Writes.Roles.{dd_role, formed-roles}
use Rattle.ckr_points_invariant.proofs.StepEnd.Disposals.{no_flaw}
use Rattle.ckr_steps.specs.declared.files.RecordSource.{RecordSource}
use Rattle.ckr_steps.specs.declared.files.RecordSource.TheVariants.{InDeck, InSet, Nowhere}
use Rattle.ckr_steps.specs.Files.{dd_in, files_of, input_dd, set_of_source, source_by, source_in}
use Rattle.ckr_steps.specs.Places.{HasSetFor, IsPlain, MayStart, files_at}
use Rattle.ckr_steps.proofs.NextHeads.{found_among, source_named}

-- ---- the roles of what a program reads, writes and updates

-- whether a DD of the role holds records of programs
abbrev holds_records : Role → Bool
holds_records Reads = true
holds_records Writes = true
holds_records Updates = true
holds_records ChecksOn = false
holds_records Unused = false

plain-for : (role : Role) → holds_records role ≡ true → content_for role ≡ Plain
plain-for Reads e = refl
plain-for Writes e = refl
plain-for Updates e = refl
plain-for ChecksOn e = absurd (false≢true e)
plain-for Unused e = absurd (false≢true e)

wrong-for : (role : Role) → holds_records role ≡ true → is_wrong_kind role Checkpoints ≡ true
wrong-for Reads e = refl
wrong-for Writes e = refl
wrong-for Updates e = refl
wrong-for ChecksOn e = absurd (false≢true e)
wrong-for Unused e = absurd (false≢true e)

-- the DD of an input of the program, by its place
input-role : (program : Kind) (place : ℕ) (name : Name) → slice_get (input_names program) place ≡ Some name → holds_records (role_of program name) ≡ true
unfolding role_of is_read_by is_written_by is_updated_by is_checkpointed_by
input-role Copy zero name e = subst (λ n. holds_records (role_of Copy n) ≡ true) (same_Some _ name e) refl
input-role Copy (suc place) name e = absurd (some-not-none name (sym e))
input-role Select zero name e = subst (λ n. holds_records (role_of Select n) ≡ true) (same_Some _ name e) refl
input-role Select (suc place) name e = absurd (some-not-none name (sym e))
input-role Merge zero name e = subst (λ n. holds_records (role_of Merge n) ≡ true) (same_Some _ name e) refl
input-role Merge (suc zero) name e = subst (λ n. holds_records (role_of Merge n) ≡ true) (same_Some _ name e) refl
input-role Merge (suc (suc place)) name e = absurd (some-not-none name (sym e))
input-role Master zero name e = subst (λ n. holds_records (role_of Master n) ≡ true) (same_Some _ name e) refl
input-role Master (suc zero) name e = subst (λ n. holds_records (role_of Master n) ≡ true) (same_Some _ name e) refl
input-role Master (suc (suc place)) name e = absurd (some-not-none name (sym e))
input-role Update zero name e = subst (λ n. holds_records (role_of Update n) ≡ true) (same_Some _ name e) refl
input-role Update (suc zero) name e = subst (λ n. holds_records (role_of Update n) ≡ true) (same_Some _ name e) refl
input-role Update (suc (suc place)) name e = absurd (some-not-none name (sym e))
input-role Print zero name e = subst (λ n. holds_records (role_of Print n) ≡ true) (same_Some _ name e) refl
input-role Print (suc place) name e = absurd (some-not-none name (sym e))
input-role Br14 place name e = absurd (some-not-none name (sym e))

-- the DD of its output
main-role : (program : Kind) (name : Name) → slice_get (main_names program) 0 ≡ Some name → holds_records (role_of program name) ≡ true
unfolding role_of is_read_by is_written_by is_updated_by is_checkpointed_by
main-role Copy name e = subst (λ n. holds_records (role_of Copy n) ≡ true) (same_Some _ name e) refl
main-role Select name e = subst (λ n. holds_records (role_of Select n) ≡ true) (same_Some _ name e) refl
main-role Merge name e = subst (λ n. holds_records (role_of Merge n) ≡ true) (same_Some _ name e) refl
main-role Master name e = subst (λ n. holds_records (role_of Master n) ≡ true) (same_Some _ name e) refl
main-role Update name e = absurd (some-not-none name (sym e))
main-role Print name e = subst (λ n. holds_records (role_of Print n) ≡ true) (same_Some _ name e) refl
main-role Br14 name e = absurd (some-not-none name (sym e))

-- the DD of its rejects
rejects-role : (program : Kind) (name : Name) → find (same_name rejects_dd) (names_written program) ≡ Some name → holds_records (role_of program name) ≡ true
unfolding role_of is_read_by is_written_by is_updated_by is_checkpointed_by
rejects-role Copy name e = absurd (some-not-none name (sym e))
rejects-role Select name e = absurd (some-not-none name (sym e))
rejects-role Merge name e = absurd (some-not-none name (sym e))
rejects-role Master name e = subst (λ n. holds_records (role_of Master n) ≡ true) (same_Some _ name e) refl
rejects-role Update name e = subst (λ n. holds_records (role_of Update n) ≡ true) (same_Some _ name e) refl
rejects-role Print name e = absurd (some-not-none name (sym e))
rejects-role Br14 name e = absurd (some-not-none name (sym e))

-- ---- what is allotted

kind-plain : (content : Content) (wrong : Bool) → (content ≡ Checkpoints → wrong ≡ true) → flaw_in (if wrong then refused wrong_kind else found) ≡ None → content ≡ Plain
kind-plain content true so e = no_flaw wrong_kind e
kind-plain Plain false so e = refl
kind-plain Checkpoints false so e = absurd (false≢true (so refl))

found-plain : (role : Role) (known : Known) (here : Bool) (otherwise : FlawModel) → holds_records role ≡ true → flaw_in (with_kind role (Some known) (if here then found else refused otherwise)) ≡ None → known.content ≡ Plain
found-plain role known true otherwise holds e = kind-plain known.content (is_wrong_kind role known.content) (λ is. ap (is_wrong_kind role) is ∙ wrong-for role holds) e
found-plain role known false otherwise holds e = no_flaw otherwise e

by-status : (role : Role) (status : Status) (known : Known) (here space : Bool) → holds_records role ≡ true → flaw_in (with_kind role (Some known) (allotment_by status true here space)) ≡ None → known.content ≡ Plain
by-status role New known here space holds e = no_flaw exists e
by-status role Old known here space holds e = found-plain role known here missing holds e
by-status role Shr known here space holds e = found-plain role known here missing holds e
by-status role Mod known here space holds e = found-plain role known here exists holds e

-- ---- the DDs of a step as they are placed

none-flawed : (all : List DdAllotment) → flaws_in all ≡ [] → AllByRecursion (λ (one : DdAllotment). flaw_in one.allotment ≡ None) all
none-flawed [] flawless = tt
none-flawed (one ∷ rest) flawless = by (flaw_in one.allotment) refl flawless (λ flawless. none-flawed rest flawless)
  where
    by : (flaw : Option FlawModel) → flaw_in one.allotment ≡ flaw → cons_option (option_map (λ flaw. (one.number, flaw)) flaw) (flaws_in rest) ≡ [] → (flaws_in rest ≡ [] → AllByRecursion (λ (one : DdAllotment). flaw_in one.allotment ≡ None) rest) → AllByRecursion (λ (one : DdAllotment). flaw_in one.allotment ≡ None) (one ∷ rest)
    by None is flawless later = (is, later flawless)
    by (Some flaw) is flawless later = cc

module _ (standing : Stock LibrarySet) (root : ℕ) (owned : OwnedStep) (test : Dd → Bool) (dd : Dd) (name : Name) (has : name_of root owned dd ≡ Some name) where
  -- what holds of each placed one holds of that of the DD
  placed-holds : (P : DdAllotment → Type 0) (number : ℕ) (dds : List Dd) → find test dds ≡ Some dd → AllByRecursion P (placed_from record_ways standing root owned number dds) → (n : ℕ) × P (placed_one record_ways standing n dd name)
  placed-holds P number [] at all = absurd (some-not-none dd (sym at))
  placed-holds P number (first ∷ rest) at all = by (test first) at (λ at all. placed-holds P (suc number) rest at all)
    where
      later : (other : Option Name) → AllByRecursion P (cons_option (option_map (placed_one record_ways standing number first) other) (placed_from record_ways standing root owned (suc number) rest)) → AllByRecursion P (placed_from record_ways standing root owned (suc number) rest)
      later None all = all
      later (Some other) all = all.1

      here : first ≡ dd → (n : ℕ) × P (placed_one record_ways standing n dd name)
      here same =
          let its : AllByRecursion P (cons_option (option_map (placed_one record_ways standing number dd) (Some name)) (placed_from record_ways standing root owned (suc number) rest)) =
          subst (λ (o : Option Name). AllByRecursion P (cons_option (option_map (placed_one record_ways standing number dd) o) (placed_from record_ways standing root owned (suc number) rest))) has
          (subst (λ (one : Dd). AllByRecursion P (cons_option (option_map (placed_one record_ways standing number one) (name_of root owned one)) (placed_from record_ways standing root owned (suc number) rest))) same all) in
          (number, its.0)

      by : (b : Bool) → cond b (Some first) (find test rest) ≡ Some dd → (find test rest ≡ Some dd → AllByRecursion P (placed_from record_ways standing root owned (suc number) rest) → (n : ℕ) × P (placed_one record_ways standing n dd name)) → (n : ℕ) × P (placed_one record_ways standing n dd name)
      by true e others = here (same_Some first dd e)
      by false e others = others e (later (name_of root owned first) all)

  abbrev IsIts : DdAllotment → Type 0
  IsIts placed = same_name name placed.name ≡ true → placed.dd ≡ dd

  apart-each : (all : List DdAllotment) → AllByRecursion (λ (placed : DdAllotment). same_name name placed.name ≡ false) all → AllByRecursion IsIts all
  apart-each [] apart = tt
  apart-each (one ∷ rest) apart = (λ same. absurd (false≢true (sym apart.0 ∙ same)), apart-each rest apart.1)

  abbrev Later : ℕ → List Dd → Type 0
  Later number rest = are_distinct (filter_map (name_of root owned) rest) ≡ true → find test rest ≡ Some dd → AllByRecursion IsIts (placed_from record_ways standing root owned (suc number) rest)

  -- no other DD has the name
  only-its : (number : ℕ) (dds : List Dd) → are_distinct (filter_map (name_of root owned) dds) ≡ true → find test dds ≡ Some dd → AllByRecursion IsIts (placed_from record_ways standing root owned number dds)
  only-its number [] distinct at = tt
  only-its number (first ∷ rest) distinct at = by (test first) at (λ distinct at. only-its (suc number) rest distinct at)
    where
      here : (other : Option Name) → other ≡ Some name → are_distinct (cons_option other (filter_map (name_of root owned) rest)) ≡ true → first ≡ dd → AllByRecursion IsIts (cons_option (option_map (placed_one record_ways standing number first) other) (placed_from record_ways standing root owned (suc number) rest))
      here None is distinct same = absurd (some-not-none name (sym is))
      here (Some other) is distinct same = (
        λ named. same,
        apart-each (placed_from record_ways standing root owned (suc number) rest)
            (placed-apart record_ways standing root owned (suc number) rest name
            (subst (λ n. is_among (filter_map (name_of root owned) rest) n ≡ false) (same_Some other name is)
            (not-true (is_among (filter_map (name_of root owned) rest) other) (and-first (not (is_among (filter_map (name_of root owned) rest) other)) _ distinct)))),
      )

      there : (other : Option Name) → are_distinct (cons_option other (filter_map (name_of root owned) rest)) ≡ true → find test rest ≡ Some dd → Later number rest → AllByRecursion IsIts (cons_option (option_map (placed_one record_ways standing number first) other) (placed_from record_ways standing root owned (suc number) rest))
      there None distinct at later = later distinct at
      there (Some other) distinct at later = (
        λ named.
            absurd (false≢true (sym (
            sym (and-first (not (is_among (filter_map (name_of root owned) rest) other)) (are_distinct (filter_map (name_of root owned) rest)) distinct)
            ∙ ap (λ n. not (is_among (filter_map (name_of root owned) rest) n)) (sym (name-same name other named))
            ∙ ap not (found_among (name_of root owned) test rest dd name at has (name-itself name))))),
        later (and-second (not (is_among (filter_map (name_of root owned) rest) other)) (are_distinct (filter_map (name_of root owned) rest)) distinct) at,
      )

      by : (b : Bool) → cond b (Some first) (find test rest) ≡ Some dd → Later number rest → AllByRecursion IsIts (cons_option (option_map (placed_one record_ways standing number first) (name_of root owned first)) (placed_from record_ways standing root owned (suc number) rest))
      by true e later = here (name_of root owned first) (ap (name_of root owned) (same_Some first dd e) ∙ has) distinct (same_Some first dd e)
      by false e later = there (name_of root owned first) distinct e later

-- ---- what stands under the name as the step starts

-- what stands there holds records of programs
abbrev HoldsRecords : Library → Name → Type 0
HoldsRecords library name = (set : LibrarySet) → entry_at library name ≡ Some set → set.content ≡ Plain

made-holds : (stamp : Stamp) (name : Name) (placed : DdAllotment) (allotment : AllotmentModel) (library : Library) → (same_name name placed.name ≡ true → content_for placed.dd.role ≡ Plain) → HoldsRecords library name → HoldsRecords (made_one stamp placed allotment library) name
made-holds stamp name placed found library its holds = holds
made-holds stamp name placed (refused flaw) library its holds = holds
made-holds stamp name placed made library its holds = λ set e. by (same_name name placed.name) refl set (sym (at-with_entry placed.name name (fresh_set stamp placed.dd) library) ∙ e)
  where
    by : (b : Bool) → same_name name placed.name ≡ b → (set : LibrarySet) → cond b (Some (fresh_set stamp placed.dd)) (entry_at library name) ≡ Some set → set.content ≡ Plain
    by true same set e = ap (λ (s : LibrarySet). s.content) (sym (same_Some (fresh_set stamp placed.dd) set e)) ∙ its same
    by false same set e = holds set e

all-hold : (stamp : Stamp) (name : Name) (dd : Dd) (all : List DdAllotment) (library : Library) → content_for dd.role ≡ Plain → AllByRecursion (λ (placed : DdAllotment). same_name name placed.name ≡ true → placed.dd ≡ dd) all → HoldsRecords library name → HoldsRecords (made_all stamp all library) name
all-hold stamp name dd [] library plain its holds = holds
all-hold stamp name dd (one ∷ rest) library plain its holds =
    all-hold stamp name dd rest (made_one stamp one one.allotment library) plain its.1
    (made-holds stamp name one one.allotment library (λ same. ap (λ (d : Dd). content_for d.role) (its.0 same) ∙ plain) holds)

module _ (start : StepStart) (formed : is_formed_step start.root start.owned ≡ true) (flawless : flaws_in (placed_at start) ≡ []) where
  module _ (test : Dd → Bool) (dd : Dd) (name : Name) (at : find test start.owned.step.dds ≡ Some dd) (has : name_of start.root start.owned dd ≡ Some name) (holds : holds_records dd.role ≡ true) where
    allotted : flaw_in (allotment_of dd (is_passed start.standing.passed name) (option_map record_ways.known (entry_at start.standing.sets name))) ≡ None
    unfolding placed_at
    allotted =
        (placed-holds start.standing start.root start.owned test dd name has (λ (one : DdAllotment). flaw_in one.allotment ≡ None) 1 start.owned.step.dds at (none-flawed (placed_at start) flawless)).1

    standing-holds : HoldsRecords start.standing.sets name
    standing-holds set e =
        by-status dd.role dd.disp.status (record_ways.known set) (is_found dd (is_passed start.standing.passed name) (Some (record_ways.known set))) (is_some dd.space) holds
        (sym (ap (λ (o : Option LibrarySet). flaw_in (allotment_of dd (is_passed start.standing.passed name) (option_map record_ways.known o))) e) ∙ allotted)

    opened-holds : HoldsRecords (opened_at start) name
    opened-holds set e = by (entry_at start.standing.sets name) refl (sym (opened-known start name) ∙ ap (option_map record_ways.known) e)
      where
        by : (was : Option LibrarySet) → entry_at start.standing.sets name ≡ was → option_map record_ways.known was ≡ Some (record_ways.known set) → set.content ≡ Plain
        by None is e = absurd (some-not-none (record_ways.known set) (sym e))
        by (Some old) is e = ap (λ (k : Known). k.content) (sym (same_Some (record_ways.known old) (record_ways.known set) e)) ∙ standing-holds old is

    made-so : HoldsRecords (made_at start) name
    unfolding made_at placed_at
    made-so =
        all-hold (stamp_at start) name dd (placed_at start) (opened_at start) (plain-for dd.role holds)
        (only-its start.standing start.root start.owned test dd name has 1 start.owned.step.dds (distinct-step start.root start.owned formed) at)
        opened-holds

    is-plain : IsPlain (made_at start) (Some name)
    is-plain =
        option-cases (entry_at (made_at start) name)
        (λ none. absurd (false≢true (ap is_some (sym none) ∙ made_at-there start name flawless (found_among (name_of start.root start.owned) test start.owned.step.dds dd name at has (name-itself name)))))
        (λ set e. (set, e, made-so set e))

  -- a DD by its name, which is that of a DD that holds records
  named-plain : (dd_name : Name) (dd : Dd) (name : Name) → dd_named start.owned dd_name ≡ Some dd → name_of start.root start.owned dd ≡ Some name → holds_records (role_of start.owned.step.program dd_name) ≡ true → IsPlain (made_at start) (Some name)
  named-plain dd_name dd name at has holds =
      is-plain (λ one. same_name dd_name one.name) dd name at has
      (ap holds_records (dd_role start.owned.step.program dd (find-all (has_role start.owned.step.program) (λ one. same_name dd_name one.name) start.owned.step.dds dd (formed-roles start.root start.owned formed) at))
      ∙ ap (λ n. holds_records (role_of start.owned.step.program n)) (sym (name-same dd_name dd.name (find-passes (λ one. same_name dd_name one.name) start.owned.step.dds dd at)))
      ∙ holds)

  by-name : (dd_name : Option Name) (set : Option Name) → ((name : Name) → dd_name ≡ Some name → holds_records (role_of start.owned.step.program name) ≡ true) → option_and_then (name_of start.root start.owned) (option_and_then (dd_named start.owned) dd_name) ≡ set → IsPlain (made_at start) set
  by-name dd_name None holds is = tt
  by-name None (Some name) holds is = absurd (some-not-none name (sym is))
  by-name (Some dd_name) (Some name) holds is = by (dd_named start.owned dd_name) refl is
    where
      by : (dd : Option Dd) → dd_named start.owned dd_name ≡ dd → option_and_then (name_of start.root start.owned) dd ≡ Some name → IsPlain (made_at start) (Some name)
      by None at is = absurd (some-not-none name (sym is))
      by (Some dd) at is = named-plain dd_name dd name at is (holds dd_name refl)

  source-plain : (input : ℕ) → IsPlain (made_at start) (set_of_source (source_in start.root start.owned.owner start.owned.step (input_dd start.owned.step input)))
  source-plain input = by (source_in start.root start.owned.owner start.owned.step (input_dd start.owned.step input)) refl
    where
      by-dd : (dd_name : Option Name) (dd : Dd) (name : Name) → slice_get (input_names start.owned.step.program) input ≡ dd_name → option_and_then (dd_named start.owned) dd_name ≡ Some dd → name_of start.root start.owned dd ≡ Some name → IsPlain (made_at start) (Some name)
      by-dd None dd name is at has = absurd (some-not-none dd (sym at))
      by-dd (Some dd_name) dd name is at has = named-plain dd_name dd name at has (input-role start.owned.step.program input dd_name is)

      by : (source : RecordSource) → source_in start.root start.owned.owner start.owned.step (input_dd start.owned.step input) ≡ source → IsPlain (made_at start) (set_of_source source)
      by Nowhere e = tt
      by (InDeck cards) e = tt
      by (InSet name) e =
          let its = source_named start input name e in
          by-dd (slice_get (input_names start.owned.step.program) input) its.dd name refl its.found its.named

  main-plain : IsPlain (made_at start) (files_at start).main
  unfolding files_of
  main-plain = by-name (slice_get (main_names start.owned.step.program) 0) (files_at start).main (λ name is. main-role start.owned.step.program name is) refl

  rejects-plain : IsPlain (made_at start) (files_at start).rejects
  unfolding files_of
  rejects-plain = by-name (find (same_name rejects_dd) (names_written start.owned.step.program)) (files_at start).rejects (λ name is. rejects-role start.owned.step.program name is) refl

  -- ---- what is updated is a data set

  in-set : (origin : Origin) (root owner step dd name : Name) → origin_name origin root owner step dd ≡ Some name → source_by origin (origin_name origin root owner step dd) ≡ InSet name
  in-set (InStream cards) root owner step dd name e = absurd (some-not-none name (sym e))
  in-set (NamedOrigin own) root owner step dd name e = ap (source_by (NamedOrigin own)) e
  in-set (Temporary own) root owner step dd name e = ap (source_by (Temporary own)) e
  in-set Unnamed root owner step dd name e = ap (source_by Unnamed) e
  in-set Sysout root owner step dd name e = ap (source_by Sysout) e
  in-set Dummy root owner step dd name e = absurd (some-not-none name (sym e))

  updated : list_all (has_set start.root start.owned) (names_updated start.owned.step.program) ≡ true
  updated = and-second (are_distinct (names_of start.root start.owned) && list_all (has_role start.owned.step.program) start.owned.step.dds) _ formed

  from-dd : (dd_name : Name) → has_set start.root start.owned dd_name ≡ true → (name : Name) × (source_in start.root start.owned.owner start.owned.step (dd_named start.owned dd_name) ≡ InSet name)
  from-dd dd_name there = by (dd_named start.owned dd_name) there
    where
      by-set : (dd : Dd) (set : Option Name) → name_of start.root start.owned dd ≡ set → is_some set ≡ true → (name : Name) × (source_in start.root start.owned.owner start.owned.step (Some dd) ≡ InSet name)
      by-set dd None is there = absurd (false≢true there)
      by-set dd (Some name) is there = (name, in-set dd.origin (run_name start.root) (run_name start.owned.owner) start.owned.step.name dd.name name is)

      by : (dd : Option Dd) → is_some (option_and_then (name_of start.root start.owned) dd) ≡ true → (name : Name) × (source_in start.root start.owned.owner start.owned.step dd ≡ InSet name)
      by None there = absurd (false≢true there)
      by (Some dd) there = by-set dd (name_of start.root start.owned dd) refl there

  updates-set : (program : Kind) → list_all (has_set start.root start.owned) (names_updated program) ≡ true → HasSetFor program (source_in start.root start.owned.owner start.owned.step (option_and_then (dd_in start.owned.step) (slice_get (input_names program) 0)))
  updates-set Copy there = tt
  updates-set Select there = tt
  updates-set Merge there = tt
  updates-set Master there = tt
  updates-set Update there = from-dd (codes "MASTER") (and-first (has_set start.root start.owned (codes "MASTER")) true there)
  updates-set Print there = tt
  updates-set Br14 there = tt

  -- so the step may start
  pub may-start : MayStart start
  unfolding files_of
  may-start = record {
    distinct = distinct-step start.root start.owned formed;
    first = source-plain 0;
    second = source-plain 1;
    main = main-plain;
    rejects = rejects-plain;
    updates = updates-set start.owned.step.program updated;
  }
