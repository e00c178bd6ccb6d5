-- What a step has under the name of its DD for checkpoints is a data set for checkpoints, as long as the step runs.
use Rattle.std.proofs.Common.{◌≡◌, ℕ, suc, Bool, true, false, cond, not, List, [], ◌∷◌, find, take, refl, ap, sym, ◌∙◌, subst, Option, Some, None}
use Rattle.std.specs.Prelude.{if◌then◌else◌}
use Rattle.std.specs.List.{AllByRecursion, cons_option, filter_map}
use Rattle.std.specs.Option.{is_some, option_map}
use Rattle.std.proofs.lemmas.Bool.{false≢true, not-true, or_left, or_right}
use Rattle.std.proofs.lemmas.Option.{same_Some}
use Rattle.ckr_base.specs.declared.programs.Output.{Output}
use Rattle.ckr_base.specs.declared.programs.Output.TheVariants.{Main, Rejects, InPlace}
use Rattle.ckr_base.specs.declared.programs.Write.{Write}
use Rattle.ckr_base.proofs.Bools.{and-first, and-second}
use Rattle.ckr_base.proofs.Options.{some-not-none}
use Rattle.ckr_uses.specs.Uses.{are_distinct}
use Rattle.ckr_jcl.specs.declared.deck.Dd.{Dd}
use Rattle.ckr_jcl.specs.declared.deck.Role.{Role}
use Rattle.ckr_jcl.specs.declared.deck.Role.TheVariants.{Reads, Writes, Updates, Checkpoints as ChecksOn, Unused}
use Rattle.ckr_jcl.specs.declared.deck.Status.{Status}
use Rattle.ckr_jcl.specs.declared.deck.Status.TheVariants.{New, Old, Shr, Mod}
use Rattle.ckr_library.specs.declared.sets.Content.{Content}
use Rattle.ckr_library.specs.declared.sets.Content.TheVariants.{Plain, Checkpoints}
use Rattle.ckr_library.specs.declared.sets.Stamp.{Stamp}
use Rattle.ckr_library.specs.NameMaps.{Name, entry_at, same_name}
use Rattle.ckr_library.proofs.Named.{at-with_changed, at-with_entry, name-itself, name-same}
use Rattle.ckr_meaning.specs.Allotments.{AllotmentModel, DdAllotment, FlawModel, allotment_by, allotment_of, content_for, exists, found, is_found, is_passed, is_wrong_kind, made, missing, refused, with_kind, wrong_kind}
use Rattle.ckr_meaning.specs.Dispositions.{Stock}
use Rattle.ckr_meaning.specs.EffectiveJob.{OwnedStep, flaw_in, flaws_in, is_among, name_of, placed_from, placed_one}
use Rattle.ckr_meaning.specs.LibrarySet.{Known, Library, LibrarySet, record_ways}
use Rattle.ckr_meaning.specs.StepRun.{StepStart, changed_in, fresh_set, made_all, made_at, made_one, opened_at, output_name, placed_at, stamp_at, within_at, work_at, written_all, written_one, written_set}
use Rattle.ckr_points.specs.Payload.{is_formed_step}
use Rattle.ckr_points.specs.Tables.{is_checkpoints}
use Rattle.ckr_points_invariant.proofs.Library.Likeness.{placed-apart}
use Rattle.ckr_points_invariant.proofs.Start.Openings.{opened-known}
use Rattle.ckr_points_invariant.proofs.StepEnd.Disposals.{no_flaw}
use Rattle.ckr_desk_turn.proofs.Rewrite.Masters.{flawless-dd}
use Rattle.ckr_desk_turn.proofs.Units.Outputs.{distinct-step, within_at-parts}

-- ---- what is allotted

checks-on : (role : Role) → is_checkpoints role ≡ true → role ≡ ChecksOn
checks-on Reads e = absurd (false≢true e)
checks-on Writes e = absurd (false≢true e)
checks-on Updates e = absurd (false≢true e)
checks-on ChecksOn e = refl
checks-on Unused e = absurd (false≢true e)

kind-here : (content : Content) → flaw_in (if is_wrong_kind ChecksOn content then refused wrong_kind else found) ≡ None → content ≡ Checkpoints
kind-here Plain e = no_flaw wrong_kind e
kind-here Checkpoints e = refl

kind-found : (known : Known) (here : Bool) (otherwise : FlawModel) → flaw_in (with_kind ChecksOn (Some known) (if here then found else refused otherwise)) ≡ None → known.content ≡ Checkpoints
kind-found known true otherwise e = kind-here known.content e
kind-found known false otherwise e = no_flaw otherwise e

kind-by : (status : Status) (known : Known) (here space : Bool) → flaw_in (with_kind ChecksOn (Some known) (allotment_by status true here space)) ≡ None → known.content ≡ Checkpoints
kind-by New known here space e = no_flaw exists e
kind-by Old known here space e = kind-found known here missing e
kind-by Shr known here space e = kind-found known here missing e
kind-by Mod known here space e = kind-found known here exists e

-- ---- no other DD of the step has the name

module _ (standing : Stock LibrarySet) (root : ℕ) (owned : OwnedStep) (test : Dd → Bool) (dd : Dd) (name : Name) (has : name_of root owned dd ≡ Some name) where
  abbrev IsIts : DdAllotment → Type 0
  IsIts placed = same_name name placed.name ≡ true → placed.dd ≡ dd

  apart-each : (all : List DdAllotment) → AllByRecursion (λ (placed : DdAllotment). same_name name placed.name ≡ false) all → AllByRecursion IsIts all
  apart-each [] apart = tt
  apart-each (one ∷ rest) apart = (λ same. absurd (false≢true (sym apart.0 ∙ same)), apart-each rest apart.1)

  among-found : (dds : List Dd) → find test dds ≡ Some dd → is_among (filter_map (name_of root owned) dds) name ≡ true
  among-found [] at = absurd (some-not-none dd (sym at))
  among-found (first ∷ rest) at = by (test first) (name_of root owned first) refl at (among-found rest)
    where
      by : (passes : Bool) (its : Option Name) → name_of root owned first ≡ its → cond passes (Some first) (find test rest) ≡ Some dd → (find test rest ≡ Some dd → is_among (filter_map (name_of root owned) rest) name ≡ true) → is_among (cons_option its (filter_map (name_of root owned) rest)) name ≡ true
      by true None e at later = absurd (some-not-none name (sym (sym e ∙ ap (name_of root owned) (same_Some first dd at) ∙ has)))
      by true (Some its) e at later = or_left (same_name name its) _ (ap (same_name name) (same_Some its name (sym e ∙ ap (name_of root owned) (same_Some first dd at) ∙ has)) ∙ name-itself name)
      by false None e at later = later at
      by false (Some its) e at later = or_right (same_name name its) _ (later at)

  abbrev Later : ℕ → List Dd → Type 0
  Later number rest = are_distinct (filter_map (name_of root owned) rest) ≡ true → find test rest ≡ Some dd → AllByRecursion IsIts (placed_from record_ways standing root owned (suc number) rest)

  only-its : (number : ℕ) (dds : List Dd) → are_distinct (filter_map (name_of root owned) dds) ≡ true → find test dds ≡ Some dd → AllByRecursion IsIts (placed_from record_ways standing root owned number dds)
  only-its number [] distinct at = tt
  only-its number (first ∷ rest) distinct at = by (test first) at (λ distinct at. only-its (suc number) rest distinct at)
    where
      here : (other : Option Name) → other ≡ Some name → are_distinct (cons_option other (filter_map (name_of root owned) rest)) ≡ true → first ≡ dd → AllByRecursion IsIts (cons_option (option_map (placed_one record_ways standing number first) other) (placed_from record_ways standing root owned (suc number) rest))
      here None is distinct same = absurd (some-not-none name (sym is))
      here (Some other) is distinct same = (
        λ named. same,
        apart-each (placed_from record_ways standing root owned (suc number) rest)
            (placed-apart record_ways standing root owned (suc number) rest name
            (subst (λ n. is_among (filter_map (name_of root owned) rest) n ≡ false) (same_Some other name is)
            (not-true (is_among (filter_map (name_of root owned) rest) other) (and-first (not (is_among (filter_map (name_of root owned) rest) other)) _ distinct)))),
      )

      there : (other : Option Name) → are_distinct (cons_option other (filter_map (name_of root owned) rest)) ≡ true → find test rest ≡ Some dd → Later number rest → AllByRecursion IsIts (cons_option (option_map (placed_one record_ways standing number first) other) (placed_from record_ways standing root owned (suc number) rest))
      there None distinct at later = later distinct at
      there (Some other) distinct at later = (
        λ named.
            absurd (false≢true (sym (
            sym (and-first (not (is_among (filter_map (name_of root owned) rest) other)) (are_distinct (filter_map (name_of root owned) rest)) distinct)
            ∙ ap (λ n. not (is_among (filter_map (name_of root owned) rest) n)) (sym (name-same name other named))
            ∙ ap not (among-found rest at)))),
        later (and-second (not (is_among (filter_map (name_of root owned) rest) other)) (are_distinct (filter_map (name_of root owned) rest)) distinct) at,
      )

      by : (b : Bool) → cond b (Some first) (find test rest) ≡ Some dd → Later number rest → AllByRecursion IsIts (cons_option (option_map (placed_one record_ways standing number first) (name_of root owned first)) (placed_from record_ways standing root owned (suc number) rest))
      by true e later = here (name_of root owned first) (ap (name_of root owned) (same_Some first dd e) ∙ has) distinct (same_Some first dd e)
      by false e later = there (name_of root owned first) distinct e later

-- ---- what stands under the name

-- what stands there keeps checkpoints
abbrev pub KeepsCheckpoints : Library → Name → Type 0
KeepsCheckpoints library name = (set : LibrarySet) → entry_at library name ≡ Some set → set.content ≡ Checkpoints

made-keeps : (stamp : Stamp) (name : Name) (placed : DdAllotment) (allotment : AllotmentModel) (library : Library) → (same_name name placed.name ≡ true → content_for placed.dd.role ≡ Checkpoints) → KeepsCheckpoints library name → KeepsCheckpoints (made_one stamp placed allotment library) name
made-keeps stamp name placed found library its keeps = keeps
made-keeps stamp name placed (refused flaw) library its keeps = keeps
made-keeps stamp name placed made library its keeps = λ set e. by (same_name name placed.name) refl set (sym (at-with_entry placed.name name (fresh_set stamp placed.dd) library) ∙ e)
  where
    by : (b : Bool) → same_name name placed.name ≡ b → (set : LibrarySet) → cond b (Some (fresh_set stamp placed.dd)) (entry_at library name) ≡ Some set → set.content ≡ Checkpoints
    by true same set e = ap (λ (s : LibrarySet). s.content) (sym (same_Some (fresh_set stamp placed.dd) set e)) ∙ its same
    by false same set e = keeps set e

all-keep : (stamp : Stamp) (name : Name) (dd : Dd) (all : List DdAllotment) (library : Library) → content_for dd.role ≡ Checkpoints → AllByRecursion (λ (placed : DdAllotment). same_name name placed.name ≡ true → placed.dd ≡ dd) all → KeepsCheckpoints library name → KeepsCheckpoints (made_all stamp all library) name
all-keep stamp name dd [] library kind its keeps = keeps
all-keep stamp name dd (one ∷ rest) library kind its keeps =
    all-keep stamp name dd rest (made_one stamp one one.allotment library) kind its.1
    (made-keeps stamp name one one.allotment library (λ same. ap (λ (d : Dd). content_for d.role) (its.0 same) ∙ kind) keeps)

changed-keeps : (change : LibrarySet → LibrarySet) → ((set : LibrarySet) → (change set).content ≡ set.content) → (to : Option Name) (library : Library) (name : Name) → KeepsCheckpoints library name → KeepsCheckpoints (changed_in to change library) name
changed-keeps change same None library name keeps = keeps
changed-keeps change same (Some to) library name keeps =
    λ set at. by (same_name name to) (entry_at library name) refl set (sym (at-with_changed to name change library) ∙ at)
  where
    by : (b : Bool) (entry : Option LibrarySet) → entry_at library name ≡ entry → (set : LibrarySet) → cond b (option_map change entry) entry ≡ Some set → set.content ≡ Checkpoints
    by true None was set at = absurd (some-not-none set (sym at))
    by true (Some before) was set at = ap (λ (s : LibrarySet). s.content) (sym (same_Some (change before) set at)) ∙ same before ∙ keeps before was
    by false entry was set at = keeps set (was ∙ at)

written-content : (start : StepStart) (output : Output) (image : List ℕ) (set : LibrarySet) → (written_set start output image set).content ≡ set.content
written-content start Main image set = refl
written-content start Rejects image set = refl
written-content start (InPlace place) image set = refl

written-keeps : (start : StepStart) (writes : List Write) (library : Library) (name : Name) → KeepsCheckpoints library name → KeepsCheckpoints (written_all start writes library) name
unfolding written_one
written-keeps start [] library name keeps = keeps
written-keeps start (write ∷ writes) library name keeps =
    written-keeps start writes (written_one start write library) name
    (changed-keeps (written_set start write.output write.image) (written-content start write.output write.image) (output_name start write.output) library name keeps)

module _ (start : StepStart) (formed : is_formed_step start.root start.owned ≡ true) (flawless : flaws_in (placed_at start) ≡ []) (dd : Dd) (name : Name) (at : find (λ one. is_checkpoints one.role) start.owned.step.dds ≡ Some dd) (has : name_of start.root start.owned dd ≡ Some name) (checks : is_checkpoints dd.role ≡ true) where
  allotted : flaw_in (allotment_of dd (is_passed start.standing.passed name) (option_map record_ways.known (entry_at start.standing.sets name))) ≡ None
  unfolding placed_at
  allotted = flawless-dd start.standing start.root start.owned 1 (λ one. is_checkpoints one.role) start.owned.step.dds dd name flawless at has

  standing-keeps : KeepsCheckpoints start.standing.sets name
  standing-keeps set e =
      kind-by dd.disp.status (record_ways.known set) (is_found dd (is_passed start.standing.passed name) (Some (record_ways.known set))) (is_some dd.space)
      (sym (ap (λ role. flaw_in (with_kind role (Some (record_ways.known set)) (allotment_by dd.disp.status true (is_found dd (is_passed start.standing.passed name) (Some (record_ways.known set))) (is_some dd.space)))) (checks-on dd.role checks))
      ∙ sym (ap (λ (o : Option LibrarySet). flaw_in (allotment_of dd (is_passed start.standing.passed name) (option_map record_ways.known o))) e) ∙ allotted)

  opened-keeps : KeepsCheckpoints (opened_at start) name
  opened-keeps set e = by (entry_at start.standing.sets name) refl (sym (opened-known start name) ∙ ap (option_map record_ways.known) e)
    where
      by : (was : Option LibrarySet) → entry_at start.standing.sets name ≡ was → option_map record_ways.known was ≡ Some (record_ways.known set) → set.content ≡ Checkpoints
      by None is e = absurd (some-not-none (record_ways.known set) (sym e))
      by (Some old) is e = ap (λ (k : Known). k.content) (sym (same_Some (record_ways.known old) (record_ways.known set) e)) ∙ standing-keeps old is

  made-so : KeepsCheckpoints (made_at start) name
  unfolding made_at placed_at
  made-so =
      all-keep (stamp_at start) name dd (placed_at start) (opened_at start) (ap content_for (checks-on dd.role checks))
      (only-its start.standing start.root start.owned (λ one. is_checkpoints one.role) dd name has 1 start.owned.step.dds (distinct-step start.root start.owned formed) at)
      opened-keeps

  -- behind any writes of the step
  pub within-keeps : (writes : ℕ) → KeepsCheckpoints (within_at start writes) name
  within-keeps writes =
      subst (λ library. KeepsCheckpoints library name) (sym (within_at-parts start writes))
      (written-keeps start (take writes (work_at start).writes) (made_at start) name made-so)
