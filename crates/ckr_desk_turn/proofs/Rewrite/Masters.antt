-- What a running step of UPDATE updates: a plain data set, with each place that the step rewrites.
use Rattle.std.proofs.Common.{◌≡◌, ◌≤◌, ◌<◌, ℕ, suc, Bool, true, false, cond, if◌then◌else◌, List, [], ◌∷◌, length, refl, ap, sym, ◌∙◌, subst, Option, Some, None, arith, length-append}
use Rattle.std.specs.Prelude.{codes, option_and_then, slice_get}
use Rattle.std.specs.List.{cons_option, find}
use Rattle.std.specs.Option.{is_some, option_map, option_map_or}
use Rattle.std.proofs.lemmas.List.{length-set}
use Rattle.std.proofs.lemmas.Option.{same_Some}
use Rattle.ckr_base.specs.declared.programs.Output.{Output}
use Rattle.ckr_base.specs.declared.programs.Output.TheVariants.{Main, Rejects, InPlace}
use Rattle.ckr_base.specs.declared.programs.Write.{Write}
use Rattle.ckr_base.proofs.Bools.{bool-cases}
use Rattle.ckr_base.proofs.Options.{some-not-none}
use Rattle.ckr_base.specs.Columns.{fitted}
use Rattle.ckr_uses.specs.SetNames.{origin_name}
use Rattle.ckr_jcl.specs.declared.deck.Dd.{Dd}
use Rattle.ckr_jcl.specs.declared.deck.Kind.{Kind}
use Rattle.ckr_jcl.specs.declared.deck.Kind.TheVariants.{Update}
use Rattle.ckr_jcl.specs.declared.deck.Origin.{Origin}
use Rattle.ckr_jcl.specs.declared.deck.Origin.TheVariants.{Dummy, InStream, Named as NamedOrigin, Sysout, Temporary, Unnamed}
use Rattle.ckr_jcl.specs.declared.deck.Role.TheVariants.{Updates}
use Rattle.ckr_jcl.specs.declared.deck.Status.{Status}
use Rattle.ckr_jcl.specs.declared.deck.Status.TheVariants.{New, Old, Shr, Mod}
use Rattle.ckr_jcl.specs.Programs.{is_checkpointed_by, is_read_by, is_updated_by, is_written_by, role_of}
use Rattle.ckr_library.specs.declared.sets.Content.{Content}
use Rattle.ckr_library.specs.declared.sets.Content.TheVariants.{Plain, Checkpoints}
use Rattle.ckr_library.specs.NameMaps.{Name, same_name, entry_at}
use Rattle.ckr_library.proofs.Named.{at-with_changed}
use Rattle.ckr_meaning.specs.LibrarySet.{Known, Library, LibrarySet, record_ways}
use Rattle.ckr_meaning.specs.Allotments.{FlawModel, allotment_by, allotment_of, exists, found, is_found, is_passed, is_wrong_kind, missing, refused, with_kind, wrong_kind}
use Rattle.ckr_meaning.specs.Dispositions.{Stock}
use Rattle.ckr_meaning.specs.EffectiveJob.{OwnedStep, flaw_in, flaws_in, name_of, placed_from, placed_one}
use Rattle.ckr_meaning.specs.StepRun.{StepStart, changed_in, dd_named, extended, input_at, input_names, output_dd, output_name, placed_at, records_in, records_of_origin, written_all, written_one, written_set}
use Rattle.ckr_points.specs.Follows.{is_update}
use Rattle.ckr_points.specs.Payload.{records_under}
use Rattle.ckr_points_invariant.proofs.StepEnd.Disposals.{flawless-first, flawless-rest, no_flaw}
use Rattle.ckr_points_invariant.proofs.Writes.Roles.{IsTarget}
use Rattle.ckr_desk_turn.proofs.Rewrite.UnitWrites.{by_update}

-- ---- what stands under a name, through writes

-- a plain data set with that place
abbrev pub HasPlace : ℕ → LibrarySet → Type 0
HasPlace place set = (set.content ≡ Plain) × (place < length set.records)

abbrev pub HasPlaceAt : Library → Name → ℕ → Type 0
HasPlaceAt library name place = (set : LibrarySet) → entry_at library name ≡ Some set → HasPlace place set

written-place : (start : StepStart) (place : ℕ) (output : Output) (image : List ℕ) (set : LibrarySet) → HasPlace place set → HasPlace place (written_set start output image set)
written-place start place output image set has = by output
  where
    longer : length set.records ≤ length (extended image set).records
    longer = omega (arith, length-append set.records (fitted set.lrecl image ∷ []))

    by : (output : Output) → HasPlace place (written_set start output image set)
    by Main = let at : place < length set.records = has.1 in (has.0, omega (arith, at, longer))
    by Rejects = let at : place < length set.records = has.1 in (has.0, omega (arith, at, longer))
    by (InPlace other) = (has.0, subst (λ n. place < n) (sym (length-set set.records other (fitted set.lrecl image))) has.1)

changed-place : (change : LibrarySet → LibrarySet) (place : ℕ) → ((set : LibrarySet) → HasPlace place set → HasPlace place (change set)) → (to : Option Name) (library : Library) (name : Name) → HasPlaceAt library name place → HasPlaceAt (changed_in to change library) name place
changed-place change place keeps None library name has = has
changed-place change place keeps (Some to) library name has =
    λ set at. by (same_name name to) (entry_at library name) refl set (sym (at-with_changed to name change library) ∙ at)
  where
    by : (same : Bool) (entry : Option LibrarySet) → entry_at library name ≡ entry → (set : LibrarySet) → cond same (option_map change entry) entry ≡ Some set → HasPlace place set
    by true None was set at = absurd (some-not-none set (sym at))
    by true (Some before) was set at = subst (HasPlace place) (same_Some (change before) set at) (keeps before (has before was))
    by false entry was set at = has set (was ∙ at)

written_one-place : (start : StepStart) (write : Write) (library : Library) (name : Name) (place : ℕ) → HasPlaceAt library name place → HasPlaceAt (written_one start write library) name place
unfolding written_one
written_one-place start write library name place has =
    changed-place (written_set start write.output write.image) place (written-place start place write.output write.image) (output_name start write.output) library name has

pub written_all-place : (start : StepStart) (writes : List Write) (library : Library) (name : Name) (place : ℕ) → HasPlaceAt library name place → HasPlaceAt (written_all start writes library) name place
written_all-place start [] library name place has = has
written_all-place start (write ∷ writes) library name place has =
    written_all-place start writes (written_one start write library) name place (written_one-place start write library name place has)

-- ---- a DD without a flaw

pub flawless-dd : (standing : Stock LibrarySet) (root : ℕ) (owned : OwnedStep) (number : ℕ) (test : Dd → Bool) (dds : List Dd) (dd : Dd) (name : Name) → flaws_in (placed_from record_ways standing root owned number dds) ≡ [] → find test dds ≡ Some dd → name_of root owned dd ≡ Some name → flaw_in (allotment_of dd (is_passed standing.passed name) (option_map record_ways.known (entry_at standing.sets name))) ≡ None
flawless-dd standing root owned number test [] dd name flawless at has = absurd (some-not-none dd (sym at))
flawless-dd standing root owned number test (first ∷ rest) dd name flawless at has =
    bool-cases (test first)
    (λ here.
    let same : first ≡ dd = same_Some first dd (sym (ap (λ b. cond b (Some first) (find test rest)) here) ∙ at) in
    subst (λ (one : Dd). flaw_in (allotment_of one (is_passed standing.passed name) (option_map record_ways.known (entry_at standing.sets name))) ≡ None) same
    (flawless-first (placed_one record_ways standing number first name) (placed_from record_ways standing root owned (suc number) rest)
    (sym (ap (λ o. flaws_in (cons_option (option_map (placed_one record_ways standing number first) o) (placed_from record_ways standing root owned (suc number) rest))) (ap (name_of root owned) same ∙ has)) ∙ flawless)))
    (λ isnt.
    flawless-dd standing root owned (suc number) test rest dd name (others (name_of root owned first) flawless)
    (sym (ap (λ b. cond b (Some first) (find test rest)) isnt) ∙ at) has)
  where
    others : (other : Option Name) → flaws_in (cons_option (option_map (placed_one record_ways standing number first) other) (placed_from record_ways standing root owned (suc number) rest)) ≡ [] → flaws_in (placed_from record_ways standing root owned (suc number) rest) ≡ []
    others None flawless = flawless
    others (Some other) flawless = flawless-rest (placed_one record_ways standing number first other) (placed_from record_ways standing root owned (suc number) rest) flawless

plain-here : (content : Content) → flaw_in (if is_wrong_kind Updates content then refused wrong_kind else found) ≡ None → content ≡ Plain
plain-here Plain e = refl
plain-here Checkpoints e = no_flaw wrong_kind e

plain-found : (known : Known) (here : Bool) (otherwise : FlawModel) → flaw_in (with_kind Updates (Some known) (if here then found else refused otherwise)) ≡ None → known.content ≡ Plain
plain-found known true otherwise e = plain-here known.content e
plain-found known false otherwise e = no_flaw otherwise e

plain-by : (status : Status) (known : Known) (here space : Bool) → flaw_in (with_kind Updates (Some known) (allotment_by status true here space)) ≡ None → known.content ≡ Plain
plain-by New known here space e = no_flaw exists e
plain-by Old known here space e = plain-found known here missing e
plain-by Shr known here space e = plain-found known here missing e
plain-by Mod known here space e = plain-found known here exists e

-- what is updated and was there is no checkpoint data set
pub updated-plain : (dd : Dd) (passed : Bool) (known : Known) → dd.role ≡ Updates → flaw_in (allotment_of dd passed (Some known)) ≡ None → known.content ≡ Plain
updated-plain dd passed known role flawless =
    plain-by dd.disp.status known (is_found dd passed (Some known)) (is_some dd.space)
    (sym (ap (λ role. flaw_in (with_kind role (Some known) (allotment_by dd.disp.status true (is_found dd passed (Some known)) (is_some dd.space)))) role) ∙ flawless)

module _ (start : StepStart) (dd : Dd) (name : Name) (test : Dd → Bool) (at : find test start.owned.step.dds ≡ Some dd) (has : name_of start.root start.owned dd ≡ Some name) (role : dd.role ≡ Updates) (flawless : flaws_in (placed_at start) ≡ []) where
  none_here : flaw_in (allotment_of dd (is_passed start.standing.passed name) (option_map record_ways.known (entry_at start.standing.sets name))) ≡ None
  unfolding placed_at
  none_here = flawless-dd start.standing start.root start.owned 1 test start.owned.step.dds dd name flawless at has

  pub standing-plain : (set : LibrarySet) → entry_at start.standing.sets name ≡ Some set → set.content ≡ Plain
  standing-plain set was =
      updated-plain dd (is_passed start.standing.passed name) (record_ways.known set) role
      (sym (ap (λ (o : Option LibrarySet). flaw_in (allotment_of dd (is_passed start.standing.passed name) (option_map record_ways.known o))) was) ∙ none_here)

-- ---- what UPDATE updates

master_role : role_of Update (codes "MASTER") ≡ Updates
unfolding role_of is_read_by is_written_by is_updated_by is_checkpointed_by
master_role = refl

pub role-updates : (program : Kind) (place : ℕ) (dd : Name) → is_update program ≡ true → output_dd program (InPlace place) ≡ Some dd → role_of program dd ≡ Updates
role-updates program place dd updates named =
    by_update (λ program. output_dd program (InPlace place) ≡ Some dd → role_of program dd ≡ Updates) program updates
    (λ named. subst (λ d. role_of Update d ≡ Updates) (same_Some _ dd named) master_role) named

-- the records of a DD that has a data set are those of the data set
of-set : (library : Library) (origin : Origin) (root owner step dd name : Name) → origin_name origin root owner step dd ≡ Some name → records_of_origin library origin (Some name) ≡ records_under library name
of-set library (InStream cards) root owner step dd name e = absurd (some-not-none name (sym e))
of-set library (NamedOrigin other) root owner step dd name e = refl
of-set library (Temporary other) root owner step dd name e = refl
of-set library Unnamed root owner step dd name e = refl
of-set library Sysout root owner step dd name e = refl
of-set library Dummy root owner step dd name e = absurd (some-not-none name (sym e))

dd-records : (start : StepStart) (library : Library) (dd : Dd) (name : Name) → name_of start.root start.owned dd ≡ Some name → records_in start library dd ≡ records_under library name
dd-records start library dd name has =
    ap (records_of_origin library dd.origin) has ∙ of-set library dd.origin _ _ _ _ name has

first_name : (program : Kind) (place : ℕ) → is_update program ≡ true → slice_get (input_names program) 0 ≡ output_dd program (InPlace place)
first_name program place updates = by_update (λ program. slice_get (input_names program) 0 ≡ output_dd program (InPlace place)) program updates refl

-- UPDATE's first input is what it updates
pub first-input : (start : StepStart) (library : Library) (place : ℕ) (name : Name) (dd : Dd) → is_update start.owned.step.program ≡ true → IsTarget start (InPlace place) name dd → input_at start library 0 ≡ records_under library name
first-input start library place name dd updates target =
    ap (λ (o : Option Name). option_map_or (records_in start library) (option_and_then (dd_named start.owned) o) []) (first_name start.owned.step.program place updates ∙ target.named)
    ∙ ap (λ (o : Option Dd). option_map_or (records_in start library) o []) target.found
    ∙ dd-records start library dd name target.has
