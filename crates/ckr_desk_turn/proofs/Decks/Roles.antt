-- The DDs of an accepted deck have their roles, and what UPDATE updates is a data set.
use Rattle.std.proofs.Common.{◌≡◌, ℕ, Bool, true, false, ◌&&◌, ◌||◌, ◌==◌, not, List, [], ◌∷◌, map, Option, Some, None, find, refl, ap, sym, ◌∙◌, subst, cond}
use Rattle.std.proofs.lemmas.Bool.{and_from, and_parts, false≢true, not-false, or_parts}
use Rattle.std.proofs.lemmas.Option.{none-some, same_Some}
use Rattle.std.proofs.lemmas.Slice.Eq.{bytes_eq-Decides}
use Rattle.std.specs.Prelude.{bytes_eq, codes, option_and_then}
use Rattle.std.specs.List.{AllByRecursion, list_all, list_any}
use Rattle.std.specs.Option.{is_some}
use Rattle.ckr_base.proofs.Sequences.{each-both, each-implies}
use Rattle.ckr_cards.specs.Statement.{name_in}
use Rattle.ckr_jcl.specs.declared.deck.After.TheVariants.{Keep}
use Rattle.ckr_jcl.specs.declared.deck.Cond.{Cond}
use Rattle.ckr_jcl.specs.declared.deck.Dd.{Dd}
use Rattle.ckr_jcl.specs.declared.deck.Disp.{Disp}
use Rattle.ckr_jcl.specs.declared.deck.Kind.{Kind}
use Rattle.ckr_jcl.specs.declared.deck.Kind.TheVariants.{Update}
use Rattle.ckr_jcl.specs.declared.deck.Origin.{Origin}
use Rattle.ckr_jcl.specs.declared.deck.Role.{Role}
use Rattle.ckr_jcl.specs.declared.deck.Role.TheVariants.{Reads, Writes, Updates, Checkpoints, Unused}
use Rattle.ckr_jcl.specs.declared.deck.Status.{Status}
use Rattle.ckr_jcl.specs.declared.deck.Status.TheVariants.{New, Old, Shr, Mod}
use Rattle.ckr_jcl.specs.declared.deck.Step.{Step}
use Rattle.ckr_jcl_decks.specs.Parts.DdRule.TheVariants.{LeftOut, WrongUse}
use Rattle.ckr_jcl_decks.specs.Parts.DsnText.{DsnText}
use Rattle.ckr_jcl_decks.specs.Parts.DsnText.TheVariants.{Permanent}
use Rattle.ckr_jcl_decks.specs.Parts.DdText.{DdText}
use Rattle.ckr_jcl_decks.specs.Parts.StepText.{StepText}
use Rattle.ckr_jcl_decks.specs.Parts.DdValues.{disp_of}
use Rattle.ckr_jcl_decks.specs.Parts.DeckText.{dd_text, role_in}
use Rattle.ckr_jcl_decks.specs.Parts.DdFaults.{breaks, breaks_role, is_left_out_dd, is_old as is_old_text, is_shared, is_wrong_use}
use Rattle.ckr_jcl_decks.specs.DeckFaults.{has_checkpoint_dd, has_dd, has_dds, has_needed_dds, is_dd_of, lacks_dd, lacks_needed, parm_of}
use Rattle.ckr_jcl_decks.specs.Deck.{dd_of, disposition_of, named_origin, step_with}
use Rattle.ckr_jcl.specs.Programs.{is_read_by, is_unused, is_updated_by, is_written_by, names_updated, role_of}
use Rattle.ckr_library.specs.NameMaps.{Name, same_name}
use Rattle.ckr_library.proofs.Named.{name-equivalence, name-same}
use Rattle.ckr_uses.specs.SetNames.{origin_name, run_name}
use Rattle.ckr_uses.specs.Uses.{is_shr}
use Rattle.ckr_meaning.specs.EffectiveJob.{name_of}
use Rattle.ckr_points_library.specs.Holdings.{owned}
use Rattle.ckr_points.specs.Payload.{allows, has_role, has_set, is_old, role_number}
use Rattle.ckr_desk_turn.proofs.Decks.Clashes.{sysout_new}
use Rattle.ckr_desk_turn.proofs.Decks.Origins.{dd_origin, origin-named, origin-sysout}
use Rattle.ckr_desk_turn.proofs.Decks.DeckTests.{NoneMeets, OfStep, all_pass}
use Rattle.ckr_desk_turn.proofs.Decks.Texts.{AreStated, IsStated}

-- ---- the role

stated_name : (program : Option Kind) (dd : DdText) (stated : IsStated program dd) → dd.name ≡ name_in stated.statement
unfolding dd_text
stated_name program dd stated = ap (λ (d : DdText). d.name) stated.is

stated_role : (program : Option Kind) (dd : DdText) → IsStated program dd → dd.role ≡ role_in program dd.name
unfolding dd_text
stated_role program dd stated = ap (λ (d : DdText). d.role) stated.is ∙ ap (role_in program) (sym (stated_name program dd stated))

-- that of the program and the name
pub dd_role : (kind : Kind) (program : Option Kind) (dd : DdText) → program ≡ Some kind → IsStated program dd → dd.role ≡ role_of kind dd.name
dd_role kind program dd is stated = stated_role program dd stated ∙ ap (λ (p : Option Kind). role_in p dd.name) is

itself : (role : Role) → (role_number role == role_number role) ≡ true
itself Reads = refl
itself _ = refl

same_role : (one other : Role) → one ≡ other → (role_number one == role_number other) ≡ true
same_role one other is = subst (λ (role : Role). (role_number one == role_number role) ≡ true) is (itself one)

-- ---- the status

stated_new : (program : Option Kind) (dd : DdText) → IsStated program dd → dd.sysout ≡ true → dd.disp.status ≡ New
stated_new program dd stated some =
    subst (λ (d : DdText). d.sysout ≡ true → d.disp.status ≡ New) (sym stated.is) (sysout_new stated.seen stated.statement (role_in program (name_in stated.statement)) stated.sound) some

not_shr : (status : Status) → is_shared status ≡ false → not (is_shr status) ≡ true
not_shr New is = refl
not_shr Old is = refl
not_shr Shr is = sym is
not_shr Mod is = refl

shr_apart : (sysout : Bool) (disp : Disp) → is_shared disp.status ≡ false → not (is_shr (cond sysout (disp_of (Some New) (Some Keep) (Some Keep)) disp).status) ≡ true
shr_apart true disp is = refl
shr_apart false disp is = not_shr disp.status is

old_stays : (status : Status) → is_old_text status ≡ true → is_old status ≡ true
old_stays New is = is
old_stays Old is = refl
old_stays Shr is = is
old_stays Mod is = is

old_apart : (sysout : Bool) (disp : Disp) → is_old_text disp.status ≡ true → (sysout ≡ true → disp.status ≡ New) → is_old (cond sysout (disp_of (Some New) (Some Keep) (Some Keep)) disp).status ≡ true
old_apart true disp is new = absurd (false≢true (sym (ap is_old_text (new refl)) ∙ is))
old_apart false disp is new = old_stays disp.status is

status_allowed : (role : Role) (dd : DdText) → breaks_role role dd ≡ false → (dd.sysout ≡ true → dd.disp.status ≡ New) → allows role (disposition_of dd).status ≡ true
unfolding breaks_role disposition_of
status_allowed Reads dd right new = refl
status_allowed Writes dd right new = shr_apart dd.sysout dd.disp (or_parts dd.in_stream (is_shared dd.disp.status) right).1
status_allowed Updates dd right new = old_apart dd.sysout dd.disp (not-false (is_old_text dd.disp.status) (or_parts dd.in_stream (not (is_old_text dd.disp.status)) right).1) new
status_allowed Checkpoints dd right new =
    shr_apart dd.sysout dd.disp (or_parts dd.in_stream (is_shared dd.disp.status) (or_parts (dd.in_stream || is_shared dd.disp.status) dd.sysout right).0).1
status_allowed Unused dd right new = refl

pub keeps_role : (dd : DdText) → breaks WrongUse dd ≡ false → breaks_role dd.role dd ≡ false
unfolding breaks is_wrong_use
keeps_role dd right = (or_parts (breaks_role dd.role dd) _ (or_parts _ _ right).0).0

pub role_right : (kind : Kind) (program : Option Kind) (dd : DdText) → program ≡ Some kind → IsStated program dd → breaks WrongUse dd ≡ false → has_role kind (dd_of dd) ≡ true
unfolding dd_of
role_right kind program dd is stated right =
    and_from (role_number dd.role == role_number (role_of kind dd.name)) (allows dd.role (disposition_of dd).status) (same_role dd.role (role_of kind dd.name) (dd_role kind program dd is stated))
    (status_allowed dd.role dd (keeps_role dd right) (stated_new program dd stated))

-- ---- what UPDATE updates

master_role : role_of Update (codes "MASTER") ≡ Updates
unfolding role_of is_read_by is_written_by is_updated_by
master_role = refl

record IsOpen (dd : DdText) : Type 0 where
  stream : dd.in_stream ≡ false
  dummy : dd.dummy ≡ false

not_dummy : (dummy : Bool) → (dummy && true) ≡ false → dummy ≡ false
not_dummy true is = is
not_dummy false is = refl

updated_open : (dd : DdText) → dd.role ≡ Updates → breaks WrongUse dd ≡ false → breaks LeftOut dd ≡ false → IsOpen dd
unfolding breaks is_left_out_dd breaks_role
updated_open dd role right known = record {
  stream = (or_parts dd.in_stream (not (is_old_text dd.disp.status)) (subst (λ (r : Role). breaks_role r dd ≡ false) role (keeps_role dd right))).0;
  dummy = not_dummy dd.dummy (subst (λ (r : Role). (dd.dummy && not (is_unused r)) ≡ false) role (or_parts _ (dd.dummy && not (is_unused dd.role)) known).1);
}

named_some : (dsn : Option DsnText) (root owner step dd : Name) → is_some (origin_name (named_origin dsn) root owner step dd) ≡ true
unfolding named_origin
named_some None root owner step dd = refl
named_some (Some (Permanent name)) root owner step dd = refl
named_some _ root owner step dd = refl

open_named : (dd : DdText) (root owner step name : Name) → IsOpen dd → is_some (origin_name (dd_of dd).origin root owner step name) ≡ true
open_named dd root owner step name free = by_sysout dd.sysout refl
  where
    by_sysout : (sysout : Bool) → dd.sysout ≡ sysout → is_some (origin_name (dd_of dd).origin root owner step name) ≡ true
    by_sysout true is = subst (λ (o : Origin). is_some (origin_name o root owner step name) ≡ true) (sym (dd_origin dd ∙ origin-sysout dd free.stream free.dummy is)) refl
    by_sysout false is =
        subst (λ (o : Origin). is_some (origin_name o root owner step name) ≡ true) (sym (dd_origin dd ∙ origin-named dd free.stream free.dummy is)) (named_some dd.dsn root owner step name)

-- a DD of the name that has a data set
abbrev HasSet : (Dd → Option Name) → Name → DdText → Type 0
HasSet named name dd = dd.name ≡ name → is_some (named (dd_of dd)) ≡ true

found_set : (named : Dd → Option Name) (name : Name) (dds : List DdText) → AllByRecursion (HasSet named name) dds → list_any (is_dd_of name) dds ≡ true
    → is_some (option_and_then named (find (λ (dd : Dd). same_name name dd.name) (map dd_of dds))) ≡ true
unfolding dd_of
found_set named name [] sets any = any
found_set named name (dd ∷ rest) sets any = by_test (found_set named name rest sets.1) (same_name name dd.name) refl
  where
    any_later : same_name name dd.name ≡ false → (b : Bool) → bytes_eq name dd.name ≡ b → (b || list_any (is_dd_of name) rest) ≡ true → list_any (is_dd_of name) rest ≡ true
    any_later is true equal more = absurd (false≢true (sym is ∙ (ap (same_name name) (sym ((bytes_eq-Decides name dd.name).0 equal)) ∙ name-equivalence.refl name)))
    any_later is false equal more = more

    by_test : (list_any (is_dd_of name) rest ≡ true → is_some (option_and_then named (find (λ (one : Dd). same_name name one.name) (map dd_of rest))) ≡ true) → (same : Bool) → same_name name dd.name ≡ same
        → is_some (option_and_then named (cond (same_name name dd.name) (Some (dd_of dd)) (find (λ (one : Dd). same_name name one.name) (map dd_of rest)))) ≡ true
    by_test later true is = rw is (sets.0 (sym (name-same name dd.name is)))
    by_test later false is = rw is (later (any_later is (bytes_eq name dd.name) refl any))

-- a step with its PARM has what its program needs
needed_updates : (kind : Kind) (program : Option Kind) (step : StepText) → program ≡ Some kind → lacks_needed program step ≡ false → has_dds step.dds (names_updated kind) ≡ true
unfolding has_needed_dds
needed_updates kind None step is needed = absurd (none-some kind is)
needed_updates kind (Some other) step is needed =
    subst (λ (k : Kind). has_dds step.dds (names_updated k) ≡ true) (same_Some _ _ is)
    (and_parts _ (has_dds step.dds (names_updated other)) (and_parts _ (has_checkpoint_dd other (parm_of other step.parm.items) step.dds) (not-false _ needed)).0).1

has_master : (dds : List DdText) → has_dds dds (names_updated Update) ≡ true → list_any (is_dd_of (codes "MASTER")) dds ≡ true
unfolding has_dds
has_master dds needed = (and_parts (has_dd dds (codes "MASTER")) true needed).0

-- a DD as its program's step has it
record IsRight (kind : Kind) (dd : DdText) : Type 0 where
  role : dd.role ≡ role_of kind dd.name
  used : breaks WrongUse dd ≡ false
  known : breaks LeftOut dd ≡ false

step_sets : (root owner : ℕ) (tests : List Cond) (kind : Kind) (step : StepText) → AllByRecursion (IsRight kind) step.dds → has_dds step.dds (names_updated kind) ≡ true
    → list_all (has_set root (owned (step_with step kind) owner tests)) (names_updated kind) ≡ true
unfolding step_with
step_sets root owner tests Update step right needed =
    and_from (has_set root (owned (step_with step Update) owner tests) (codes "MASTER")) true
    (found_set (name_of root (owned (step_with step Update) owner tests)) (codes "MASTER") step.dds
    (each-implies (IsRight Update) (HasSet (name_of root (owned (step_with step Update) owner tests)) (codes "MASTER")) step.dds is_set right) (has_master step.dds needed))
    refl
  where
    is_set : (dd : DdText) → IsRight Update dd → HasSet (name_of root (owned (step_with step Update) owner tests)) (codes "MASTER") dd
    is_set dd own same =
        open_named dd (run_name root) (run_name owner) step.name (dd_of dd).name (updated_open dd (own.role ∙ (ap (role_of Update) same ∙ master_role)) own.used own.known)
step_sets root owner tests _ step right needed = refl

-- ---- a step

-- what the rules for DDs say of a step
pub record IsJudged (step : StepText) : Type 0 where
  pub stated : AreStated step
  pub needed : lacks_dd step ≡ false
  pub used : NoneMeets (breaks WrongUse) step.dds
  pub known : NoneMeets (breaks LeftOut) step.dds

-- its DDs have their roles, and what its program updates is a data set
pub record IsRoled (step : Step) : Type 0 where
  pub roles : list_all (has_role step.program) step.dds ≡ true
  pub sets : (root owner : ℕ) (tests : List Cond) → list_all (has_set root (owned step owner tests)) (names_updated step.program) ≡ true

pub step_roled : (step : StepText) → IsJudged step → OfStep IsRoled step
unfolding step_with
step_roled step judged kind is = record {
  roles =
      all_pass (has_role kind) dd_of step.dds
      (each-both (IsStated step.program) (λ dd. breaks WrongUse dd ≡ false) (λ dd. has_role kind (dd_of dd) ≡ true) step.dds (λ dd stated used. role_right kind step.program dd is stated used) judged.stated judged.used);
  sets = λ root owner tests.
      step_sets root owner tests kind step
      (each-both (λ dd. (dd.role ≡ role_of kind dd.name) × (breaks WrongUse dd ≡ false)) (λ dd. breaks LeftOut dd ≡ false) (IsRight kind) step.dds (λ dd own known. record { role = own.0; used = own.1; known = known })
      (each-both (IsStated step.program) (λ dd. breaks WrongUse dd ≡ false) (λ dd. (dd.role ≡ role_of kind dd.name) × (breaks WrongUse dd ≡ false)) step.dds (λ dd stated used. (dd_role kind step.program dd is stated, used)) judged.stated judged.used)
      judged.known)
      (needed_updates kind step.program step is judged.needed);
}
