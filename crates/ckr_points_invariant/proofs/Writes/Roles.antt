-- Where the writes of a step go: to its outputs, and a rewrite to what its program updates.
use Rattle.std.proofs.Common.{◌≡◌, ℕ, Bool, true, false, ◌&&◌, List, [], ◌∷◌, ◌++◌, filter, map, refl, ap, sym, ◌∙◌, subst, Option, Some, None}
use Rattle.std.proofs.lemmas.Bool.{false≢true}
use Rattle.std.specs.Prelude.{◌==◌}
use Rattle.std.specs.List.{list_all, list_any}
use Rattle.std.specs.Option.{option_map_or}
use Rattle.std.proofs.lemmas.Option.{same_Some}
use Rattle.ckr_base.specs.declared.programs.Output.{Output}
use Rattle.ckr_base.specs.declared.programs.Output.TheVariants.{Main, Rejects, InPlace}
use Rattle.ckr_base.specs.declared.programs.Write.{Write}
use Rattle.ckr_base.proofs.Bools.{and-first, and-second}
use Rattle.ckr_base.proofs.Options.{and_then-some, some-not-none}
use Rattle.ckr_base.proofs.Sequences.{any-filter, find-all, find-any, find-passes}
use Rattle.ckr_uses.specs.Uses.{are_distinct}
use Rattle.ckr_jcl.specs.declared.deck.Dd.{Dd}
use Rattle.ckr_jcl.specs.declared.deck.Kind.{Kind}
use Rattle.ckr_jcl.specs.declared.deck.Kind.TheVariants.{Copy, Select, Merge, Master, Update, Print, Br14}
use Rattle.ckr_jcl.specs.declared.deck.Parm.{Parm}
use Rattle.ckr_jcl.specs.declared.deck.Role.{Role}
use Rattle.ckr_jcl.specs.declared.deck.Role.TheVariants.{Reads, Writes, Updates, Checkpoints, Unused}
use Rattle.ckr_jcl.specs.Programs.{is_checkpointed_by, is_read_by, is_updated_by, is_written_by, names_written, role_of}
use Rattle.ckr_library.specs.NameMaps.{Name, same_name}
use Rattle.ckr_library.proofs.Named.{name-equivalence, name-same}
use Rattle.ckr_match.specs.Work as matched
use Rattle.ckr_match.specs.Master.{write_to}
use Rattle.ckr_match.specs.State.{has_two_inputs}
use Rattle.ckr_match.specs.InputOrder.{Keys, Taken}
use Rattle.ckr_meaning.specs.Allotments.{is_output}
use Rattle.ckr_meaning.specs.EffectiveJob.{OwnedStep, is_among, name_of, names_of}
use Rattle.ckr_meaning.specs.Program.{ProgramCase, OutputRoom, fitting, room_behind, work, work_by, work_within}
use Rattle.ckr_meaning.specs.StepRun.{StepStart, case_at, dd_named, output_dd, output_name, rejects_dd, room_at, set_name, work_at}
use Rattle.ckr_programs.specs.Work as plain
use Rattle.ckr_points.specs.Payload.{has_role, is_formed_step, is_in_place, role_number}
use Rattle.ckr_points_library.specs.Commit.{output_names}
use Rattle.ckr_points_invariant.proofs.Library.Entries.{among-filter_map, is_name}

-- whether a step may change the records of a DD
abbrev pub changes_records : Role → Bool
changes_records Reads = false
changes_records Writes = true
changes_records Updates = true
changes_records Checkpoints = true
changes_records Unused = false

-- whether a program has the output
abbrev pub is_right : Kind → Output → Bool
is_right program Main = true
is_right program Rejects = list_any (same_name rejects_dd) (names_written program)
is_right program (InPlace place) = true

-- ---- the programs

all_main : (program : Kind) (images : List (List ℕ)) → list_all (λ write. is_right program write.output) (map plain.to_main images) ≡ true
all_main program [] = refl
all_main program (image ∷ images) = all_main program images

all_main-append : (program : Kind) (one other : List (List ℕ)) → list_all (λ write. is_right program write.output) (map plain.to_main one ++ map plain.to_main other) ≡ true
all_main-append program [] other = all_main program other
all_main-append program (image ∷ images) other = all_main-append program images other

plain_right : (program : Kind) (parm : Parm) (taken : List (List ℕ)) (closed : Bool) → list_all (λ write. is_right program write.output) (plain.prog_writes program parm taken closed) ≡ true
unfolding plain.prog_writes
plain_right program parm taken false = all_main program (plain.images_for program parm taken)
plain_right program parm taken true = all_main-append program (plain.images_for program parm taken) (plain.closing_images program parm (plain.sum_of program parm taken))

anything_right : (program : Kind) → ((output : Output) → is_right program output ≡ true) → (writes : List Write) → list_all (λ write. is_right program write.output) writes ≡ true
anything_right program right [] = refl
anything_right program right (write ∷ writes) = ap (λ b. b && list_all (λ write. is_right program write.output) writes) (right write.output) ∙ anything_right program right writes

with_rejects : (program : Kind) → list_any (same_name rejects_dd) (names_written program) ≡ true → (output : Output) → is_right program output ≡ true
with_rejects program has Main = refl
with_rejects program has Rejects = has
with_rejects program has (InPlace place) = refl

all_bytes : (taken : List Taken) → list_all (λ write. is_right Merge write.output) (map (λ one. write_to Main one.bytes) taken) ≡ true
all_bytes [] = refl
all_bytes (one ∷ taken) = all_bytes taken

matched_right : (program : Kind) (keys : Keys) (taken : List Taken) (closed : Bool) → list_all (λ write. is_right program write.output) (matched.match_writes program keys taken closed) ≡ true
unfolding matched.match_writes
matched_right Copy keys taken closed = refl
matched_right Select keys taken closed = refl
matched_right Merge keys taken closed = all_bytes taken
matched_right Master keys taken closed = anything_right Master (with_rejects Master refl) (matched.match_writes Master keys taken closed)
matched_right Update keys taken closed = anything_right Update (with_rejects Update refl) (matched.match_writes Update keys taken closed)
matched_right Print keys taken closed = refl
matched_right Br14 keys taken closed = refl

by_right : (two : Bool) (case : ProgramCase) → list_all (λ write. is_right case.program write.output) (work_by two case).writes ≡ true
by_right false case = plain_right case.program case.parm _ _
by_right true case = matched_right case.program _ _ _

work_right : (case : ProgramCase) → list_all (λ write. is_right case.program write.output) (work case).writes ≡ true
unfolding work
work_right case = by_right (has_two_inputs case.program) case

fitting_right : (all : Write → Bool) (writes : List Write) (room : OutputRoom) → list_all all writes ≡ true → list_all all (fitting writes room) ≡ true
fitting_right all [] room each = refl
fitting_right all (write ∷ writes) room each =
    by (λ left. fitting_right all writes left (and-second (all write) (list_all all writes) each)) (room_behind write.output room)
  where
    by : ((left : OutputRoom) → list_all all (fitting writes left) ≡ true) → (left : Option OutputRoom) → list_all all (option_map_or (λ left. write ∷ fitting writes left) left []) ≡ true
    by rest None = refl
    by rest (Some left) = ap (λ b. b && list_all all (fitting writes left)) (and-first (all write) (list_all all writes) each) ∙ rest left

-- each write of a step goes to an output that its program has
pub work_at-right : (start : StepStart) → list_all (λ write. is_right start.owned.step.program write.output) (work_at start).writes ≡ true
unfolding work_at work_within case_at
work_at-right start = fitting_right (λ write. is_right start.owned.step.program write.output) (work (case_at start)).writes (room_at start) (work_right (case_at start))

-- ---- roles

role_right : (program : Kind) (output : Output) (dd : Name) → is_right program output ≡ true → is_in_place output ≡ false → output_dd program output ≡ Some dd → is_output (role_of program dd) ≡ true
unfolding role_of is_read_by is_written_by is_updated_by is_checkpointed_by
role_right Copy Main dd right kept e = subst (λ d. is_output (role_of Copy d) ≡ true) (same_Some _ dd e) refl
role_right Select Main dd right kept e = subst (λ d. is_output (role_of Select d) ≡ true) (same_Some _ dd e) refl
role_right Merge Main dd right kept e = subst (λ d. is_output (role_of Merge d) ≡ true) (same_Some _ dd e) refl
role_right Master Main dd right kept e = subst (λ d. is_output (role_of Master d) ≡ true) (same_Some _ dd e) refl
role_right Update Main dd right kept e = absurd (some-not-none dd (sym e))
role_right Print Main dd right kept e = subst (λ d. is_output (role_of Print d) ≡ true) (same_Some _ dd e) refl
role_right Br14 Main dd right kept e = absurd (some-not-none dd (sym e))
role_right Copy Rejects dd right kept e = absurd (false≢true right)
role_right Select Rejects dd right kept e = absurd (false≢true right)
role_right Merge Rejects dd right kept e = absurd (false≢true right)
role_right Master Rejects dd right kept e = subst (λ d. is_output (role_of Master d) ≡ true) (same_Some _ dd e) refl
role_right Update Rejects dd right kept e = subst (λ d. is_output (role_of Update d) ≡ true) (same_Some _ dd e) refl
role_right Print Rejects dd right kept e = absurd (false≢true right)
role_right Br14 Rejects dd right kept e = absurd (false≢true right)
role_right program (InPlace place) dd right kept e = absurd (false≢true (sym kept))

role_is : (one other : Role) → (role_number one == role_number other) ≡ true → one ≡ other
role_is Reads Reads e = refl
role_is Reads Writes e = absurd (false≢true e)
role_is Reads Updates e = absurd (false≢true e)
role_is Reads Checkpoints e = absurd (false≢true e)
role_is Reads Unused e = absurd (false≢true e)
role_is Writes Reads e = absurd (false≢true e)
role_is Writes Writes e = refl
role_is Writes Updates e = absurd (false≢true e)
role_is Writes Checkpoints e = absurd (false≢true e)
role_is Writes Unused e = absurd (false≢true e)
role_is Updates Reads e = absurd (false≢true e)
role_is Updates Writes e = absurd (false≢true e)
role_is Updates Updates e = refl
role_is Updates Checkpoints e = absurd (false≢true e)
role_is Updates Unused e = absurd (false≢true e)
role_is Checkpoints Reads e = absurd (false≢true e)
role_is Checkpoints Writes e = absurd (false≢true e)
role_is Checkpoints Updates e = absurd (false≢true e)
role_is Checkpoints Checkpoints e = refl
role_is Checkpoints Unused e = absurd (false≢true e)
role_is Unused Reads e = absurd (false≢true e)
role_is Unused Writes e = absurd (false≢true e)
role_is Unused Updates e = absurd (false≢true e)
role_is Unused Checkpoints e = absurd (false≢true e)
role_is Unused Unused e = refl

pub dd_role : (program : Kind) (dd : Dd) → has_role program dd ≡ true → dd.role ≡ role_of program dd.name
dd_role program dd has = role_is dd.role (role_of program dd.name) (and-first (role_number dd.role == role_number (role_of program dd.name)) _ has)

-- the DD to which a write goes
pub record IsTarget (start : StepStart) (output : Output) (name : Name) (dd : Dd) : Type 0 where
  pub dd_name : Name
  pub named : output_dd start.owned.step.program output ≡ Some dd_name
  pub found : dd_named start.owned dd_name ≡ Some dd
  pub has : name_of start.root start.owned dd ≡ Some name

pub target : (start : StepStart) (output : Output) (name : Name) → output_name start output ≡ Some name → (dd : Dd) × IsTarget start output name dd
unfolding output_name
target start output name e =
    let one = and_then-some (set_name start) (output_dd start.owned.step.program output) name e in
    let other = and_then-some (name_of start.root start.owned) (dd_named start.owned one.0) name one.2 in
    (other.0, record { dd_name = one.0; named = one.1; found = other.1; has = other.2 })

pub formed-roles : (root : ℕ) (owned : OwnedStep) → is_formed_step root owned ≡ true → list_all (has_role owned.step.program) owned.step.dds ≡ true
formed-roles root owned formed =
    and-second (are_distinct (names_of root owned)) _ (and-first (are_distinct (names_of root owned) && list_all (has_role owned.step.program) owned.step.dds) _ formed)

-- an output takes the record, if it isn't a rewrite
pub target-output : (start : StepStart) (output : Output) (name : Name) (dd : Dd) → is_formed_step start.root start.owned ≡ true → is_right start.owned.step.program output ≡ true → is_in_place output ≡ false → IsTarget start output name dd → is_output dd.role ≡ true
target-output start output name dd formed right kept t =
    ap is_output (dd_role start.owned.step.program dd (find-all (has_role start.owned.step.program) _ start.owned.step.dds dd (formed-roles start.root start.owned formed) t.found))
    ∙ ap (λ n. is_output (role_of start.owned.step.program n)) (sym (name-same t.dd_name dd.name (find-passes (λ one. same_name t.dd_name one.name) start.owned.step.dds dd t.found)))
    ∙ role_right start.owned.step.program output t.dd_name right kept t.named

pub target-among : (start : StepStart) (output : Output) (name : Name) (dd : Dd) → is_formed_step start.root start.owned ≡ true → is_right start.owned.step.program output ≡ true → is_in_place output ≡ false → IsTarget start output name dd → is_among (output_names start.root start.owned) name ≡ true
target-among start output name dd formed right kept t =
    among-filter_map (name_of start.root start.owned) (filter (λ one. is_output one.role) start.owned.step.dds) name
    ∙ any-filter (λ one. is_output one.role) (λ one. is_name name (name_of start.root start.owned one)) start.owned.step.dds
    ∙ find-any _ (λ one. is_output one.role && is_name name (name_of start.root start.owned one)) start.owned.step.dds dd t.found
    (ap (λ b. b && is_name name (name_of start.root start.owned dd)) (target-output start output name dd formed right kept t)
    ∙ ap (is_name name) t.has ∙ name-equivalence.refl name)

changing : (role : Role) → is_output role ≡ true → changes_records role ≡ true
changing Reads e = absurd (false≢true e)
changing Writes e = refl
changing Updates e = absurd (false≢true e)
changing Checkpoints e = refl
changing Unused e = absurd (false≢true e)

role_changes : (program : Kind) (output : Output) (dd : Name) → is_right program output ≡ true → output_dd program output ≡ Some dd → changes_records (role_of program dd) ≡ true
unfolding role_of is_read_by is_written_by is_updated_by is_checkpointed_by
role_changes program Main dd right e = changing (role_of program dd) (role_right program Main dd right refl e)
role_changes program Rejects dd right e = changing (role_of program dd) (role_right program Rejects dd right refl e)
role_changes Update (InPlace place) dd right e = subst (λ d. changes_records (role_of Update d) ≡ true) (same_Some _ dd e) refl
role_changes Copy (InPlace place) dd right e = absurd (some-not-none dd (sym e))
role_changes Select (InPlace place) dd right e = absurd (some-not-none dd (sym e))
role_changes Merge (InPlace place) dd right e = absurd (some-not-none dd (sym e))
role_changes Master (InPlace place) dd right e = absurd (some-not-none dd (sym e))
role_changes Print (InPlace place) dd right e = absurd (some-not-none dd (sym e))
role_changes Br14 (InPlace place) dd right e = absurd (some-not-none dd (sym e))

-- the DD to which a write goes may change its records
pub target-changes : (start : StepStart) (output : Output) (name : Name) (dd : Dd) → is_formed_step start.root start.owned ≡ true → is_right start.owned.step.program output ≡ true → IsTarget start output name dd → changes_records dd.role ≡ true
target-changes start output name dd formed right t =
    ap changes_records (dd_role start.owned.step.program dd (find-all (has_role start.owned.step.program) _ start.owned.step.dds dd (formed-roles start.root start.owned formed) t.found))
    ∙ ap (λ n. changes_records (role_of start.owned.step.program n)) (sym (name-same t.dd_name dd.name (find-passes (λ one. same_name t.dd_name one.name) start.owned.step.dds dd t.found)))
    ∙ role_changes start.owned.step.program output t.dd_name right t.named

-- it has a name of the step
pub target-named : (start : StepStart) (output : Output) (name : Name) (dd : Dd) → IsTarget start output name dd → is_among (names_of start.root start.owned) name ≡ true
target-named start output name dd t =
    among-filter_map (name_of start.root start.owned) start.owned.step.dds name
    ∙ find-any _ (λ one. is_name name (name_of start.root start.owned one)) start.owned.step.dds dd t.found (ap (is_name name) t.has ∙ name-equivalence.refl name)
