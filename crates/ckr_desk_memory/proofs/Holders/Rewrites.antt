-- A unit that asks for a rewrite in place is one of UPDATE, and the rewrite is in what its step updates.
use Rattle.std.proofs.Common.{◌≡◌, ℕ, Bool, true, false, cond, List, [], ◌∷◌, ◌++◌, map, length, refl, ap, sym, ◌∙◌, subst, Option, Some, None}
use Rattle.std.specs.Prelude.{nat_lt, option_and_then}
use Rattle.std.proofs.lemmas.Bool.{false≢true}
use Rattle.std.proofs.lemmas.Option.{same_Some}
use Rattle.ckr_base.proofs.Options.{some-not-none}
use Rattle.ckr_base.proofs.Sequences.{length-fitted}
use Rattle.ckr_base.specs.Columns.{fitted}
use Rattle.ckr_base.specs.declared.programs.Finish.{Finish}
use Rattle.ckr_base.specs.declared.programs.Finish.TheVariants as Finishes
use Rattle.ckr_base.specs.declared.programs.Heads.{Heads}
use Rattle.ckr_base.specs.declared.programs.Output.{Output}
use Rattle.ckr_base.specs.declared.programs.Output.TheVariants.{InPlace, Main, Rejects}
use Rattle.ckr_base.specs.declared.programs.UnitDone.{UnitDone}
use Rattle.ckr_base.specs.declared.programs.Write.{Write}
use Rattle.ckr_entry.specs.declared.point.State.{State}
use Rattle.ckr_entry.specs.declared.point.State.TheVariants.{Matched, Plain}
use Rattle.ckr_jcl.specs.declared.deck.Kind.{Kind}
use Rattle.ckr_jcl.specs.declared.deck.Kind.TheVariants.{Br14, Copy, Master, Merge, Print, Select, Update}
use Rattle.ckr_jcl.specs.declared.deck.Parm.{Parm}
use Rattle.ckr_library.specs.Catalog.{Catalog, set_of}
use Rattle.ckr_library.specs.declared.sets.DataSet.{DataSet}
use Rattle.ckr_match.specs.Images.{keys_of}
use Rattle.ckr_match.specs.InputOrder.{Taken, chosen}
use Rattle.ckr_match.specs.Master.{write_held, write_to}
use Rattle.ckr_match.specs.Steps as matched_steps
use Rattle.ckr_match.specs.declared.state.MatchState.{MatchState}
use Rattle.ckr_points.specs.Follows.{is_update}
use Rattle.ckr_programs.specs.Records.{can_take}
use Rattle.ckr_programs.specs.Steps as plain_steps
use Rattle.ckr_programs.specs.Work.{to_main}
use Rattle.ckr_programs.specs.declared.state.ProgState.{ProgState}
use Rattle.ckr_desk_plans.specs.Model.Files.{set_of_source}
use Rattle.ckr_desk_plans.specs.Model.StepUnit.{done_for, worked_for, writes_for}
use Rattle.ckr_desk_plans.specs.Model.Units.{program_of, unit_of}
use Rattle.ckr_meaning.specs.Program.{fitting}
use Rattle.ckr_desk_plans.specs.Model.Writes.{answer_of, rewrite_first, rewrite_in, rewrite_of, worked_by, done_of, done_unless, room_of}
use Rattle.ckr_desk_plans.specs.StepTypes.StepRun.{StepRun}
use Rattle.ckr_desk_plans.specs.StepTypes.Worked.{Worked}
use Rattle.ckr_desk_plans.specs.StepTypes.Worked.TheVariants.{Abend, Rewrite, Went}

-- ---- the program

abbrev is_in_place : Output → Bool
is_in_place Main = false
is_in_place Rejects = false
is_in_place (InPlace place) = true

-- whether the first of some writes is a rewrite
abbrev begins_in_place : List Write → Bool
begins_in_place [] = false
begins_in_place (write ∷ writes) = is_in_place write.output

mapped_to : (output : Output) → is_in_place output ≡ false → (images : List (List ℕ)) → begins_in_place (map (write_to output) images) ≡ false
mapped_to output out [] = refl
mapped_to output out (image ∷ images) = out

mapped_main : (images : List (List ℕ)) → begins_in_place (map to_main images) ≡ false
mapped_main [] = refl
mapped_main (image ∷ images) = refl

plain_none : (parm : Parm) (state : ProgState) (head : Option (List ℕ)) → begins_in_place (plain_steps.unit_of parm state head).writes.items ≡ false
unfolding plain_steps.unit_of
plain_none parm state None = mapped_main _
plain_none parm state (Some bytes) = by (can_take state.kind parm bytes) _ _ (mapped_main _) refl
  where
    by : (can : Bool) (one other : UnitDone) → begins_in_place one.writes.items ≡ false → begins_in_place other.writes.items ≡ false → begins_in_place (cond can one other).writes.items ≡ false
    by true one other e f = e
    by false one other e f = f

held_none : (held : Option (List ℕ)) (rest : List Write) → begins_in_place rest ≡ false → begins_in_place (write_held held ++ rest) ≡ false
held_none None rest e = e
held_none (Some image) rest e = refl

closing_none : (state : MatchState) → begins_in_place (matched_steps.closing_writes state) ≡ false
closing_none state = by (matched_steps.is_master state.kind) state.held
  where
    by : (master : Bool) (held : Option (List ℕ)) → begins_in_place (cond master (write_held held) []) ≡ false
    by true None = refl
    by true (Some image) = refl
    by false held = refl

step_none : (kind : Kind) (parm : Parm) (state : MatchState) (second : Bool) (bytes : List ℕ) → begins_in_place (matched_steps.step_of kind parm state second bytes).writes.items ≡ true → is_update kind ≡ true
step_none Merge parm state second bytes e = absurd (false≢true e)
step_none Master parm state second bytes e =
    absurd (false≢true (sym (held_none (matched_steps.released parm second bytes state.held) _ (mapped_to Rejects refl _)) ∙ e))
step_none Update parm state second bytes e = refl
step_none Copy parm state second bytes e = absurd (false≢true e)
step_none Select parm state second bytes e = absurd (false≢true e)
step_none Print parm state second bytes e = absurd (false≢true e)
step_none Br14 parm state second bytes e = absurd (false≢true e)

matched_none : (parm : Parm) (state : MatchState) (heads : Heads) → begins_in_place (matched_steps.unit_of parm state heads).writes.items ≡ true → is_update state.kind ≡ true
unfolding matched_steps.unit_of
matched_none parm state heads e = by (chosen (keys_of state.kind parm) heads.first heads.second) e
  where
    either : (next second : Bool) (bytes : List ℕ) (other : UnitDone) → begins_in_place other.writes.items ≡ false → (taken : ℕ) (finish : Option Finish)
        → begins_in_place (cond next (record { taken = taken; writes = (matched_steps.step_of state.kind parm state second bytes).writes; finish = finish }) other).writes.items ≡ true → is_update state.kind ≡ true
    either true second bytes other none taken finish e = step_none state.kind parm state second bytes e
    either false second bytes other none taken finish e = absurd (false≢true (sym none ∙ e))

    by : (next : Option Taken) → begins_in_place (matched_steps.unit_for parm state next).writes.items ≡ true → is_update state.kind ≡ true
    by None e = absurd (false≢true (sym (closing_none state) ∙ e))
    by (Some next) e = either (matched_steps.is_next state next.second (matched_steps.key_at parm state next.second next.bytes)) next.second next.bytes _ refl _ _ e

unit_updates : (parm : Parm) (state : State) (heads : Heads) → begins_in_place (unit_of parm state heads).writes.items ≡ true → is_update (program_of state) ≡ true
unfolding unit_of
unit_updates parm (Plain state) heads e = absurd (false≢true (sym (plain_none parm state heads.first) ∙ e))
unit_updates parm (Matched state) heads e = matched_none parm state heads e

-- ---- the rewrite

-- what a rewrite in place of a data set is
pub record IsRewriteIn (set : DataSet) (place : ℕ) (image : List ℕ) : Type 0 where
  pub below : nat_lt place set.length ≡ true
  pub long : length image ≡ set.lrecl

abbrev pub FirstRewrite : Option DataSet → List Write → ℕ → List ℕ → Type 0
FirstRewrite set writes place image = (begins_in_place writes ≡ true) × (one : DataSet) × (set ≡ Some one) × IsRewriteIn one place image

rewrite_is : (set : Option DataSet) (writes : List Write) (at : ℕ × List ℕ) → rewrite_first set writes ≡ Some at → FirstRewrite set writes at.0 at.1
rewrite_is set [] at e = absurd (some-not-none at (sym e))
rewrite_is set (write ∷ writes) at e = by set write.output e
  where
    at_place : (one : DataSet) (place : ℕ) (below : Bool) → nat_lt place one.length ≡ below → cond below (Some (place, fitted one.lrecl write.image)) None ≡ Some at → IsRewriteIn one at.0 at.1
    at_place one place true is e =
        subst (λ (at : ℕ × List ℕ). IsRewriteIn one at.0 at.1) (same_Some _ at e) (record { below = is; long = length-fitted write.image one.lrecl })
    at_place one place false is e = absurd (some-not-none at (sym e))

    by : (set : Option DataSet) (output : Output) → rewrite_in set output write.image ≡ Some at → (is_in_place output ≡ true) × (one : DataSet) × (set ≡ Some one) × IsRewriteIn one at.0 at.1
    by None Main e = absurd (some-not-none at (sym e))
    by None Rejects e = absurd (some-not-none at (sym e))
    by None (InPlace place) e = absurd (some-not-none at (sym e))
    by (Some one) Main e = absurd (some-not-none at (sym e))
    by (Some one) Rejects e = absurd (some-not-none at (sym e))
    by (Some one) (InPlace place) e = (refl, one, refl, at_place one place (nat_lt place one.length) refl e)

abbrev place_in : Worked → ℕ
place_in (Went taken) = 0
place_in (Rewrite place image taken) = place
place_in (Abend code) = 0

abbrev image_in : Worked → List ℕ
image_in (Went taken) = []
image_in (Rewrite place image taken) = image
image_in (Abend code) = []

abbrev is_asked : Worked → Bool
is_asked (Went taken) = false
is_asked (Rewrite place image taken) = true
is_asked (Abend code) = false

not_asked : (taken : ℕ) (fits : Bool) (finish : Option Finish) → is_asked (worked_by taken None fits finish) ≡ false
not_asked taken false finish = refl
not_asked taken true None = refl
not_asked taken true (Some (Finishes.Returned rc)) = refl
not_asked taken true (Some (Finishes.Abend code)) = refl

asked_rewrite : (taken : ℕ) (rewrite : Option (ℕ × List ℕ)) (fits : Bool) (finish : Option Finish) (place : ℕ) (image : List ℕ) (told : ℕ) → worked_by taken rewrite fits finish ≡ Rewrite place image told → (at : ℕ × List ℕ) × (rewrite ≡ Some at) × (at.0 ≡ place) × (at.1 ≡ image)
asked_rewrite taken None fits finish place image told e = absurd (false≢true (sym (not_asked taken fits finish) ∙ ap is_asked e))
asked_rewrite taken (Some at) fits finish place image told e = (at, refl, ap place_in e, ap image_in e)

-- a unit that asks for a rewrite in place
pub record AsksForRewrite (catalog : Catalog) (step : StepRun) (place : ℕ) (image : List ℕ) : Type 0 where
  pub updates : is_update (program_of step.state) ≡ true
  pub set : DataSet
  pub found : option_and_then (set_of catalog) (set_of_source step.files.first) ≡ Some set
  pub rewrites : IsRewriteIn set place image

pub rewrite-asked : (catalog : Catalog) (step : StepRun) (heads : Heads) (place : ℕ) (image : List ℕ) (taken : ℕ) → worked_for catalog step heads ≡ Rewrite place image taken → AsksForRewrite catalog step place image
unfolding worked_for answer_of rewrite_of
rewrite-asked catalog step heads place image taken e =
    let asked = asked_rewrite _ (rewrite_of catalog step.files (writes_for step heads)) _ _ place image taken e in
    let first = rewrite_is (option_and_then (set_of catalog) (set_of_source step.files.first)) (writes_for step heads) asked.0 asked.1 in
    record {
      updates = unit_updates step.parm step.state heads first.0;
      set = first.1;
      found = first.2;
      rewrites = subst (λ n. IsRewriteIn first.1 n image) asked.2 (subst (IsRewriteIn first.1 asked.0.0) asked.3 first.3);
    }

-- before it nothing is written
pub nothing-before : (catalog : Catalog) (step : StepRun) (heads : Heads) (place : ℕ) (image : List ℕ) (taken : ℕ) → worked_for catalog step heads ≡ Rewrite place image taken → done_for catalog step heads ≡ []
unfolding worked_for answer_of done_for done_of
nothing-before catalog step heads place image taken e =
    let asked = asked_rewrite _ (rewrite_of catalog step.files (writes_for step heads)) _ _ place image taken e in
    ap (λ (rewrite : Option (ℕ × List ℕ)). done_unless rewrite (fitting (writes_for step heads) (room_of catalog step.files))) asked.1
