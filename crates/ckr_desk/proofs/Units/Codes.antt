-- The code with which a unit ends its step has a spelling.
use Rattle.std.proofs.Common.{◌≡◌, ℕ, Bool, true, false, cond, List, subst, sym, Option, Some, None, arith}
use Rattle.std.specs.Option.{is_some}
use Rattle.ckr_base.specs.declared.programs.Finish.{Finish}
use Rattle.ckr_base.specs.declared.programs.Finish.TheVariants.{Returned, Abend}
use Rattle.ckr_base.specs.declared.programs.Heads.{Heads}
use Rattle.ckr_base.specs.declared.programs.UnitDone.{UnitDone}
use Rattle.ckr_entry.specs.declared.point.State.{State}
use Rattle.ckr_entry.specs.declared.point.State.TheVariants.{Plain, Matched}
use Rattle.ckr_jcl.specs.declared.deck.Parm.{Parm}
use Rattle.ckr_desk_refines.specs.Memory.Plans.{IsWorkedCode}
use Rattle.ckr_library.specs.Catalog.{Catalog}
use Rattle.ckr_match.specs.declared.state.MatchState.{MatchState}
use Rattle.ckr_match.specs.Steps as matched
use Rattle.ckr_match.specs.InputOrder.{Taken, chosen}
use Rattle.ckr_match.specs.Images.{keys_of}
use Rattle.ckr_meaning.specs.Program.{room_after}
use Rattle.ckr_programs.specs.declared.state.ProgState.{ProgState}
use Rattle.ckr_programs.specs.Records.{can_take}
use Rattle.ckr_programs.specs.Steps as plain
use Rattle.ckr_steps.specs.declared.step_run.StepRun.{StepRun}
use Rattle.ckr_steps.specs.declared.step_run.Worked.{Worked}
use Rattle.ckr_steps.specs.StepUnit.{unit_for, worked_for, writes_for}
use Rattle.ckr_steps.specs.Units.{state_of, taken_of, unit_of}
use Rattle.ckr_steps.specs.Writes.{answer_of, rewrite_of, room_of, worked_by}
use Rattle.ckr_desk_turn.specs.Spelling.{IsCode}

abbrev IsCoded : Option Finish → Type 0
IsCoded None = Unit {0}
IsCoded (Some (Returned rc)) = Unit {0}
IsCoded (Some (Abend code)) = IsCode code

abbrev HasCodedFinish : UnitDone → Type 0
HasCodedFinish done = IsCoded done.finish

if-coded : (b : Bool) (one two : UnitDone) → HasCodedFinish one → HasCodedFinish two → HasCodedFinish (cond b one two)
if-coded true one two first second = first
if-coded false one two first second = second

plain-coded : (parm : Parm) (state : ProgState) (head : Option (List ℕ)) → HasCodedFinish (plain.unit_of parm state head)
unfolding plain.unit_of
plain-coded parm state None = tt
plain-coded parm state (Some bytes) = if-coded (can_take state.kind parm bytes) _ _ tt (omega arith)

taken-coded : (parm : Parm) (state : MatchState) (next : Option Taken) → HasCodedFinish (matched.unit_for parm state next)
taken-coded parm state None = tt
taken-coded parm state (Some next) = if-coded (matched.is_next state next.second (matched.key_at parm state next.second next.bytes)) _ _ tt (omega arith)

matched-coded : (parm : Parm) (state : MatchState) (heads : Heads) → HasCodedFinish (matched.unit_of parm state heads)
unfolding matched.unit_of
matched-coded parm state heads = taken-coded parm state (chosen (keys_of state.kind parm) heads.first heads.second)

unit-coded : (parm : Parm) (state : State) (heads : Heads) → HasCodedFinish (unit_of parm state heads)
unfolding unit_of
unit-coded parm (Plain state) heads = plain-coded parm state heads.first
unit-coded parm (Matched state) heads = matched-coded parm state heads

by-coded : (taken : ℕ) (rewrite : Option (ℕ × List ℕ)) (fits : Bool) (finish : Option Finish) → IsCoded finish → IsWorkedCode (worked_by taken rewrite fits finish)
by-coded taken (Some rewrite) fits finish coded = tt
by-coded taken None false finish coded = omega arith
by-coded taken None true None coded = tt
by-coded taken None true (Some (Returned rc)) coded = tt
by-coded taken None true (Some (Abend code)) coded = coded

pub worked-coded : (library : Catalog) (step : StepRun) (heads : Heads) → IsWorkedCode (worked_for library step heads)
unfolding worked_for answer_of
worked-coded library step heads =
    by-coded (taken_of (state_of step.parm step.state heads)) (rewrite_of library step.files (writes_for step heads))
    (is_some (room_after (writes_for step heads) (room_of library step.files))) (unit_for step heads).finish (unit-coded step.parm step.state heads)

pub so-coded : (library : Catalog) (step : StepRun) (heads : Heads) (worked : Worked) → worked ≡ worked_for library step heads → IsWorkedCode worked
so-coded library step heads worked is = subst IsWorkedCode (sym is) (worked-coded library step heads)
