-- Whether what is due at a count of records is served: nothing is at a new count, and then the checkpoint, and the cancel.
use Rattle.std.proofs.Common.{◌≡◌, ℕ, Bool, true, false, List, Option, None, Some, cond, refl, ap, sym, ◌∙◌}
use Rattle.ckr_base.specs.declared.code.Code.TheVariants.{System, User}
use Rattle.ckr_base.specs.declared.programs.Finish.{Finish}
use Rattle.ckr_base.specs.declared.programs.Finish.TheVariants as Finishes
use Rattle.ckr_base.specs.declared.programs.Heads.{Heads}
use Rattle.ckr_base.specs.declared.programs.NextDue.{NextDue}
use Rattle.ckr_base.specs.declared.programs.NextDue.TheVariants.{Checkpoint, Cancel}
use Rattle.ckr_base.specs.declared.programs.UnitDone.{UnitDone}
use Rattle.ckr_entry.specs.declared.point.State.{State}
use Rattle.ckr_entry.specs.declared.point.State.TheVariants.{Plain, Matched}
use Rattle.ckr_jcl.specs.declared.deck.Kind.{Kind}
use Rattle.ckr_jcl.specs.declared.deck.Parm.{Parm}
use Rattle.ckr_match.specs.Images.{keys_of}
use Rattle.ckr_match.specs.InputOrder.{Taken, chosen}
use Rattle.ckr_match.specs.State as matched
use Rattle.ckr_match.specs.Steps as matched_steps
use Rattle.ckr_match.specs.declared.state.MatchState.{MatchState}
use Rattle.ckr_match.specs.declared.steps.RecordStep.{RecordStep}
use Rattle.ckr_programs.specs.Records.{can_take}
use Rattle.ckr_programs.specs.State as plain
use Rattle.ckr_programs.specs.Steps as plain_steps
use Rattle.ckr_programs.specs.declared.state.ProgState.{ProgState}
use Rattle.ckr_steps.specs.Units.{AreServed, due_of, first_state, is_cancelled, is_checkpointed, served_of, state_for, state_of, unit_of}
use Rattle.ckr_steps.proofs.NextUnits.{not_returned as abend-not}

ended_not : (finish : Finish) → Some finish ≡ None → ⊥
ended_not finish e = cc

-- a unit that goes on takes a record
pub unit-fresh : (parm : Parm) (state : State) (heads : Heads) → (unit_of parm state heads).finish ≡ None → AreServed false false (state_of parm state heads)
unfolding state_of unit_of plain_steps.unit_of plain_steps.state_of matched_steps.unit_of matched_steps.state_of
unit-fresh parm (Plain state) heads goes = by heads.first goes
  where
    by_take : (can : Bool) (taking stuck : UnitDone) (n : ProgState) → n.checkpointed ≡ false → n.cancelled ≡ false → stuck.finish ≡ Some (Finishes.Abend (System 199))
        → (cond can taking stuck).finish ≡ None → AreServed false false (Plain (cond can n state))
    by_take true taking stuck n checkpoint cancel other e = record { checkpoint = checkpoint; cancel = cancel }
    by_take false taking stuck n checkpoint cancel other e = absurd (ended_not (Finishes.Abend (System 199)) (sym other ∙ e))

    by : (head : Option (List ℕ)) → (plain_steps.unit_of parm state head).finish ≡ None → AreServed false false (Plain (plain_steps.state_of parm state head))
    by None e = absurd (ended_not (Finishes.Returned 0) e)
    by (Some bytes) e = by_take (can_take state.kind parm bytes) _ _ _ refl refl refl e
unit-fresh parm (Matched state) heads goes = by (chosen (keys_of state.kind parm) heads.first heads.second) goes
  where
    by_next : (is second : Bool) (key : List ℕ) (step : RecordStep) (taking stuck : UnitDone) → stuck.finish ≡ Some (Finishes.Abend (User 101))
        → (cond is taking stuck).finish ≡ None → AreServed false false (Matched (cond is (matched_steps.counted second key step state) state))
    by_next true true key step taking stuck other e = record { checkpoint = refl; cancel = refl }
    by_next true false key step taking stuck other e = record { checkpoint = refl; cancel = refl }
    by_next false second key step taking stuck other e = absurd (ended_not (Finishes.Abend (User 101)) (sym other ∙ e))

    by : (next : Option Taken) → (matched_steps.unit_for parm state next).finish ≡ None → AreServed false false (Matched (matched_steps.state_behind parm state next))
    by None e = absurd (ended_not (Finishes.Returned (matched.return_code state.rejects)) e)
    by (Some next) e =
        by_next (matched_steps.is_next state next.second (matched_steps.key_at parm state next.second next.bytes)) next.second (matched_steps.key_at parm state next.second next.bytes)
        (matched_steps.step_of state.kind parm state next.second next.bytes) _ _ refl e

not_returned : (finish : Option Finish) (rc : ℕ) → finish ≡ None → finish ≡ Some (Finishes.Returned rc) → ⊥
not_returned finish rc none e = ended_not (Finishes.Returned rc) (sym e ∙ none)

-- the closing unit takes none
pub unit-closed : (parm : Parm) (state : State) (heads : Heads) (rc : ℕ) → (unit_of parm state heads).finish ≡ Some (Finishes.Returned rc)
    → AreServed (is_checkpointed state) (is_cancelled state) (state_of parm state heads)
unfolding state_of unit_of plain_steps.unit_of plain_steps.state_of matched_steps.unit_of matched_steps.state_of
unit-closed parm (Plain state) heads rc ends = by heads.first ends
  where
    by_take : (can : Bool) (taking stuck : UnitDone) (n : ProgState) → taking.finish ≡ None → stuck.finish ≡ Some (Finishes.Abend (System 199))
        → (cond can taking stuck).finish ≡ Some (Finishes.Returned rc) → AreServed state.checkpointed state.cancelled (Plain (cond can n state))
    by_take true taking stuck n none other e = absurd (not_returned taking.finish rc none e)
    by_take false taking stuck n none other e = absurd (abend-not (System 199) rc (sym other ∙ e))

    by : (head : Option (List ℕ)) → (plain_steps.unit_of parm state head).finish ≡ Some (Finishes.Returned rc) → AreServed state.checkpointed state.cancelled (Plain (plain_steps.state_of parm state head))
    by None e = record { checkpoint = refl; cancel = refl }
    by (Some bytes) e = by_take (can_take state.kind parm bytes) _ _ _ refl refl e
unit-closed parm (Matched state) heads rc ends = by (chosen (keys_of state.kind parm) heads.first heads.second) ends
  where
    by_next : (is : Bool) (taking stuck : UnitDone) (n : MatchState) → taking.finish ≡ None → stuck.finish ≡ Some (Finishes.Abend (User 101))
        → (cond is taking stuck).finish ≡ Some (Finishes.Returned rc) → AreServed state.checkpointed state.cancelled (Matched (cond is n state))
    by_next true taking stuck n none other e = absurd (not_returned taking.finish rc none e)
    by_next false taking stuck n none other e = absurd (abend-not (User 101) rc (sym other ∙ e))

    by : (next : Option Taken) → (matched_steps.unit_for parm state next).finish ≡ Some (Finishes.Returned rc) → AreServed state.checkpointed state.cancelled (Matched (matched_steps.state_behind parm state next))
    by None e = record { checkpoint = refl; cancel = refl }
    by (Some next) e = by_next (matched_steps.is_next state next.second (matched_steps.key_at parm state next.second next.bytes)) _ _ _ refl refl e

-- before the first record nothing is
pub first-fresh : (program : Kind) → AreServed false false (first_state program)
unfolding first_state
first-fresh program = by (matched.has_two_inputs program)
  where
    by : (two : Bool) → AreServed false false (state_for two program)
    by false = record { checkpoint = refl; cancel = refl }
    by true = record { checkpoint = refl; cancel = refl }

-- a checkpoint that was due is done, and the cancel stays as it is
pub checkpoint-served : (parm : Parm) (written : Bool) (state : State) → due_of parm state ≡ Checkpoint → AreServed true (is_cancelled state) (served_of parm written state)
unfolding due_of served_of
checkpoint-served parm written (Plain state) due = record {
  checkpoint = ap (λ (d : NextDue). (plain.served_state d written state).checkpointed) due;
  cancel = ap (λ (d : NextDue). (plain.served_state d written state).cancelled) due;
}
checkpoint-served parm written (Matched state) due = record {
  checkpoint = ap (λ (d : NextDue). (matched.served_state d written state).checkpointed) due;
  cancel = ap (λ (d : NextDue). (matched.served_state d written state).cancelled) due;
}

-- a cancel that was due is done, and the checkpoint stays as it is
pub cancel-served : (parm : Parm) (written : Bool) (state : State) → due_of parm state ≡ Cancel → AreServed (is_checkpointed state) true (served_of parm written state)
unfolding due_of served_of
cancel-served parm written (Plain state) due = record {
  checkpoint = ap (λ (d : NextDue). (plain.served_state d written state).checkpointed) due;
  cancel = ap (λ (d : NextDue). (plain.served_state d written state).cancelled) due;
}
cancel-served parm written (Matched state) due = record {
  checkpoint = ap (λ (d : NextDue). (matched.served_state d written state).checkpointed) due;
  cancel = ap (λ (d : NextDue). (matched.served_state d written state).cancelled) due;
}
