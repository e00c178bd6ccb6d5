-- Only a record of the second input is rejected.
use Rattle.std.proofs.Common.{◌≤◌, ℕ, Bool, true, false, cond, if◌then◌else◌, eqb, List, [], ◌∷◌, ◌++◌, map, Option, Some, None, arith}
use Rattle.ckr_base.specs.declared.code.Code.TheVariants.{User}
use Rattle.ckr_base.specs.declared.programs.Finish.TheVariants.{Abend}
use Rattle.ckr_base.specs.declared.programs.Output.TheVariants.{Rejects}
use Rattle.ckr_base.specs.declared.programs.UnitDone.{UnitDone}
use Rattle.ckr_jcl.specs.declared.deck.Kind.{Kind}
use Rattle.ckr_jcl.specs.declared.deck.Kind.TheVariants.{Copy, Select, Merge, Master, Update, Print, Br14}
use Rattle.ckr_jcl.specs.declared.deck.Parm.{Parm}
use Rattle.ckr_match.specs.declared.state.MatchState.{MatchState}
use Rattle.ckr_match.specs.Images.{code_of}
use Rattle.ckr_match.specs.Master.{write_to, outcome_of, reject_if, write_held}
use Rattle.ckr_match.specs.Work.{write_at, rejects_in}
use Rattle.ckr_match.specs.Steps.{carried, released, place_by, step_of, is_next, key_at, input_number, record_unit}

held_and_reject : (held : Option (List ℕ)) (rejected : Bool) (bytes : List ℕ) → rejects_in (write_held held ++ map (write_to Rejects) (reject_if rejected bytes)) ≤ 1
held_and_reject None true bytes = omega arith
held_and_reject None false bytes = omega arith
held_and_reject (Some image) true bytes = omega arith
held_and_reject (Some image) false bytes = omega arith

held_alone : (held : Option (List ℕ)) → rejects_in (write_held held ++ []) ≤ 0
held_alone None = omega arith
held_alone (Some image) = omega arith

written_at : (place : Option ℕ) (bytes : List ℕ) → rejects_in (write_at place bytes ∷ []) ≤ 1
written_at None bytes = omega arith
written_at (Some place) bytes = omega arith

step_rejects : (program : Kind) (parm : Parm) (state : MatchState) (second : Bool) (bytes : List ℕ) → rejects_in (step_of program parm state second bytes).writes.items ≤ (if second then 1 else 0)
step_rejects Master parm state true bytes = held_and_reject (released parm true bytes state.held) (outcome_of true bytes (carried parm true bytes state.held)).rejected bytes
step_rejects Master parm state false bytes = held_alone state.held
step_rejects Update parm state true bytes = written_at (if eqb (code_of bytes) 67 then place_by parm bytes state.last else None) bytes
step_rejects Update parm state false bytes = omega arith
step_rejects Merge parm state true bytes = omega arith
step_rejects Merge parm state false bytes = omega arith
step_rejects Copy parm state true bytes = omega arith
step_rejects Copy parm state false bytes = omega arith
step_rejects Select parm state true bytes = omega arith
step_rejects Select parm state false bytes = omega arith
step_rejects Print parm state true bytes = omega arith
step_rejects Print parm state false bytes = omega arith
step_rejects Br14 parm state true bytes = omega arith
step_rejects Br14 parm state false bytes = omega arith

pub record_rejects : (parm : Parm) (state : MatchState) (second : Bool) (bytes : List ℕ) → rejects_in (record_unit parm state second bytes).writes.items ≤ (if eqb (record_unit parm state second bytes).taken 2 then 1 else 0)
record_rejects parm state second bytes = by (is_next state second (key_at parm state second bytes)) second (step_rejects state.kind parm state second bytes)
  where
    by : (b two : Bool) → rejects_in (step_of state.kind parm state second bytes).writes.items ≤ (if two then 1 else 0) → rejects_in (cond {A = UnitDone} b (record { taken = input_number two; writes = (step_of state.kind parm state second bytes).writes; finish = None }) (record { taken = 0; writes = record { items = [] }; finish = Some (Abend (User 101)) })).writes.items ≤ (if eqb (cond {A = UnitDone} b (record { taken = input_number two; writes = (step_of state.kind parm state second bytes).writes; finish = None }) (record { taken = 0; writes = record { items = [] }; finish = Some (Abend (User 101)) })).taken 2 then 1 else 0)
    by true true h = h
    by true false h = h
    by false two h = omega arith
