-- What the unit of a record and the closing unit do, from the state alone.
use Rattle.std.specs.Prelude.{ℕ, ◌+◌, ◌==◌, Bool, true, false, not, if◌then◌else◌, List, [], ◌∷◌, ◌++◌, map, drop, Option, None, Some}
use Rattle.ckr_base.specs.declared.code.Code.TheVariants.{User}
use Rattle.ckr_base.specs.declared.programs.Finish.TheVariants.{Returned, Abend}
use Rattle.ckr_base.specs.declared.programs.Heads.{Heads}
use Rattle.ckr_base.specs.declared.programs.Output.TheVariants.{Main, Rejects}
use Rattle.ckr_base.specs.declared.programs.UnitDone.{UnitDone}
use Rattle.ckr_base.specs.declared.programs.Write.{Write}
use Rattle.ckr_jcl.specs.declared.deck.Kind.{Kind}
use Rattle.ckr_jcl.specs.declared.deck.Kind.TheVariants.{Merge, Master, Update}
use Rattle.ckr_jcl.specs.declared.deck.Parm.{Parm}
use Rattle.ckr_match.specs.declared.state.MatchState.{MatchState}
use Rattle.ckr_match.specs.declared.steps.RecordStep.{RecordStep}
use Rattle.ckr_match.specs.InputOrder.{Taken, is_below, chosen}
use Rattle.ckr_match.specs.Images.{has_transactions, image_in, key_in, keys_of, same_bytes, code_of}
use Rattle.ckr_match.specs.State.{return_code}
use Rattle.ckr_match.specs.Master.{write_to, outcome_of, reject_if, write_held}
use Rattle.ckr_match.specs.Work.{write_at, rejects_in}

-- a held master of the transaction's key stays
abbrev pub carried : Parm → Bool → List ℕ → Option (List ℕ) → Option (List ℕ)
carried parm true bytes (Some held) = if same_bytes (key_in parm held) (key_in parm (drop 1 bytes)) then Some held else None
carried parm _ bytes _ = None

-- a held master of another key, and before a master the held one, is written
abbrev pub released : Parm → Bool → List ℕ → Option (List ℕ) → Option (List ℕ)
released parm true bytes (Some held) = if same_bytes (key_in parm held) (key_in parm (drop 1 bytes)) then None else Some held
released parm true bytes None = None
released parm false bytes held = held

abbrev pub master_step : Parm → MatchState → Bool → List ℕ → RecordStep
master_step parm state second bytes =
    let next = outcome_of second bytes (carried parm second bytes state.held) in
    record {
      writes = record { items = write_held (released parm second bytes state.held) ++ map (write_to Rejects) (reject_if next.rejected bytes) };
      held = next.held;
      last = state.last;
    }

-- the place of the last master, where it has the transaction's key
abbrev pub place_by : Parm → List ℕ → Option (ℕ × List ℕ) → Option ℕ
place_by parm bytes None = None
place_by parm bytes (Some last) = if same_bytes (key_in parm (drop 1 bytes)) (key_in parm last.1) then Some last.0 else None

abbrev pub update_step : Parm → MatchState → Bool → List ℕ → RecordStep
update_step parm state false bytes = record { writes = record { items = [] }; held = state.held; last = Some (state.first, bytes) }
update_step parm state true bytes = record {
  writes = record { items = write_at (if code_of bytes == 67 then place_by parm bytes state.last else None) bytes ∷ [] };
  held = state.held;
  last = state.last;
}

-- what a record of the first or of the second input makes
abbrev pub step_of : Kind → Parm → MatchState → Bool → List ℕ → RecordStep
step_of Merge parm state second bytes = record { writes = record { items = write_to Main bytes ∷ [] }; held = state.held; last = state.last }
step_of Master parm state second bytes = master_step parm state second bytes
step_of Update parm state second bytes = update_step parm state second bytes
step_of _ parm state second bytes = record { writes = record { items = [] }; held = state.held; last = state.last }

-- whether a key may follow the last one of its input, of which so many records were taken
abbrev pub may_come : Bool → ℕ → List ℕ → List ℕ → Bool
may_come strict count last key = if count == 0 then true else (if strict then is_below last key else not (is_below key last))

abbrev pub is_next : MatchState → Bool → List ℕ → Bool
is_next state false key = may_come (has_transactions state.kind) state.first state.first_key.items key
is_next state true key = may_come false state.second state.second_key.items key

-- a record of an input is counted, and its key kept; at a new count nothing is done yet
abbrev pub counted : Bool → List ℕ → RecordStep → MatchState → MatchState
counted false key step state = record state {
  first = state.first + 1;
  first_key = record { items = key };
  rejects = state.rejects + rejects_in step.writes.items;
  checkpointed = false;
  cancelled = false;
  held = step.held;
  last = step.last;
}
counted true key step state = record state {
  second = state.second + 1;
  second_key = record { items = key };
  rejects = state.rejects + rejects_in step.writes.items;
  checkpointed = false;
  cancelled = false;
  held = step.held;
  last = step.last;
}

abbrev pub key_at : Parm → MatchState → Bool → List ℕ → List ℕ
key_at parm state second bytes = key_in parm (image_in state.kind second bytes)

abbrev pub input_number : Bool → ℕ
input_number second = if second then 2 else 1

-- a record is taken, or ends the program with U0101 where it is out of order
abbrev pub record_unit : Parm → MatchState → Bool → List ℕ → UnitDone
record_unit parm state second bytes =
    if is_next state second (key_at parm state second bytes)
    then record { taken = input_number second; writes = (step_of state.kind parm state second bytes).writes; finish = None }
    else record { taken = 0; writes = record { items = [] }; finish = Some (Abend (User 101)) }

abbrev pub behind_record : Parm → MatchState → Bool → List ℕ → MatchState
behind_record parm state second bytes =
    if is_next state second (key_at parm state second bytes)
    then counted second (key_at parm state second bytes) (step_of state.kind parm state second bytes) state
    else state

abbrev pub is_master : Kind → Bool
is_master Master = true
is_master _ = false

-- MASTER writes what is held
abbrev pub closing_writes : MatchState → List Write
closing_writes state = if is_master state.kind then write_held state.held else []

abbrev pub closing_unit : MatchState → UnitDone
closing_unit state = record {
  taken = 0;
  writes = record { items = closing_writes state };
  finish = Some (Returned (return_code state.rejects));
}

abbrev pub closed_state : MatchState → MatchState
closed_state state = record state { closed = true }

-- the unit of the record that was chosen, or the closing unit
abbrev pub unit_for : Parm → MatchState → Option Taken → UnitDone
unit_for parm state None = closing_unit state
unit_for parm state (Some next) = record_unit parm state next.second next.bytes

abbrev pub state_behind : Parm → MatchState → Option Taken → MatchState
state_behind parm state None = closed_state state
state_behind parm state (Some next) = behind_record parm state next.second next.bytes

-- the unit for the heads of the inputs, and the state behind it
unfoldable pub unit_of : Parm → MatchState → Heads → UnitDone
unit_of parm state heads = unit_for parm state (chosen (keys_of state.kind parm) heads.first heads.second)

unfoldable pub state_of : Parm → MatchState → Heads → MatchState
state_of parm state heads = state_behind parm state (chosen (keys_of state.kind parm) heads.first heads.second)
