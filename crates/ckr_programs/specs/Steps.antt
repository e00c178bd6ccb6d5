-- What the unit of a record and the closing unit do, from the state alone.
use Rattle.std.specs.Prelude.{ℕ, ◌+◌, true, false, if◌then◌else◌, List, [], map, Option, None, Some}
use Rattle.ckr_base.specs.declared.code.Code.TheVariants.{System}
use Rattle.ckr_base.specs.declared.programs.Finish.TheVariants.{Returned, Abend}
use Rattle.ckr_base.specs.declared.programs.UnitDone.{UnitDone}
use Rattle.ckr_jcl.specs.declared.deck.Parm.{Parm}
use Rattle.ckr_programs.specs.declared.state.ProgState.{ProgState}
use Rattle.ckr_programs.specs.Records.{can_take, amount_of}
use Rattle.ckr_programs.specs.Work.{to_main, closing_images}
use Rattle.ckr_programs.specs.Units.{images_at}

-- the closing unit writes what is left to write
abbrev pub closing_unit : Parm → ProgState → UnitDone
closing_unit parm state = record {
  taken = 0;
  writes = record { items = map to_main (closing_images state.kind parm state.sum) };
  finish = Some (Returned 0);
}

-- a record is taken, or ends the program with S0C7
abbrev pub record_unit : Parm → ProgState → List ℕ → UnitDone
record_unit parm state bytes =
    if can_take state.kind parm bytes
    then record { taken = 1; writes = record { items = map to_main (images_at state.kind parm state.first bytes) }; finish = None }
    else record { taken = 0; writes = record { items = [] }; finish = Some (Abend (System 199)) }

-- at a new count nothing is done yet
abbrev pub behind_record : Parm → ProgState → List ℕ → ProgState
behind_record parm state bytes =
    if can_take state.kind parm bytes
    then record state {
      first = state.first + 1;
      sum = state.sum + amount_of state.kind parm bytes;
      checkpointed = false;
      cancelled = false;
    }
    else state

abbrev pub closed_state : ProgState → ProgState
closed_state state = record state { closed = true }

-- the unit for the head of the input, and the state behind it
unfoldable pub unit_of : Parm → ProgState → Option (List ℕ) → UnitDone
unit_of parm state None = closing_unit parm state
unit_of parm state (Some bytes) = record_unit parm state bytes

unfoldable pub state_of : Parm → ProgState → Option (List ℕ) → ProgState
state_of parm state None = closed_state state
state_of parm state (Some bytes) = behind_record parm state bytes
