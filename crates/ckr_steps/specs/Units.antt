-- The state of a step's program, whichever it is: the first one, what is due, and what a unit makes of it.
use Rattle.std.specs.Prelude.{◌≡◌, ◌≤◌, ◌<◌, ℕ, ◌+◌, ◌*◌, ◌^◌, Bool, true, false, if◌then◌else◌}
use Rattle.ckr_base.specs.declared.programs.Heads.{Heads}
use Rattle.ckr_base.specs.declared.programs.NextDue.{NextDue}
use Rattle.ckr_base.specs.declared.programs.UnitDone.{UnitDone}
use Rattle.ckr_jcl.specs.declared.deck.Kind.{Kind}
use Rattle.ckr_jcl.specs.declared.deck.Parm.{Parm}
use Rattle.ckr_entry.specs.declared.point.State.{State}
use Rattle.ckr_entry.specs.declared.point.State.TheVariants.{Plain, Matched}
use Rattle.ckr_programs.specs.State as plain
use Rattle.ckr_programs.specs.Steps as plain_steps
use Rattle.ckr_match.specs.State as matched
use Rattle.ckr_match.specs.Steps as matched_steps
use Rattle.ckr_meaning.specs.States.{first_of, second_of}

abbrev pub state_for : Bool → Kind → State
state_for false kind = Plain (plain.first_state kind)
state_for true kind = Matched (matched.first_state kind)

-- before the first record
unfoldable pub first_state : Kind → State
first_state kind = state_for (matched.has_two_inputs kind) kind

-- what is due
unfoldable pub due_of : Parm → State → NextDue
due_of parm (Plain state) = plain.due_in parm state
due_of parm (Matched state) = matched.due_in parm state

-- what was due is done
unfoldable pub served_of : Parm → Bool → State → State
served_of parm written (Plain state) = Plain (plain.served_state (plain.due_in parm state) written state)
served_of parm written (Matched state) = Matched (matched.served_state (matched.due_in parm state) written state)

-- the unit for the heads of the inputs, and the state behind it
unfoldable pub unit_of : Parm → State → Heads → UnitDone
unit_of parm (Plain state) heads = plain_steps.unit_of parm state heads.first
unit_of parm (Matched state) heads = matched_steps.unit_of parm state heads

unfoldable pub state_of : Parm → State → Heads → State
state_of parm (Plain state) heads = Plain (plain_steps.state_of parm state heads.first)
state_of parm (Matched state) heads = Matched (matched_steps.state_of parm state heads)

-- the records taken of all inputs
abbrev pub taken_of : State → ℕ
taken_of state = first_of state + second_of state

abbrev pub rejects_of : State → ℕ
rejects_of (Plain state) = state.rejects
rejects_of (Matched state) = state.rejects

abbrev pub entries_of : State → ℕ
entries_of (Plain state) = state.entries
entries_of (Matched state) = state.entries

abbrev pub sum_of : State → ℕ
sum_of (Plain state) = state.sum
sum_of (Matched state) = 0

abbrev pub is_closed : State → Bool
is_closed (Plain state) = state.closed
is_closed (Matched state) = state.closed

abbrev pub is_checkpointed : State → Bool
is_checkpointed (Plain state) = state.checkpointed
is_checkpointed (Matched state) = state.checkpointed

abbrev pub is_cancelled : State → Bool
is_cancelled (Plain state) = state.cancelled
is_cancelled (Matched state) = state.cancelled

-- whether the checkpoint, and the cancel, that may be due at its count of records are done
pub record AreServed (checkpointed cancelled : Bool) (state : State) : Type 0 where
  pub checkpoint : is_checkpointed state ≡ checkpointed
  pub cancel : is_cancelled state ≡ cancelled

abbrev pub program_of : State → Kind
program_of (Plain state) = state.kind
program_of (Matched state) = state.kind

-- The numbers of a running step are in their ranges: PARM's field and key, the records taken of each input, the rejects, the
-- step's entries, the sum, and the writes made.
pub record IsCounted (parm : Parm) (state : State) (made : ℕ) : Type 0 where
  pub field : parm.sum.1 ≤ 15
  pub key : parm.key.1 ≤ 32
  pub first : first_of state ≤ 1000000
  pub second : second_of state ≤ 1000000
  pub rejects : rejects_of state ≤ 1000000 + second_of state
  pub entries : entries_of state ≤ 1000000
  pub sum : sum_of state < 10 ^ 21 + first_of state * 10 ^ 15
  pub writes : made ≤ 3000000 + 4 * taken_of state + (if is_closed state then 4 else 0)
