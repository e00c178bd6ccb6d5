-- The state of a program at a checkpoint: its program, how many entries it counts, what it stands for, and what is done of it.
use Rattle.std.proofs.Common.{◌≡◌, ◌≤◌, ℕ, Bool, true, false, refl}
use Rattle.ckr_base.proofs.Bools.{and-first, and-second}
use Rattle.ckr_base.proofs.Numbers.{nat_le-true}
use Rattle.ckr_match.specs.State.{has_two_inputs}
use Rattle.ckr_meaning.specs.Program.{ProgramCase, records_taken, taken_by}
use Rattle.ckr_meaning.specs.States.{StandsFor}
use Rattle.ckr_meaning.specs.StepRun.{StepStart, case_at}
use Rattle.ckr_steps.specs.Units.{AreServed, is_closed, program_of}
use Rattle.ckr_desk_turn.specs.Checkpoints.{is_state_in_range}
use Rattle.ckr_desk_turn.specs.EntryStates.{checkpoint_state, state_by}

-- ---- by the number of inputs

program-by : (two : Bool) (case : ProgramCase) (taken entries : ℕ) → program_of (state_by two case taken entries) ≡ case.program
program-by true case taken entries = refl
program-by false case taken entries = refl

most-by : (two : Bool) (case : ProgramCase) (taken entries : ℕ) → is_state_in_range (state_by two case taken entries) ≡ true → entries ≤ 1000000
most-by true case taken entries ranged = nat_le-true entries 1000000 (and-second _ _ ranged)
most-by false case taken entries ranged = nat_le-true entries 1000000 (and-second _ _ (and-first _ _ ranged))

stands-by : (two : Bool) (case : ProgramCase) (taken entries : ℕ) → has_two_inputs case.program ≡ two → taken ≤ taken_by two case → StandsFor (state_by two case taken entries) case taken
stands-by true case taken entries is within = record {
  program = is;
  stands = record { program = refl; within = within; first = refl; second = refl; rejects = refl; first_key = refl; second_key = refl; held = refl; last = refl };
}
stands-by false case taken entries is within = record {
  program = is;
  stands = record { program = refl; within = within; first = refl; second = refl; rejects = refl; sum = refl };
}

unclosed-by : (two : Bool) (case : ProgramCase) (taken entries : ℕ) → is_closed (state_by two case taken entries) ≡ false
unclosed-by true case taken entries = refl
unclosed-by false case taken entries = refl

served-by : (two : Bool) (case : ProgramCase) (taken entries : ℕ) → AreServed true false (state_by two case taken entries)
served-by true case taken entries = record { checkpoint = refl; cancel = refl }
served-by false case taken entries = record { checkpoint = refl; cancel = refl }

-- ---- at a checkpoint

-- it is one of the step's program
pub state-program : (start : StepStart) (taken entries : ℕ) → program_of (checkpoint_state (case_at start) taken entries) ≡ start.owned.step.program
unfolding checkpoint_state case_at
state-program start taken entries = program-by (has_two_inputs start.owned.step.program) (case_at start) taken entries

-- one whose numbers are in their ranges counts at most a million entries
pub state-most : (case : ProgramCase) (taken entries : ℕ) → is_state_in_range (checkpoint_state case taken entries) ≡ true → entries ≤ 1000000
unfolding checkpoint_state
state-most case taken entries ranged = most-by (has_two_inputs case.program) case taken entries ranged

-- it stands for the records taken, if its program takes so many
pub state-stands : (case : ProgramCase) (taken entries : ℕ) → taken ≤ records_taken case → StandsFor (checkpoint_state case taken entries) case taken
unfolding checkpoint_state records_taken
state-stands case taken entries within = stands-by (has_two_inputs case.program) case taken entries refl within

pub state-unclosed : (case : ProgramCase) (taken entries : ℕ) → is_closed (checkpoint_state case taken entries) ≡ false
unfolding checkpoint_state
state-unclosed case taken entries = unclosed-by (has_two_inputs case.program) case taken entries

-- the checkpoint is done, and a cancel isn't
pub state-served : (case : ProgramCase) (taken entries : ℕ) → AreServed true false (checkpoint_state case taken entries)
unfolding checkpoint_state
state-served case taken entries = served-by (has_two_inputs case.program) case taken entries
