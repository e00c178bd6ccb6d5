-- The state of a program in the entry of a checkpoint: that behind the records taken, with the checkpoint done and counted.
use Rattle.std.specs.Prelude.{ℕ, Bool, true, false, take, length}
use Rattle.ckr_entry.specs.declared.point.State.{State}
use Rattle.ckr_entry.specs.declared.point.State.TheVariants.{Plain, Matched}
use Rattle.ckr_entry.specs.States.{plain_state, matched_state}
use Rattle.ckr_programs.specs.Work.{ProgCase, sum_of, taken_records}
use Rattle.ckr_match.specs.InputOrder.{of_first, of_second}
use Rattle.ckr_match.specs.State.{has_two_inputs}
use Rattle.ckr_match.specs.Units.{first_taken, held_in, last_key, last_master}
use Rattle.ckr_match.specs.Work.{MatchCase, case_keys, rejects_in, upto}
use Rattle.ckr_meaning.specs.Program.{ProgramCase, match_case, plain_case}

-- a program of one input: what it has taken, and the sum of it
abbrev pub plain_at : ProgCase → ℕ → ℕ → State
plain_at case taken entries =
    Plain (plain_state case.program (record { first = taken; second = 0; rejects = 0; entries = entries })
    (sum_of case.program case.parm (take taken (taken_records case))))

-- a program of two inputs: what it has taken of each, its rejects, the last keys, the record that MASTER holds, and UPDATE's last master
abbrev pub matched_at : MatchCase → ℕ → ℕ → State
matched_at case taken entries =
    let records = first_taken case taken in
    Matched (matched_state case.program
    (record { first = length (of_first records); second = length (of_second records); rejects = rejects_in (upto case taken); entries = entries })
    (record { items = last_key (case_keys case) (of_first records) }) (record { items = last_key (case_keys case) (of_second records) })
    (held_in case.program (case_keys case) records) (last_master case.program records))

abbrev pub state_by : Bool → ProgramCase → ℕ → ℕ → State
state_by false case taken entries = plain_at (plain_case case) taken entries
state_by true case taken entries = matched_at (match_case case) taken entries

-- behind so many records taken, where the step has written so many entries, this one included
unfoldable pub checkpoint_state : ProgramCase → ℕ → ℕ → State
checkpoint_state case taken entries = state_by (has_two_inputs case.program) case taken entries

-- a state as its entry has it: the checkpoint is done and counted, the cancel isn't done, and the program isn't closed
abbrev pub at_checkpoint : ℕ → State → State
at_checkpoint entries (Plain state) = Plain (record state { entries = entries; checkpointed = true; cancelled = false; closed = false })
at_checkpoint entries (Matched state) = Matched (record state { entries = entries; checkpointed = true; cancelled = false; closed = false })
