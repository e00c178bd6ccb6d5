-- A stint of a run, from a place of its job up to the next restart, hold or end: the turns of its initiator, and what lies ahead of the run in its job.
use Rattle.std.specs.Prelude.{◌≡◌, ℕ, suc, ◌+◌, ◌-◌, ◌==◌, Bool, true, false, not, if◌then◌else◌, List, [], ◌∷◌, filter, find, length, Option, None, Some}
use Rattle.std.specs.List.{count_by, filter_map, range_with_len, sum_by}
use Rattle.std.specs.Option.{option_map_or}
use Rattle.ckr_meaning.specs.JobRun.{start_at}
use Rattle.ckr_meaning.specs.Program.{records_taken}
use Rattle.ckr_meaning.specs.StepRun.{StepStart, case_at}
use Rattle.ckr_points.specs.Office.{Leg}
use Rattle.ckr_points.specs.Restart.{place_of, step_in}
use Rattle.ckr_points.specs.Rows.{RunRow}
use Rattle.ckr_points.specs.declared.reply.Reply.{Reply}
use Rattle.ckr_points.specs.declared.reply.Reply.TheVariants.{AwaitingReply, JobEnded, JobHeld, Restarted, Selected, WaitingUnits}
use Rattle.ckr_programs.specs.Due.{is_checkpoint_count}
use Rattle.ckr_desk_turn.specs.Desk.{DeskModel}
use Rattle.ckr_desk_turn.specs.Turns.{AnsweredTurn, turn_of}

-- ---- its turns

-- the run whose stint begins with a reply
abbrev pub begun : Reply → Option ℕ
begun (Selected job) = Some job
begun (Restarted job step id taken) = Some job
begun _ = None

-- at these replies a stint ends
abbrev pub ends_stint : Reply → Bool
ends_stint (Restarted job step id taken) = true
ends_stint (JobHeld job) = true
ends_stint (JobEnded job how) = true
ends_stint _ = false

-- at these the run waits, for units or for the operator
abbrev pub is_wait : Reply → Bool
is_wait (WaitingUnits need free) = true
is_wait AwaitingReply = true
is_wait _ = false

-- the replies to an initiator, in turns one after the other
abbrev pub replies_to : ℕ → List AnsweredTurn → DeskModel → List Reply
replies_to initiator [] desk = []
replies_to initiator (one ∷ rest) desk =
    let done = turn_of desk one.turn one.answer in
    let later = replies_to initiator rest done.desk in
    if one.turn.turn.initiator == initiator then done.reply ∷ later else later

-- the replies up to the one that ends the stint, and this one
abbrev pub through_end : List Reply → List Reply
through_end [] = []
through_end (reply ∷ rest) = if ends_stint reply then reply ∷ [] else reply ∷ through_end rest

-- how many turns of the initiator the stint of its run takes of these, waits aside
abbrev pub stint_turns : ℕ → List AnsweredTurn → DeskModel → ℕ
stint_turns initiator turns desk = length (filter (λ reply. not (is_wait reply)) (through_end (replies_to initiator turns desk)))

-- a turn that gives no code, where it is one of this initiator
abbrev pub GivesNoCode : ℕ → AnsweredTurn → Type 0
GivesNoCode initiator one = one.turn.turn.initiator ≡ initiator → one.turn.turn.fail ≡ None

-- ---- what lies ahead

-- the records that a step's program takes behind so many
abbrev pub records_behind : ℕ → StepStart → ℕ
records_behind taken start = records_taken (case_at start) - taken

-- the checkpoints that are due behind so many records
abbrev pub checkpoints_behind : ℕ → StepStart → ℕ
checkpoints_behind taken start = count_by (is_checkpoint_count start.owned.step.parm) (range_with_len (suc taken) (records_behind taken start))

-- the records of a step's inputs behind so many
abbrev pub inputs_behind : ℕ → StepStart → ℕ
inputs_behind taken start = (length (case_at start).first + length (case_at start).second) - taken

-- the steps of a run's job from a number on, each as the job comes to it without interruption
abbrev pub steps_from : Leg → ℕ → List StepStart
steps_from leg number = filter_map (start_at leg.job leg.start) (range_with_len number (suc (length leg.job.steps) - number))

-- the records that the running step of a run has taken
abbrev pub taken_in : DeskModel → ℕ → ℕ
taken_in desk run = option_map_or (λ step. step.progress.taken) (find (λ step. step.run == run) desk.running) 0

-- a count over the steps from a run's place on: of the first one behind the records that it has taken, of each other one from its start
abbrev pub ahead : (ℕ → StepStart → ℕ) → DeskModel → Leg → RunRow → ℕ
ahead count desk leg row =
    let number = step_in (place_of row) in
    option_map_or (count (taken_in desk row.number)) (start_at leg.job leg.start number) 0 + sum_by (count 0) (steps_from leg (suc number))

abbrev pub records_ahead : DeskModel → Leg → RunRow → ℕ
records_ahead desk leg row = ahead records_behind desk leg row

abbrev pub inputs_ahead : DeskModel → Leg → RunRow → ℕ
inputs_ahead desk leg row = ahead inputs_behind desk leg row

abbrev pub checkpoints_ahead : DeskModel → Leg → RunRow → ℕ
checkpoints_ahead desk leg row = ahead checkpoints_behind desk leg row

-- the step that it is before or in, and the later ones
abbrev pub steps_ahead : DeskModel → Leg → RunRow → ℕ
steps_ahead desk leg row = length (steps_from leg (step_in (place_of row)))
