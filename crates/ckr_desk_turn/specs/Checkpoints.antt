-- Checkpoints: the entry that a checkpoint writes, when it fits, and what the turn of a checkpoint comes to (IBM GC28-6708).
use Rattle.std.specs.Prelude.{◌≡◌, ℕ, suc, ◌+◌, ◌-◌, ◌^◌, Bool, true, false, ◌&&◌, nat_le, nat_lt, if◌then◌else◌, List, [], ◌∷◌, ◌++◌, codes, find, length, map, option_and_then, Option, None, Some}
use Rattle.std.specs.List.{AllByRecursion}
use Rattle.std.specs.Option.{is_none, option_map_or}
use Rattle.ckr_base.specs.Digits.{decimal_text, last_digits}
use Rattle.ckr_base.specs.Grammar.{is_check_id}
use Rattle.ckr_entry.specs.declared.point.State.{State}
use Rattle.ckr_entry.specs.declared.point.State.TheVariants.{Plain, Matched}
use Rattle.ckr_entry.specs.Entry.{spelling}
use Rattle.ckr_entry.specs.Parts.{Entry}
use Rattle.ckr_events.specs.declared.event.Event.{Event}
use Rattle.ckr_events.specs.declared.event.Event.TheVariants.{Checkpointed as CheckpointedEvent}
use Rattle.ckr_library.specs.Catalog.{records_of}
use Rattle.ckr_library.specs.NameMaps.{Name, Named, entry_at, same_name}
use Rattle.ckr_meaning.specs.EffectiveJob.{name_of}
use Rattle.ckr_meaning.specs.StepRun.{StepStart, case_at, within_at}
use Rattle.ckr_meaning.specs.LibrarySet.{AreWithinSpace}
use Rattle.ckr_points_library.specs.Commit.{output_names}
use Rattle.ckr_points.specs.Marks.{point_at}
use Rattle.ckr_points.specs.Office.{Leg, Office, office_after}
use Rattle.ckr_points.specs.Payload.{length_now}
use Rattle.ckr_points.specs.Restart.{kept_at}
use Rattle.ckr_points.specs.RuleCases.{rd_in_effect}
use Rattle.ckr_points.specs.Rows.{EntryPoint, RunRow, TableSet, TablesModel, run_of}
use Rattle.ckr_points.specs.Tables.{committed, entry_point, is_checkpoints}
use Rattle.ckr_points_invariant.specs.Invariant.{IsKept}
use Rattle.ckr_rules.specs.RuleTables.{suppresses}
use Rattle.ckr_volumes.specs.declared.layout.Layout.{Layout}
use Rattle.ckr_points.specs.declared.reply.Chkpt.{Chkpt}
use Rattle.ckr_points.specs.declared.reply.Chkpt.TheVariants.{Done, NotWritten, Suppressed}
use Rattle.ckr_points.specs.declared.reply.Reply.{Reply}
use Rattle.ckr_points.specs.declared.reply.Reply.TheVariants.{Checkpointed}
use Rattle.ckr_desk_turn.specs.Desk.{DeskStep, checkpoint_done}
use Rattle.ckr_desk_turn.specs.EntryStates.{checkpoint_state}
use Rattle.ckr_desk_turn.specs.Invariant.{IsGoing}
use Rattle.ckr_desk_turn.specs.Units.{StepProgress}

-- ---- the identifier of the next entry

-- the entries that a step of a run has written: those of the run, without those before the step
abbrev pub step_entries : RunRow → ℕ → ℕ
step_entries row number = row.count - option_map_or (λ point. point.count) (point_at row.points number) 0

-- `C` and the last seven digits of the entry's number in the run, or IDS and its number in the step
abbrev pub id_by : List ℕ → ℕ → ℕ → Name
id_by [] in_run in_step = codes "C" ++ last_digits 7 in_run
id_by (first ∷ rest) in_run in_step = (first ∷ rest) ++ decimal_text in_step

-- only entries that were written count
abbrev pub next_id : RunRow → StepStart → Name
next_id row start = id_by start.owned.step.parm.ids.items (suc row.count) (suc (step_entries row start.number))

-- ---- the next entry

-- the name of the step's data set for checkpoints, if it has one
abbrev pub check_set : StepStart → Option Name
check_set start = option_and_then (name_of start.root start.owned) (find (λ dd. is_checkpoints dd.role) start.owned.step.dds)

abbrev pub is_check_set : StepStart → Name → Bool
is_check_set start name = option_map_or (same_name name) (check_set start) false

-- the lengths of the step's outputs now, with the data set for checkpoints this long
abbrev pub lengths_with : Named TableSet → StepStart → ℕ → ℕ → List ℕ
lengths_with sets start writes most =
    let library = within_at start writes in
    map (λ name. if is_check_set start name then most else length_now library sets name) (output_names start.root start.owned)

-- the entry of a point, with its identifier and the state of its program
abbrev pub entry_with : Name → State → EntryPoint → Entry
entry_with id state point = record {
  id = id;
  job = point.job;
  run = point.run;
  owner = point.owner;
  step = point.step;
  step_name = point.step_name;
  count = point.count;
  taken = point.taken;
  writes = point.writes;
  state = state;
  marks = point.marks;
  passed = point.passed;
}

-- the entry of a checkpoint that is taken now, where the data set for checkpoints is this long behind it
abbrev pub entry_ending : ℕ → Named TableSet → RunRow → StepStart → StepProgress → Entry
entry_ending most sets row start step =
    let behind = committed (output_names start.root start.owned) (lengths_with sets start step.writes most) sets in
    entry_with (next_id row start) (checkpoint_state (case_at start) step.taken (suc (step_entries row start.number)))
    (entry_point row start.owned start.number step.taken step.writes behind)

-- how many bytes it has: as many wherever it ends
abbrev pub entry_bytes : Named TableSet → RunRow → StepStart → StepProgress → ℕ
entry_bytes sets row start step = length (spelling (entry_ending 0 sets row start step))

-- it begins behind the last record of its data set
abbrev pub entry_place : Named TableSet → StepStart → ℕ
entry_place sets start = option_map_or (λ table. table.set.length) (option_and_then (entry_at sets) (check_set start)) 0

abbrev pub entry_end : Named TableSet → RunRow → StepStart → StepProgress → ℕ
entry_end sets row start step = entry_place sets start + records_of (entry_bytes sets row start step)

-- the next entry, whose mark of its own data set has the length behind it
abbrev pub next_entry : Named TableSet → RunRow → StepStart → StepProgress → Entry
next_entry sets row start step = entry_ending (entry_end sets row start step) sets row start step

-- ---- when it fits

abbrev pub are_counts_in_range : ℕ → ℕ → ℕ → ℕ → Bool
are_counts_in_range first second rejects entries =
    nat_le first 1000000 && nat_le second 1000000 && nat_le rejects 1000000 && nat_le entries 1000000

abbrev pub is_state_in_range : State → Bool
is_state_in_range (Plain state) = are_counts_in_range state.first state.second state.rejects state.entries && nat_lt state.sum (10 ^ 21)
is_state_in_range (Matched state) = are_counts_in_range state.first state.second state.rejects state.entries

-- the numbers of an entry are such that it has a spelling
abbrev pub is_in_range : Entry → Bool
is_in_range entry = nat_le entry.count 9999999 && nat_le entry.writes 3000000 && is_state_in_range entry.state

-- the data set of this name has space for its records, and keeps none of its identifier; and its numbers are in their ranges
abbrev pub fits_in : Named TableSet → RunRow → StepStart → StepProgress → Name → TableSet → Bool
fits_in sets row start step name table =
    nat_le (entry_end sets row start step) table.set.space && is_none (kept_at sets name (next_id row start))
    && is_in_range (next_entry sets row start step)

-- the step has a data set for checkpoints, and the entry fits there
abbrev pub checkpoint_fits : Named TableSet → RunRow → StepStart → StepProgress → Bool
checkpoint_fits sets row start step =
    option_map_or (λ name. option_map_or (fits_in sets row start step name) (entry_at sets name) false) (check_set start) false

-- ---- the turn

-- the entry is written, and its event commits what the step has written
abbrev pub checkpoint_event : Named TableSet → RunRow → StepStart → StepProgress → Event
checkpoint_event sets row start step =
    CheckpointedEvent row.number (next_id row start) step.taken step.writes
    (record { items = lengths_with sets start step.writes (entry_end sets row start step) })
    (entry_place sets start) (entry_bytes sets row start step)

-- what the turn of a checkpoint comes to: its reply, its event or none, and how far the step has come behind it
pub record ServedTurn : Type 0 where
  pub reply : Reply
  pub event : Option Event
  pub progress : StepProgress

abbrev pub checkpointed_by : Chkpt → Option Name → Option Event → RunRow → StepStart → StepProgress → ServedTurn
checkpointed_by code id event row start progress = record {
  reply = Checkpointed row.number start.owned.step.name code id;
  event = event;
  progress = checkpoint_done progress;
}

-- an identifier, where the text is one
abbrev pub id_in : Name → Option Name
id_in text = if is_check_id text then Some text else None

-- code 00 where the entry fits, and 08 where it doesn't: then nothing is written
abbrev pub checkpoint_try : Bool → TablesModel → RunRow → StepStart → StepProgress → ServedTurn
checkpoint_try true tables row start progress =
    checkpointed_by Done (Some (next_id row start)) (Some (checkpoint_event tables.sets row start progress)) row start progress
checkpoint_try false tables row start progress = checkpointed_by NotWritten (id_in (next_id row start)) None row start progress

-- under RD=RNC and RD=NC a checkpoint is suppressed
abbrev pub checkpoint_unless : Bool → TablesModel → RunRow → StepStart → StepProgress → ServedTurn
checkpoint_unless true tables row start progress = checkpointed_by Suppressed None None row start progress
checkpoint_unless false tables row start progress =
    checkpoint_try (checkpoint_fits tables.sets row start progress) tables row start progress

-- a checkpoint that is due
abbrev pub checkpoint_turn : TablesModel → RunRow → StepStart → StepProgress → ServedTurn
checkpoint_turn tables row start progress =
    checkpoint_unless (suppresses (rd_in_effect row start.number)) tables row start progress

-- ---- where a checkpoint may be taken

-- a running step of an office whose events are kept, whose run waits with no code, which isn't closed, and whose next entry fits
pub record MayCheckpoint (layout : Layout) (office : Office) (step : DeskStep) : Type 0 where
  pub kept : IsKept layout office
  pub spaced : AllByRecursion (λ (leg : Leg). AreWithinSpace leg.start) office.legs
  pub going : IsGoing office step
  pub uncoded : step.code ≡ None
  pub unclosed : step.progress.closed ≡ false
  pub fits : checkpoint_fits office.tables.sets going.row going.start step.progress ≡ true

-- the event of its checkpoint, with the office behind it, and the entry that it writes
abbrev pub written_event : (layout : Layout) (office : Office) (step : DeskStep) → MayCheckpoint layout office step → Event
written_event layout office step may = checkpoint_event office.tables.sets may.going.row may.going.start step.progress

abbrev pub office_behind : (layout : Layout) (office : Office) (step : DeskStep) → MayCheckpoint layout office step → Office
office_behind layout office step may = office_after (written_event layout office step may, None) office

abbrev pub written_entry : (layout : Layout) (office : Office) (step : DeskStep) → MayCheckpoint layout office step → Entry
written_entry layout office step may = next_entry office.tables.sets may.going.row may.going.start step.progress

-- the row that a run has
abbrev pub HasRow : Office → ℕ → (RunRow → Type 0) → Type 0
HasRow office run P = (row : RunRow) × (run_of office.tables run ≡ Some row) × P row
