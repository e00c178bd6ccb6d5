-- The entry of the next checkpoint of a running step, by the tables and by the step with its own data sets (IBM GC28-6708).
use Rattle.std.specs.Prelude.{◌≡◌, ◌==◌, ℕ, suc, ◌+◌, ◌^◌, Bool, ◌&&◌, nat_le, nat_lt, if◌then◌else◌, length, map, Option, None, Some, option_and_then}
use Rattle.std.specs.Option.{is_none, option_map}
use Rattle.ckr_base.specs.Grammar.{is_check_id}
use Rattle.ckr_entry.specs.Entry.{spelling}
use Rattle.ckr_entry.specs.Parts.{Entry, entry_of}
use Rattle.ckr_library.specs.declared.sets.DataSet.{DataSet}
use Rattle.ckr_library.specs.Catalog.{records_of}
use Rattle.ckr_library.specs.NameMaps.{Name, entry_at}
use Rattle.ckr_meaning.specs.EffectiveJob.{OwnedStep}
use Rattle.ckr_points_library.specs.Commit.{output_names}
use Rattle.ckr_points.specs.declared.run.Run.{Run}
use Rattle.ckr_points.specs.Restart.{kept_at, place_of, step_in}
use Rattle.ckr_points.specs.Rows.{RunRow, TableSet, TablesModel, holding_of}
use Rattle.ckr_points.specs.Tables.{committed, entry_point}
use Rattle.ckr_points_tables.specs.Checkpoint.{checkpoint_name}
use Rattle.ckr_points_tables.specs.Model.RunTable.{RunTable}
use Rattle.ckr_points_tables.specs.View.{facts_of, row_with, seen_by}
use Rattle.ckr_steps.specs.Units.{taken_of}
use Rattle.ckr_desk_turn.specs.Checkpoints.{entry_with, id_by, is_in_range, step_entries}
use Rattle.ckr_desk_turn.specs.EntryStates.{at_checkpoint}
use Rattle.ckr_desk_plans.specs.declared.entry.NextEntry.{NextEntry}
use Rattle.ckr_desk_plans.specs.declared.entry_marks.Behind.{Behind}
use Rattle.ckr_desk_plans.specs.EntryMarks.{length_behind}
use Rattle.ckr_desk_plans.specs.StepView.{step_seen, RunningStepView}
use Rattle.ckr_desk_plans.specs.Plans.{row_for}

-- ---- the identifier

-- the step that a run is in
abbrev pub step_now : RunRow → ℕ
step_now row = step_in (place_of row)

-- only entries that were written count
abbrev pub next_id : RunRow → OwnedStep → Name
next_id row own = id_by own.step.parm.ids.items (suc row.count) (suc (step_entries row (step_now row)))

-- ---- the entry

-- the entry, where the data set for checkpoints of this name is so long behind it
unfoldable pub entry_to : Option Name → ℕ → TablesModel → RunRow → OwnedStep → RunningStepView → Entry
entry_to check most tables row own on =
    let names = output_names row.job.root own in
    entry_with (next_id row own) (at_checkpoint (suc (step_entries row (step_now row))) on.step.state)
    (entry_point row own (step_now row) (taken_of on.step.state) on.step.writes
    (committed names (map (length_behind check most on.sets.sets) names) tables.sets))

-- it has as many bytes wherever it ends
unfoldable pub entry_bytes : Name → TablesModel → RunRow → OwnedStep → RunningStepView → ℕ
entry_bytes check tables row own on = length (spelling (entry_to (Some check) 0 tables row own on))

-- it begins behind the last record of its data set
abbrev pub entry_end : Name → TableSet → TablesModel → RunRow → OwnedStep → RunningStepView → ℕ
entry_end check table tables row own on = table.set.length + records_of (entry_bytes check tables row own on)

-- ---- when it fits

-- its lists have a count of two bytes, and its identifier is in the grammar of identifiers
abbrev pub is_written : Entry → Bool
is_written entry = is_check_id entry.id && nat_lt (length entry.passed) (2 ^ 16)

-- The data set has records of 256 bytes, as one for checkpoints has on each sound disk, and space for the entry's; it keeps none of its
-- identifier; and its numbers are in their ranges.
unfoldable pub fits_in : Name → TableSet → TablesModel → RunRow → OwnedStep → RunningStepView → Bool
fits_in check table tables row own on =
    let entry = entry_to (Some check) (entry_end check table tables row own on) tables row own on in
    table.set.lrecl == 256
    && (nat_le (entry_end check table tables row own on) table.set.space && is_none (kept_at tables.sets check (next_id row own))
    && is_in_range entry && is_written entry)

-- the entry, if it fits there
unfoldable pub entry_in_set : TablesModel → RunRow → OwnedStep → RunningStepView → Name → TableSet → Option Entry
entry_in_set tables row own on check table =
    if fits_in check table tables row own on then Some (entry_to (Some check) (entry_end check table tables row own on) tables row own on) else None

-- the entry of the next checkpoint, if the step has a data set for checkpoints where it fits
abbrev pub next_entry : TablesModel → RunRow → OwnedStep → RunningStepView → Option Entry
next_entry tables row own on =
    option_and_then (λ check. option_and_then (entry_in_set tables row own on check) (entry_at tables.sets check)) (checkpoint_name row.job.root own)

-- ---- as it is made

-- a run by its number, its line, and what the tables keep of it
abbrev pub row_of_line : ℕ → Run → RunTable → RunRow
row_of_line number line table = row_with (record line { number = number }) (facts_of table)

-- an entry of this identifier is made for this step of the run
pub record IsMadeFor (named : Name) (behind : Behind) (own : OwnedStep) : Type 0 where
  pub step : own.step ≡ behind.own.now.step.now
  pub owner : own.owner ≡ behind.own.now.owner
  pub id : named ≡ next_id (row_for behind.on.now.run behind.table.now) own

-- this is that entry
abbrev pub IsEntryOf : Name → Behind → TablesModel → Entry → Type 0
IsEntryOf named behind tables entry =
    (line : Run) (own : OwnedStep) → IsMadeFor named behind own
    → entry ≡ entry_to (Some behind.check.now) behind.end tables (row_of_line behind.on.now.run line behind.table.now) own (step_seen behind.on.now)

-- this is that entry, if it fits its data set
abbrev pub IsNextOf : Name → Behind → DataSet → Option Entry → Type 0
IsNextOf named behind set found =
    (line : Run) (tables : TablesModel) (own : OwnedStep) (table : TableSet) → behind.committed.now.sets ≡ seen_by holding_of tables.sets → IsMadeFor named behind own
    → entry_at tables.sets behind.check.now ≡ Some table → set ≡ table.set
    → found ≡ entry_in_set tables (row_of_line behind.on.now.run line behind.table.now) own (step_seen behind.on.now) behind.check.now table

abbrev pub entry_made : Option NextEntry → Option Entry
entry_made found = option_map (λ (made : NextEntry). entry_of made.point) found
