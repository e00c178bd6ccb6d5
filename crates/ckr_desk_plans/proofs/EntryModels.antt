-- The next entry of a running step is that of its job.
use Rattle.std.proofs.Common.{◌≡◌, ◌+◌, ℕ, suc, Bool, false, ◌&&◌, List, length, map, nat_le, option_and_then, refl, ap, sym, ◌∙◌, Option, None, Some}
use Rattle.std.specs.Option.{is_none, option_map_or}
use Rattle.std.specs.Prelude.{if◌then◌else◌}
use Rattle.ckr_base.proofs.Numbers.{equal-from}
use Rattle.ckr_entry.specs.declared.point.State.{State}
use Rattle.ckr_entry.specs.Entry.{spelling}
use Rattle.ckr_entry.specs.Parts.{Entry}
use Rattle.ckr_events.specs.declared.event.Event.{Event}
use Rattle.ckr_events.specs.declared.event.Event.TheVariants.{Checkpointed}
use Rattle.ckr_library.specs.Catalog.{records_of}
use Rattle.ckr_points_tables.specs.Checkpoint.{checkpoint_name}
use Rattle.ckr_library.specs.NameMaps.{Name, entry_at}
use Rattle.ckr_meaning.specs.EffectiveJob.{OwnedStep}
use Rattle.ckr_meaning.specs.StepRun.{StepStart}
use Rattle.ckr_points_library.specs.Commit.{output_names}
use Rattle.ckr_points.specs.Restart.{kept_at}
use Rattle.ckr_points.specs.Rows.{RunRow, TableSet, TablesModel}
use Rattle.ckr_points.specs.Tables.{committed, entry_point}
use Rattle.ckr_steps.specs.Units.{taken_of}
use Rattle.ckr_desk_turn.specs.Checkpoints.{check_set, entry_ending, entry_with, id_by, is_check_set, is_in_range, lengths_with, step_entries}
use Rattle.ckr_desk_turn.specs.Checkpoints as model
use Rattle.ckr_desk_turn.specs.EntryStates.{at_checkpoint}
use Rattle.ckr_desk_turn.specs.Units.{StepProgress}
use Rattle.ckr_desk_turn.proofs.RunningSteps.{map-same}
use Rattle.ckr_desk_plans.specs.Checkpoints.{event_in_set}
use Rattle.ckr_desk_plans.specs.Entries.{entry_bytes, entry_end, entry_in_set, entry_to, fits_in, is_written, next_entry, next_id}
use Rattle.ckr_desk_plans.specs.EntryMarks.{length_behind}
use Rattle.ckr_desk_plans.specs.EntryModels.{HasCheckRecords, IsAsFar}
use Rattle.ckr_desk_plans.specs.StepView.{RunningStepView}

-- an entry by what it takes of its step
abbrev entry_so : TablesModel → RunRow → OwnedStep → ℕ → ℕ → ℕ → ℕ → State → List ℕ → Entry
entry_so tables row own number root taken writes state lengths =
    entry_with (id_by own.step.parm.ids.items (suc row.count) (suc (step_entries row number))) state (entry_point row own number taken writes (committed (output_names root own) lengths tables.sets))

module _ (tables : TablesModel) (row : RunRow) (start : StepStart) (on : RunningStepView) (progress : StepProgress) (most : ℕ) (far : IsAsFar tables row start on progress) where
  lengths_same : map (length_behind (check_set start) most on.sets.sets) (output_names start.root start.owned) ≡ lengths_with tables.sets start progress.writes most
  lengths_same =
      map-same (length_behind (check_set start) most on.sets.sets) _ (output_names start.root start.owned)
      (λ name among. ap (λ n. if is_check_set start name then most else n) (far.lengths name among))

  pub entry-same : entry_to (check_set start) most tables row start.owned on ≡ entry_ending most tables.sets row start progress
  unfolding entry_to
  entry-same =
      let sizes : Name → ℕ = length_behind (check_set start) most on.sets.sets in
      ap (λ n. entry_so tables row start.owned n row.job.root (taken_of on.step.state) on.step.writes (at_checkpoint (suc (step_entries row n)) on.step.state) (map sizes (output_names row.job.root start.owned))) far.number
      ∙ ap (λ n. entry_so tables row start.owned start.number n (taken_of on.step.state) on.step.writes (at_checkpoint (suc (step_entries row start.number)) on.step.state) (map sizes (output_names n start.owned))) far.root
      ∙ ap (λ n. entry_so tables row start.owned start.number start.root n on.step.writes (at_checkpoint (suc (step_entries row start.number)) on.step.state) (map sizes (output_names start.root start.owned))) far.taken
      ∙ ap (λ n. entry_so tables row start.owned start.number start.root progress.taken n (at_checkpoint (suc (step_entries row start.number)) on.step.state) (map sizes (output_names start.root start.owned))) far.writes
      ∙ ap (λ (state : State). entry_so tables row start.owned start.number start.root progress.taken progress.writes state (map sizes (output_names start.root start.owned))) (far.state (suc (step_entries row start.number)))
      ∙ ap (entry_so tables row start.owned start.number start.root progress.taken progress.writes _) lengths_same

-- ---- whether it fits

module _ (tables : TablesModel) (row : RunRow) (start : StepStart) (on : RunningStepView) (progress : StepProgress) (far : IsAsFar tables row start on progress) where
  module _ (check : Name) (table : TableSet) (is : check_set start ≡ Some check) (there : entry_at tables.sets check ≡ Some table) where
    to_same : (most : ℕ) → entry_to (Some check) most tables row start.owned on ≡ entry_ending most tables.sets row start progress
    to_same most = ap (λ c. entry_to c most tables row start.owned on) (sym is) ∙ entry-same tables row start on progress most far

    bytes_same : entry_bytes check tables row start.owned on ≡ model.entry_bytes tables.sets row start progress
    unfolding entry_bytes
    bytes_same = ap (λ (e : Entry). length (spelling e)) (to_same 0)

    place_same : table.set.length ≡ model.entry_place tables.sets start
    place_same = sym (ap (λ (c : Option Name). option_map_or (λ (t : TableSet). t.set.length) (option_and_then (entry_at tables.sets) c) 0) is ∙ ap (λ (found : Option TableSet). option_map_or (λ (t : TableSet). t.set.length) found 0) there)

    end_same : entry_end check table tables row start.owned on ≡ model.entry_end tables.sets row start progress
    end_same = ap (λ n. n + records_of (entry_bytes check tables row start.owned on)) place_same ∙ ap (λ n. model.entry_place tables.sets start + records_of n) bytes_same

    entry_is : entry_to (Some check) (entry_end check table tables row start.owned on) tables row start.owned on ≡ model.next_entry tables.sets row start progress
    entry_is = to_same (entry_end check table tables row start.owned on) ∙ ap (λ n. entry_ending n tables.sets row start progress) end_same

    id_same : next_id row start.owned ≡ model.next_id row start
    id_same = ap (λ n. id_by start.owned.step.parm.ids.items (suc row.count) (suc (step_entries row n))) far.number

    lengths_so : map (length_behind (Some check) (entry_end check table tables row start.owned on) on.sets.sets) (output_names row.job.root start.owned)
        ≡ lengths_with tables.sets start progress.writes (model.entry_end tables.sets row start progress)
    lengths_so =
        ap (λ n. map (length_behind (Some check) n on.sets.sets) (output_names row.job.root start.owned)) end_same
        ∙ ap (λ root. map (length_behind (Some check) (model.entry_end tables.sets row start progress) on.sets.sets) (output_names root start.owned)) far.root
        ∙ ap (λ c. map (length_behind c (model.entry_end tables.sets row start progress) on.sets.sets) (output_names start.root start.owned)) (sym is)
        ∙ lengths_same tables row start on progress (model.entry_end tables.sets row start progress) far

    abbrev event_so : Name → ℕ → ℕ → List ℕ → ℕ → ℕ → Event
    event_so id taken writes lengths place bytes = Checkpointed row.number id taken writes (record { items = lengths }) place bytes

    -- its event is that of the job
    pub event-same : event_in_set tables row start.owned on check table ≡ model.checkpoint_event tables.sets row start progress
    event-same =
        let lengths = map (length_behind (Some check) (entry_end check table tables row start.owned on) on.sets.sets) (output_names row.job.root start.owned) in
        let bytes = entry_bytes check tables row start.owned on in
        let told = lengths_with tables.sets start progress.writes (model.entry_end tables.sets row start progress) in
        ap (λ id. event_so id (taken_of on.step.state) on.step.writes lengths table.set.length bytes) id_same
        ∙ ap (λ n. event_so (model.next_id row start) n on.step.writes lengths table.set.length bytes) far.taken
        ∙ ap (λ n. event_so (model.next_id row start) progress.taken n lengths table.set.length bytes) far.writes
        ∙ ap (λ ns. event_so (model.next_id row start) progress.taken progress.writes ns table.set.length bytes) lengths_so
        ∙ ap (λ n. event_so (model.next_id row start) progress.taken progress.writes told n bytes) place_same
        ∙ ap (event_so (model.next_id row start) progress.taken progress.writes told (model.entry_place tables.sets start)) bytes_same

    fits_same : table.set.lrecl ≡ 256 → fits_in check table tables row start.owned on ≡ (model.fits_in tables.sets row start progress check table && is_written (model.next_entry tables.sets row start progress))
    unfolding fits_in
    fits_same wide =
        let made : Entry = entry_to (Some check) (entry_end check table tables row start.owned on) tables row start.owned on in
        ap (λ b. b && (nat_le (entry_end check table tables row start.owned on) table.set.space && is_none (kept_at tables.sets check (next_id row start.owned)) && is_in_range made && is_written made)) (equal-from table.set.lrecl 256 wide)
        ∙ ap (λ n. nat_le n table.set.space && is_none (kept_at tables.sets check (next_id row start.owned)) && is_in_range made && is_written made) end_same
        ∙ ap (λ (id : Name). nat_le (model.entry_end tables.sets row start progress) table.set.space && is_none (kept_at tables.sets check id) && is_in_range made && is_written made) id_same
        ∙ ap (λ (e : Entry). nat_le (model.entry_end tables.sets row start progress) table.set.space && is_none (kept_at tables.sets check (model.next_id row start)) && is_in_range e && is_written e) entry_is

    in_set : table.set.lrecl ≡ 256 → entry_in_set tables row start.owned on check table
        ≡ (if model.fits_in tables.sets row start progress check table && is_written (model.next_entry tables.sets row start progress) then Some (model.next_entry tables.sets row start progress) else None)
    unfolding entry_in_set
    in_set wide =
        ap (λ b. if b then Some (entry_to (Some check) (entry_end check table tables row start.owned on) tables row start.owned on) else None) (fits_same wide)
        ∙ ap (λ (e : Entry). if model.fits_in tables.sets row start progress check table && is_written (model.next_entry tables.sets row start progress) then Some e else None) entry_is

  abbrev memory_next : Option Name → Option Entry
  memory_next found = option_and_then (λ check. option_and_then (entry_in_set tables row start.owned on check) (entry_at tables.sets check)) found

  abbrev model_if : Bool → Option Entry
  model_if fits = if fits && is_written (model.next_entry tables.sets row start progress) then Some (model.next_entry tables.sets row start progress) else None

  abbrev model_fits : Option Name → Bool
  model_fits found = option_map_or (λ name. option_map_or (model.fits_in tables.sets row start progress name) (entry_at tables.sets name) false) found false

  -- so it is with the next entry, if it fits
  pub next-same : HasCheckRecords tables.sets start → next_entry tables row start.owned on ≡ model_if (model.checkpoint_fits tables.sets row start progress)
  next-same wide = ap memory_next (ap (λ n. checkpoint_name n start.owned) far.root) ∙ by (check_set start) refl
    where
      by : (found : Option Name) → check_set start ≡ found → memory_next (check_set start) ≡ model_if (model_fits (check_set start))
      by None is = ap memory_next is ∙ sym (ap (λ c. model_if (model_fits c)) is)
      by (Some check) is = ap memory_next is ∙ here (entry_at tables.sets check) refl ∙ sym (ap (λ c. model_if (model_fits c)) is)
        where
          here : (found : Option TableSet) → entry_at tables.sets check ≡ found
              → option_and_then (entry_in_set tables row start.owned on check) (entry_at tables.sets check) ≡ model_if (option_map_or (model.fits_in tables.sets row start progress check) (entry_at tables.sets check) false)
          here None there =
              ap (option_and_then (entry_in_set tables row start.owned on check)) there
              ∙ sym (ap (λ (found : Option TableSet). model_if (option_map_or (model.fits_in tables.sets row start progress check) found false)) there)
          here (Some table) there =
              ap (option_and_then (entry_in_set tables row start.owned on check)) there
              ∙ in_set check table is there (wide check table is there)
              ∙ sym (ap (λ (found : Option TableSet). model_if (option_map_or (model.fits_in tables.sets row start progress check) found false)) there)
