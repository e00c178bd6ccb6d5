-- The checkpoint that the jobs in memory make is that of the desk: its event is that of the turn, and its entry that of the running step.
use Rattle.std.proofs.Common.{◌≡◌, ℕ, suc, Bool, true, false, ◌&&◌, cond, List, length, map, find, refl, ap, sym, ◌∙◌, Option, Some, None}
use Rattle.std.specs.Prelude.{◌==◌, ◌+◌, if◌then◌else◌, option_and_then}
use Rattle.std.specs.Option.{option_map_or}
use Rattle.std.proofs.lemmas.Option.{same_Some}
use Rattle.ckr_base.proofs.Bools.{and-first}
use Rattle.ckr_base.proofs.Numbers.{equal-true}
use Rattle.ckr_base.proofs.Options.{some-not-none}
use Rattle.ckr_entry.specs.Entry.{spelling}
use Rattle.ckr_entry.specs.Parts.{Entry}
use Rattle.ckr_events.specs.declared.event.Event.{Event}
use Rattle.ckr_events.specs.declared.event.Event.TheVariants.{Checkpointed}
use Rattle.ckr_library.specs.Catalog.{records_of}
use Rattle.ckr_library.specs.NameMaps.{Name, entry_at}
use Rattle.ckr_meaning.specs.EffectiveJob.{OwnedStep, name_of}
use Rattle.ckr_meaning.specs.StepRun.{StepStart}
use Rattle.ckr_points_library.specs.Commit.{output_names}
use Rattle.ckr_points.specs.Rows.{RunRow, TableSet, TablesModel}
use Rattle.ckr_points.specs.Tables.{is_checkpoints}
use Rattle.ckr_steps.specs.Units.{taken_of as taken_in}
use Rattle.ckr_desk_memory.proofs.EntryModels.{entry-same, next-same}
use Rattle.ckr_desk_memory.specs.Checkpoints.{IsCheckpointOf, event_in_set}
use Rattle.ckr_desk_memory.specs.Model.Checkpoint.{Checkpoint}
use Rattle.ckr_desk_memory.specs.Entries.{entry_bytes, entry_end, entry_in_set, entry_to, fits_in, is_written, next_entry}
use Rattle.ckr_desk_memory.specs.EntryMarks.{length_behind}
use Rattle.ckr_desk_memory.specs.EntryModels.{HasCheckRecords, IsAsFar}
use Rattle.ckr_desk_memory.specs.View.{RunningStepView}
use Rattle.ckr_desk_turn.proofs.RunningSteps.{map-same}
use Rattle.ckr_desk_turn.specs.Checkpoints.{check_set, checkpoint_event, checkpoint_fits, id_by, is_check_set, lengths_with, step_entries}
use Rattle.ckr_desk_turn.specs.Checkpoints as model
use Rattle.ckr_desk_turn.specs.Units.{StepProgress}

-- the entry of the model, if it fits and may be written
abbrev next_if : Bool → Entry → Option Entry
next_if fits entry = if fits && is_written entry then Some entry else None

fits-if : (fits : Bool) (entry made : Entry) → next_if fits entry ≡ Some made → (fits ≡ true) × (entry ≡ made)
fits-if true entry made is = by (is_written entry) is
  where
    by : (b : Bool) → cond b (Some entry) None ≡ Some made → (true ≡ true) × (entry ≡ made)
    by true e = (refl, same_Some entry made e)
    by false e = absurd (some-not-none made (sym e))
fits-if false entry made is = absurd (some-not-none made (sym is))

abbrev named_by : ℕ → OwnedStep → Option Name
named_by root owned = option_and_then (name_of root owned) (find (λ dd. is_checkpoints dd.role) owned.step.dds)

module _ (tables : TablesModel) (row : RunRow) (start : StepStart) (on : RunningStepView) (progress : StepProgress) (far : IsAsFar tables row start on progress)
    (check : Name) (table : TableSet) (named : named_by row.job.root start.owned ≡ Some check) (there : entry_at tables.sets check ≡ Some table) (fits : fits_in check table tables row start.owned on ≡ true) where
  check_is : check_set start ≡ Some check
  check_is = ap (λ root. named_by root start.owned) (sym far.root) ∙ named

  wide : table.set.lrecl ≡ 256
  unfolding fits_in
  wide = equal-true table.set.lrecl 256 (and-first (table.set.lrecl == 256) _ fits)

  records : HasCheckRecords tables.sets start
  records set other is at =
      let name_is : set ≡ check = same_Some set check (sym is ∙ check_is) in
      ap (λ (t : TableSet). t.set.lrecl) (same_Some other table (sym at ∙ ap (entry_at tables.sets) name_is ∙ there)) ∙ wide

  abbrev made_there : Entry
  made_there = entry_to (Some check) (entry_end check table tables row start.owned on) tables row start.owned on

  in-set : entry_in_set tables row start.owned on check table ≡ Some made_there
  unfolding entry_in_set
  in-set = ap (λ b. if b then Some (entry_to (Some check) (entry_end check table tables row start.owned on) tables row start.owned on) else None) fits

  next-is : next_entry tables row start.owned on ≡ Some made_there
  next-is =
      ap (λ (o : Option Name). option_and_then (λ check. option_and_then (entry_in_set tables row start.owned on check) (entry_at tables.sets check)) o) named
      ∙ ap (option_and_then (entry_in_set tables row start.owned on check)) there ∙ in-set

  both : (checkpoint_fits tables.sets row start progress ≡ true) × (model.next_entry tables.sets row start progress ≡ made_there)
  both = fits-if (checkpoint_fits tables.sets row start progress) (model.next_entry tables.sets row start progress) made_there (sym (next-same tables row start on progress far records) ∙ next-is)

  -- its parts
  bytes-is : entry_bytes check tables row start.owned on ≡ model.entry_bytes tables.sets row start progress
  unfolding entry_bytes
  bytes-is = ap (λ (e : Entry). length (spelling e)) (ap (λ c. entry_to c 0 tables row start.owned on) (sym check_is) ∙ entry-same tables row start on progress 0 far)

  place-is : table.set.length ≡ model.entry_place tables.sets start
  place-is =
      sym (ap (λ (c : Option Name). option_map_or (λ (t : TableSet). t.set.length) (option_and_then (entry_at tables.sets) c) 0) check_is
      ∙ ap (λ (found : Option TableSet). option_map_or (λ (t : TableSet). t.set.length) found 0) there)

  end-is : entry_end check table tables row start.owned on ≡ model.entry_end tables.sets row start progress
  end-is = ap (λ n. n + records_of (entry_bytes check tables row start.owned on)) place-is ∙ ap (λ n. model.entry_place tables.sets start + records_of n) bytes-is

  lengths-are : map (length_behind (Some check) (entry_end check table tables row start.owned on) on.sets.sets) (output_names row.job.root start.owned) ≡ lengths_with tables.sets start progress.writes (model.entry_end tables.sets row start progress)
  lengths-are =
      ap (λ n. map (length_behind (Some check) n on.sets.sets) (output_names row.job.root start.owned)) end-is
      ∙ ap (λ c. map (length_behind c (model.entry_end tables.sets row start progress) on.sets.sets) (output_names row.job.root start.owned)) (sym check_is)
      ∙ ap (λ root. map (length_behind (check_set start) (model.entry_end tables.sets row start progress) on.sets.sets) (output_names root start.owned)) far.root
      ∙ map-same (length_behind (check_set start) (model.entry_end tables.sets row start progress) on.sets.sets) _ (output_names start.root start.owned)
      (λ name among. ap (λ n. if is_check_set start name then model.entry_end tables.sets row start progress else n) (far.lengths name among))

  abbrev event_so : Name → ℕ → ℕ → List ℕ → ℕ → ℕ → Event
  event_so id taken writes lengths place bytes = Checkpointed row.number id taken writes (record { items = lengths }) place bytes

  pub event-same : event_in_set tables row start.owned on check table ≡ checkpoint_event tables.sets row start progress
  event-same =
      ap (λ n. event_so (id_by start.owned.step.parm.ids.items (suc row.count) (suc (step_entries row n))) (taken_in on.step.state) on.step.writes
      (map (length_behind (Some check) (entry_end check table tables row start.owned on) on.sets.sets) (output_names row.job.root start.owned)) table.set.length (entry_bytes check tables row start.owned on)) far.number
      ∙ ap (λ n. event_so (model.next_id row start) n on.step.writes (map (length_behind (Some check) (entry_end check table tables row start.owned on) on.sets.sets) (output_names row.job.root start.owned)) table.set.length (entry_bytes check tables row start.owned on)) far.taken
      ∙ ap (λ n. event_so (model.next_id row start) progress.taken n (map (length_behind (Some check) (entry_end check table tables row start.owned on) on.sets.sets) (output_names row.job.root start.owned)) table.set.length (entry_bytes check tables row start.owned on)) far.writes
      ∙ ap (λ lengths. event_so (model.next_id row start) progress.taken progress.writes lengths table.set.length (entry_bytes check tables row start.owned on)) lengths-are
      ∙ ap (λ n. event_so (model.next_id row start) progress.taken progress.writes (lengths_with tables.sets start progress.writes (model.entry_end tables.sets row start progress)) n (entry_bytes check tables row start.owned on)) place-is
      ∙ ap (event_so (model.next_id row start) progress.taken progress.writes (lengths_with tables.sets start progress.writes (model.entry_end tables.sets row start progress)) (model.entry_place tables.sets start)) bytes-is

  pub fits-so : checkpoint_fits tables.sets row start progress ≡ true
  fits-so = both.0

  pub entry-is : model.next_entry tables.sets row start progress ≡ entry_to (Some check) (entry_end check table tables row start.owned on) tables row start.owned on
  entry-is = both.1

-- what is made for a step is that of its job
pub record IsOfJob (tables : TablesModel) (row : RunRow) (start : StepStart) (progress : StepProgress) (made : Checkpoint) : Type 0 where
  pub fits : checkpoint_fits tables.sets row start progress ≡ true
  pub event : made.event ≡ checkpoint_event tables.sets row start progress
  pub entry : made.entry.items ≡ spelling (model.next_entry tables.sets row start progress)

pub is-of-job : (tables : TablesModel) (row : RunRow) (start : StepStart) (on : RunningStepView) (progress : StepProgress) (its : Checkpoint) (c : IsCheckpointOf tables on its) → IsAsFar tables row start on progress → c.row ≡ row → c.own ≡ start.owned → IsOfJob tables row start progress its
is-of-job tables row start on progress its c far row_is own_is =
    let named : named_by row.job.root start.owned ≡ Some c.check = ap (λ (r : RunRow). named_by r.job.root start.owned) (sym row_is) ∙ ap (named_by c.row.job.root) (sym own_is) ∙ c.named in
    let fits : fits_in c.check c.table tables row start.owned on ≡ true = ap (λ (r : RunRow). fits_in c.check c.table tables r start.owned on) (sym row_is) ∙ ap (λ (o : OwnedStep). fits_in c.check c.table tables c.row o on) (sym own_is) ∙ c.fits in
    record {
      fits = fits-so tables row start on progress far c.check c.table named c.there fits;
      event =
          c.event ∙ ap (λ (r : RunRow). event_in_set tables r c.own on c.check c.table) row_is ∙ ap (λ (o : OwnedStep). event_in_set tables row o on c.check c.table) own_is
          ∙ event-same tables row start on progress far c.check c.table named c.there fits;
      entry =
          c.entry ∙ ap (λ (r : RunRow). spelling (entry_to (Some c.check) (entry_end c.check c.table tables r c.own on) tables r c.own on)) row_is
          ∙ ap (λ (o : OwnedStep). spelling (entry_to (Some c.check) (entry_end c.check c.table tables row o on) tables row o on)) own_is
          ∙ ap spelling (sym (entry-is tables row start on progress far c.check c.table named c.there fits));
    }
