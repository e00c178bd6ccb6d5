-- A checkpoint as it is made of the next entry of a run that is known, and of the data set for checkpoints of its step.
use Rattle.std.proofs.Common.{◌≡◌, ◌≤◌, ◌+◌, ℕ, true, List, [], length, map, refl, ap, sym, ◌∙◌, subst, Option, Some, arith}
use Rattle.std.specs.Option.{option_map_or}
use Rattle.ckr_base.specs.Grammar.{is_check_id}
use Rattle.ckr_entry.specs.Entry.{spelling}
use Rattle.ckr_entry.specs.Parts.{Entry}
use Rattle.ckr_events.specs.declared.event.Event.TheVariants.{Checkpointed}
use Rattle.ckr_library.proofs.Named.{each-at}
use Rattle.ckr_library.specs.Catalog.{fresh_holding, records_of}
use Rattle.ckr_library.specs.NameMaps.{Name, entry_at, with_entry}
use Rattle.ckr_library.specs.declared.sets.DataSet.{DataSet}
use Rattle.ckr_meaning.specs.EffectiveJob.{Effective, OwnedStep, step_at}
use Rattle.ckr_points.specs.Restart.{place_of, step_in}
use Rattle.ckr_points.specs.Rows.{RunRow, TableSet, TablesModel, run_of, step_of_run}
use Rattle.ckr_points.specs.Soundness.{AreLaidOut}
use Rattle.ckr_desk_plans.specs.Model.Commit.{output_names}
use Rattle.ckr_points_tables.specs.Checkpoint.{checkpoint_name}
use Rattle.ckr_points_tables.specs.RunJobs.{effective}
use Rattle.ckr_points_tables.specs.Model.RunTable.{RunTable}
use Rattle.ckr_volumes.specs.Layouts.{StandsIn}
use Rattle.ckr_volumes.specs.declared.layout.Layout.{Layout}
use Rattle.ckr_desk_plans.specs.declared.checkpoint.Checkpoint.{Checkpoint}
use Rattle.ckr_desk_memory.specs.Checkpoints.{IsCheckpointOf}
use Rattle.ckr_desk_plans.specs.Entries.{entry_bytes, entry_end, entry_to, fits_in, next_entry, next_id, step_now}
use Rattle.ckr_desk_plans.specs.EntryMarks.{length_behind}
use Rattle.ckr_desk_plans.specs.EntryTypes.{IsFormedWithState, IsTyped}
use Rattle.ckr_desk_memory.specs.Plans.{IsKnown, row_for}
use Rattle.ckr_desk_memory.specs.View.{RunningStepView, lengths_in, lengths_of_row}
use Rattle.ckr_desk_memory.proofs.Checkpoints.{PassesTests, entry-id, entry-taken, entry-writes, event-is, lengths-are, next-fits, passes-tests}
use Rattle.ckr_desk_memory.proofs.EntrySizes.{entry-size}
use Rattle.ckr_desk_memory.proofs.FoundRuns.{known-is}

module _ (tables : TablesModel) (on : RunningStepView) (table : RunTable) (known : IsKnown tables on.run table) (own : OwnedStep) (found : Some own ≡ step_at (effective on.run table.job) (step_in (place_of (row_for on.run table)))) where
  pub own-found : step_of_run known.row (step_now known.row) ≡ Some own
  own-found = known-is tables on.run table known (λ row. step_of_run row (step_now row)) refl ∙ sym found

  -- its data set for checkpoints, by the root of its run
  pub name-is : checkpoint_name known.row.job.root own ≡ checkpoint_name table.job.root own
  name-is = ap (λ (job : Effective). checkpoint_name job.root own) known.job

  module _ (check : Name) (named : Some check ≡ checkpoint_name table.job.root own) (kept : TableSet) (there : entry_at tables.sets check ≡ Some kept) (entry : Entry)
      (is : (row : RunRow) (its : OwnedStep) → run_of tables on.run ≡ Some row → step_of_run row (step_now row) ≡ Some its → Some entry ≡ next_entry tables row its on) where
    abbrev its_end : ℕ
    its_end = entry_end check kept tables known.row own on

    fits : (fits_in check kept tables known.row own on ≡ true) × (entry ≡ entry_to (Some check) its_end tables known.row own on)
    fits = next-fits check kept tables known.row own on entry (is known.row own known.found own-found) (name-is ∙ sym named) there

    tests : PassesTests check kept tables known.row own on
    tests = passes-tests check kept tables known.row own on fits.0

    id_is : entry.id ≡ next_id known.row own
    id_is = ap (λ (e : Entry). e.id) fits.1 ∙ entry-id check kept tables known.row own on

    pub id-grammar : is_check_id entry.id ≡ true
    id-grammar = ap is_check_id id_is ∙ tests.grammar

    module _ (bytes : List ℕ) (set : DataSet) (spelled : bytes ≡ spelling entry) (set_is : set ≡ kept.set) where
      size_is : length bytes ≡ entry_bytes check tables known.row own on
      size_is = ap length spelled ∙ ap (λ (e : Entry). length (spelling e)) fits.1 ∙ entry-size check its_end tables known.row own on

      end_is : set.length + records_of (length bytes) ≡ its_end
      end_is = ap (λ (s : DataSet). s.length + records_of (length bytes)) set_is ∙ ap (λ n. kept.set.length + records_of n) size_is

      pub end-most : (layout : Layout) → AreLaidOut layout tables.sets → set.length + records_of (length bytes) ≤ 1000000
      end-most layout laid =
          let space : kept.set.space ≤ 1000000 = (each-at (λ (t : TableSet). StandsIn layout t.set) tables.sets laid.stand check kept there).space_below in
          omega (arith, end_is, tests.space, space)

      lengths_are : lengths_of_row (with_entry check (fresh_holding (record set { length = set.length + records_of (length bytes) })) on.sets.sets) (row_for on.run table)
          ≡ map (length_behind (Some check) its_end on.sets.sets) (output_names known.row.job.root own)
      lengths_are =
          ap (λ n. lengths_of_row (with_entry check (fresh_holding (record set { length = n })) on.sets.sets) (row_for on.run table)) end_is
          ∙ sym (known-is tables on.run table known (lengths_of_row (with_entry check (fresh_holding (record set { length = its_end })) on.sets.sets)) refl)
          ∙ ap (λ (o : Option OwnedStep). option_map_or (lengths_in (with_entry check (fresh_holding (record set { length = its_end })) on.sets.sets) known.row.job.root) o []) own-found
          ∙ lengths-are check kept tables known.row own on set (output_names known.row.job.root own)

      pub checkpoint-is : IsTyped on.step.state → IsFormedWithState entry → (made : Checkpoint) → made.entry.items ≡ bytes → made.set ≡ set
          → made.event
          ≡ Checkpointed on.run entry.id entry.taken entry.writes
          (record { items = lengths_of_row (with_entry check (fresh_holding (record set { length = set.length + records_of (length bytes) })) on.sets.sets) (row_for on.run table) }) set.length (length bytes)
          → IsCheckpointOf tables on made
      checkpoint-is typed form made entry_is same event = record {
        row = known.row;
        own = own;
        row_at = known.found;
        found = own-found;
        check = check;
        table = kept;
        named = name-is ∙ sym named;
        there = there;
        fits = fits.0;
        entry = entry_is ∙ spelled ∙ ap spelling fits.1;
        set = same ∙ set_is;
        event =
            event
            ∙ event-is check kept tables known.row own on on.run entry.taken entry.writes set.length (length bytes) entry.id _ (sym known.numbered) id_is
            (ap (λ (e : Entry). e.taken) fits.1 ∙ entry-taken check kept tables known.row own on) (ap (λ (e : Entry). e.writes) fits.1 ∙ entry-writes check kept tables known.row own on)
            lengths_are (ap (λ (s : DataSet). s.length) set_is) size_is;
        typed = typed;
        form = subst IsFormedWithState fits.1 form;
      }
