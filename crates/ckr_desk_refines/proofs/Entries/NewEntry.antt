-- The entry that a step has written is the new one that its checkpoint's event keeps.
use Rattle.std.proofs.Common.{◌≡◌, ℕ, ◌+◌, List, ap, sym, ◌∙◌, subst, Option, Some}
use Rattle.std.specs.Prelude.{option_and_then}
use Rattle.std.specs.Option.{option_map}
use Rattle.std.proofs.lemmas.Option.{same_Some}
use Rattle.ckr_library.specs.declared.sets.Kept.{Kept}
use Rattle.ckr_library.specs.NameMaps.{entry_at}
use Rattle.ckr_meaning.specs.EffectiveJob.{Effective, OwnedStep, step_at}
use Rattle.ckr_points.specs.Office.{Office}
use Rattle.ckr_points.specs.Restart.{place_of, step_in}
use Rattle.ckr_points.specs.Rows.{RunRow, TableSet, TablesModel, run_of, step_of_run}
use Rattle.ckr_points.specs.Tables.{is_checkpoints, name_with_role}
use Rattle.ckr_volumes.specs.declared.layout.Layout.{Layout}
use Rattle.ckr_desk_refines.specs.Entries.{HasNewEntry, IsEntryThere, HasWritten, entry_taken, jobs_of, program_at}
use Rattle.ckr_desk_refines.proofs.Entries.Events.{AreNumbered}
use Rattle.ckr_desk_refines.proofs.Entries.Rows.{job-of}
use Rattle.ckr_desk_refines.proofs.Entries.There.{same-record}

-- the program of the step that a run is in
pub program-now : (tables : TablesModel) (row : RunRow) (owned : OwnedStep) (step : ℕ) → run_of tables row.number ≡ Some row → step_of_run row step ≡ Some owned → program_at (jobs_of tables) row.number step ≡ Some owned.step.program
program-now tables row owned step e found =
    ap (λ (o : Option Effective). option_map (λ (owned : OwnedStep). owned.step.program) (option_and_then (λ job. step_at job step) o)) (job-of tables row.number row e)
    ∙ ap (option_map (λ (owned : OwnedStep). owned.step.program)) found

module _ (layout : Layout) (now : Office) (numbered : AreNumbered now.tables) (image : List ℕ) (kept : Kept) (taken writes : ℕ) (lengths : List ℕ) where
  abbrev tables : TablesModel
  tables = now.tables

  pub new-written : (row : RunRow) (owned : OwnedStep) (table : TableSet) → run_of tables kept.run ≡ Some row → step_of_run row (step_in (place_of row)) ≡ Some owned → entry_at tables.sets (name_with_role row.job.root owned is_checkpoints) ≡ Some table
      → HasWritten layout now.legs image table.set owned (entry_taken tables row owned kept taken writes lengths) → HasNewEntry layout now kept taken writes lengths image
  new-written row owned table e found at its other own_other there other_e other_found other_at =
      subst (λ (row : RunRow). (own_other : OwnedStep) (there : TableSet) → step_of_run row (step_in (place_of row)) ≡ Some own_other → entry_at tables.sets (name_with_role row.job.root own_other is_checkpoints) ≡ Some there → IsEntryThere layout now.legs (jobs_of tables) image there.set (entry_taken tables row own_other kept taken writes lengths))
      (same_Some row other (sym e ∙ other_e)) by_row own_other there other_found other_at
    where
      here : IsEntryThere layout now.legs (jobs_of tables) image table.set (entry_taken tables row owned kept taken writes lengths)
      here = record {
        state = its.state;
        of_job = its.of_job;
        fits = its.fits;
        bytes = its.bytes;
        there = λ n less. sym (same-record image layout table.set its.set its.places (kept.place + n)) ∙ its.there n less;
        program = program-now tables row owned (step_in (place_of row)) (ap (run_of tables) (numbered kept.run row e) ∙ e) found ∙ ap Some (sym its.program);
      }

      by_row : (own_other : OwnedStep) (there : TableSet) → step_of_run row (step_in (place_of row)) ≡ Some own_other → entry_at tables.sets (name_with_role row.job.root own_other is_checkpoints) ≡ Some there → IsEntryThere layout now.legs (jobs_of tables) image there.set (entry_taken tables row own_other kept taken writes lengths)
      by_row own_other there its_found its_at =
          subst (λ (owned : OwnedStep). entry_at tables.sets (name_with_role row.job.root owned is_checkpoints) ≡ Some there → IsEntryThere layout now.legs (jobs_of tables) image there.set (entry_taken tables row owned kept taken writes lengths))
          (same_Some owned own_other (sym found ∙ its_found))
          (λ its_at. subst (λ (table : TableSet). IsEntryThere layout now.legs (jobs_of tables) image table.set (entry_taken tables row owned kept taken writes lengths)) (same_Some table there (sym at ∙ its_at)) here)
          its_at
