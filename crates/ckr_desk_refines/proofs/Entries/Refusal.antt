-- Opening refuses no entry of a checkpoint in effect that the image has.
use Rattle.std.proofs.Common.{◌≡◌, ℕ, suc, Bool, true, false, if◌then◌else◌, List, [], ◌∷◌, refl, ap, sym, ◌∙◌, subst, Option, Some, None}
use Rattle.std.specs.Prelude.{slice_get, find, option_and_then, ◌==◌}
use Rattle.std.specs.List.{AllByRecursion}
use Rattle.std.specs.Option.{option_map_or}
use Rattle.std.proofs.lemmas.Bool.{and_from}
use Rattle.ckr_base.proofs.Bools.{bool-cases}
use Rattle.ckr_base.proofs.Numbers.{equal-from}
use Rattle.ckr_base.proofs.Options.{option-cases, some-not-none, some-one}
use Rattle.ckr_base.proofs.Sequences.{find-holds}
use Rattle.ckr_entry.specs.Entry.{entry_in}
use Rattle.ckr_entry.specs.Parts.{Entry}
use Rattle.ckr_entry.specs.declared.point.State.{State}
use Rattle.ckr_library.specs.declared.sets.Kept.{Kept}
use Rattle.ckr_library.specs.NameMaps.{Name, Named, entry_at, same_name}
use Rattle.ckr_meaning.specs.EffectiveJob.{OwnedStep, names_of}
use Rattle.ckr_meaning.specs.JobRun.{start_at}
use Rattle.ckr_meaning.specs.Program.{ProgramCase}
use Rattle.ckr_meaning.specs.StepRun.{StepStart, case_at}
use Rattle.ckr_points.specs.Office.{Leg, Office, is_holder}
use Rattle.ckr_points.specs.Restart.{kept_at, place_of, step_in}
use Rattle.ckr_points.specs.Rows.{EffectPoint, KeptEntry, RunRow, TableSet, TablesModel}
use Rattle.ckr_points.specs.Statements.{kind_number}
use Rattle.ckr_steps.specs.EntryRecords.{bytes_on}
use Rattle.ckr_steps.specs.Units.{program_of}
use Rattle.ckr_volumes.specs.declared.layout.Layout.{Layout}
use Rattle.ckr_desk_turn.specs.Checkpoints.{entry_with}
use Rattle.ckr_desk_turn.specs.EntryStates.{checkpoint_state}
use Rattle.ckr_desk_refines.specs.Entries.{HasEntries, IsReadBack, IsStateOfJob, jobs_of}
use Rattle.ckr_desk_entries.specs.EntryRefusal.{are_present, effect_fault, entry_refusal, fault_in, first_fault, is_of_run, is_of_step, run_fault}
use Rattle.ckr_desk_refines.specs.InEffect.{AreInEffect, IsInEffect}
use Rattle.ckr_desk_refines.proofs.Entries.Images.{read-back}
use Rattle.ckr_desk_refines.proofs.Entries.States.{state-program}

-- a state of an entry's job at a step of that job
pub state-of : (legs : List Leg) (entry : KeptEntry) (state : State) (leg : Leg) (start : StepStart) → find (λ (leg : Leg). leg.number == entry.point.run) legs ≡ Some leg → start_at leg.job leg.start entry.point.step ≡ Some start → (its : IsStateOfJob legs entry state) → state ≡ checkpoint_state (case_at start) entry.point.taken its.entries
state-of legs entry state leg start led begun its =
    its.is
    ∙ ap (λ (s : StepStart). checkpoint_state (case_at s) entry.point.taken its.entries)
    (some-one its.start start (start_at leg.job leg.start entry.point.step)
    (ap (λ (leg : Leg). start_at leg.job leg.start entry.point.step) (some-one leg its.leg (find (λ (leg : Leg). leg.number == entry.point.run) legs) led its.led) ∙ its.begun) begun)

-- what is kept under a name is kept by its data set
pub kept-table : (sets : Named TableSet) (set id : Name) (entry : KeptEntry) → kept_at sets set id ≡ Some entry → (table : TableSet) × (entry_at sets set ≡ Some table) × ((P : KeptEntry → Type 0) → AllByRecursion P table.entries → P entry)
kept-table sets set id entry at = by (entry_at sets set) refl
  where
    by : (o : Option TableSet) → entry_at sets set ≡ o → (table : TableSet) × (entry_at sets set ≡ Some table) × ((P : KeptEntry → Type 0) → AllByRecursion P table.entries → P entry)
    by None e = absurd (some-not-none entry (sym at ∙ ap (λ (o : Option TableSet). option_map_or (λ table. find (λ (one : KeptEntry). same_name one.kept.id id) table.entries) o None) e))
    by (Some table) e = (
      table,
      e,
      λ P each. find-holds P (λ (one : KeptEntry). same_name one.kept.id id) table.entries entry each
          (sym (ap (λ (o : Option TableSet). option_map_or (λ table. find (λ (one : KeptEntry). same_name one.kept.id id) table.entries) o None) e) ∙ at),
    )

module _ (layout : Layout) (office : Office) (image : List ℕ) (has : HasEntries layout office image) (are : AreInEffect office) where
  abbrev tables : TablesModel
  tables = office.tables

  module _ (row : RunRow) (effect : EffectPoint) (its : IsInEffect office row effect) where
    -- its program is that of the run's step
    program-so : (entry : KeptEntry) → entry ≡ its.entry → (state : State) → IsStateOfJob office.legs entry state → program_of state ≡ its.owned.step.program
    program-so entry is state of_job =
        let told : IsStateOfJob office.legs its.entry state = subst (λ (entry : KeptEntry). IsStateOfJob office.legs entry state) is of_job in
        ap program_of (state-of office.legs its.entry state its.same.taker its.same.begun its.same.taker_led its.same.begins told)
        ∙ ap (λ (case : ProgramCase). program_of (checkpoint_state case its.entry.point.taken told.entries)) its.same.same
        ∙ state-program its.same.start its.entry.point.taken told.entries
        ∙ its.same.program

    right : (entry : KeptEntry) → entry ≡ its.entry → (read : Entry) → (set : TableSet) → (back : IsReadBack layout office.legs (jobs_of tables) image set.set entry) → read ≡ entry_with entry.kept.id back.state entry.point → is_of_run row read ≡ true
    right entry is read set back same =
        ap (λ (o : Option OwnedStep). option_map_or (λ owned. is_of_step row.job.root owned (step_in (place_of row)) read) o false) its.found
        ∙ ap (is_of_step row.job.root its.owned (step_in (place_of row))) same
        ∙ and_from _ _
        (and_from _ _
        (and_from (entry.point.owner == its.owned.owner) (entry.point.step == step_in (place_of row))
        (equal-from _ _ (ap (λ (e : KeptEntry). e.point.owner) is ∙ its.owner))
        (equal-from _ _ (ap (λ (e : KeptEntry). e.point.step) is ∙ its.step)))
        (equal-from _ _ (ap kind_number (program-so entry is back.state back.of_job))))
        (ap (λ (e : KeptEntry). are_present e.point.marks (names_of row.job.root its.owned)) is ∙ its.present)

    effect-right : effect_fault layout tables image row effect ≡ None
    effect-right =
        let there = kept-table tables.sets effect.set effect.kept.id its.entry its.at in
        let table : TableSet = there.0 in
        let back : IsReadBack layout office.legs (jobs_of tables) image table.set its.entry = there.2 (IsReadBack layout office.legs (jobs_of tables) image table.set) (read-back layout office image has effect.set table there.1) in
        ap (λ (o : Option TableSet). option_map_or (λ table. fault_in (is_of_run row) (entry_in (bytes_on image layout table.set effect.kept.place effect.kept.bytes))) o (Some 0)) there.1
        ∙ ap (λ (kept : Kept). fault_in (is_of_run row) (entry_in (bytes_on image layout table.set kept.place kept.bytes))) (sym its.kept)
        ∙ ap (fault_in (is_of_run row)) back.read
        ∙ ap (λ (b : Bool). if b then None else Some 0) (right its.entry refl (entry_with its.entry.kept.id back.state its.entry.point) table back refl)

  run-right : (row : RunRow) → ((effect : EffectPoint) → row.in_effect ≡ Some effect → IsInEffect office row effect) → run_fault layout tables image row ≡ None
  run-right row each =
      bool-cases (is_holder row.state)
      (λ holds.
      ap (λ (b : Bool). if b then option_and_then (effect_fault layout tables image row) row.in_effect else None) holds
      ∙ option-cases row.in_effect
      (λ none. ap (λ (o : Option EffectPoint). option_and_then (effect_fault layout tables image row) o) none)
      (λ effect e. ap (λ (o : Option EffectPoint). option_and_then (effect_fault layout tables image row) o) e ∙ effect-right row effect (each effect e)))
      (λ out. ap (λ (b : Bool). if b then option_and_then (effect_fault layout tables image row) row.in_effect else None) out)

  none-first : (rows : List RunRow) → ((place : ℕ) (row : RunRow) → slice_get rows place ≡ Some row → run_fault layout tables image row ≡ None) → first_fault (run_fault layout tables image) rows ≡ None
  none-first [] each = refl
  none-first (row ∷ rows) each =
      ap (λ (o : Option ℕ). option_map_or (λ offset. Some (row.number, offset)) o (first_fault (run_fault layout tables image) rows)) (each 0 row refl)
      ∙ none-first rows (λ place one at. each (suc place) one at)

  pub nothing-refused : entry_refusal layout tables image ≡ None
  nothing-refused = none-first tables.runs (λ place row at. run-right row (λ effect e. are (suc place) row effect at e))
