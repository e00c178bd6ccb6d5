-- What opening refuses of the entries: that of a checkpoint in effect which isn't read as a point of its run's step.
use Rattle.std.specs.Prelude.{◌==◌, ℕ, Bool, false, ◌&&◌, if◌then◌else◌, List, [], ◌∷◌, option_and_then, Option, None, Some, Result, Ok, Err}
use Rattle.std.specs.List.{list_all}
use Rattle.std.specs.Option.{is_some, option_map_or}
use Rattle.ckr_entry.specs.Entry.{entry_in, told_offset}
use Rattle.ckr_entry.specs.Parts.{Entry}
use Rattle.ckr_entry.specs.declared.point.Mark.{Mark}
use Rattle.ckr_library.specs.NameMaps.{Name, entry_at}
use Rattle.ckr_meaning.specs.EffectiveJob.{OwnedStep, names_of}
use Rattle.ckr_points.specs.Follows.{own_step}
use Rattle.ckr_points.specs.Marks.{present_at}
use Rattle.ckr_points.specs.Office.{is_holder}
use Rattle.ckr_points.specs.Restart.{place_of, step_in}
use Rattle.ckr_points.specs.Rows.{EffectPoint, RunRow, TablesModel}
use Rattle.ckr_points.specs.Statements.{kind_number}
use Rattle.ckr_steps.specs.EntryRecords.{bytes_on}
use Rattle.ckr_steps.specs.Units.{program_of}
use Rattle.ckr_volumes.specs.declared.layout.Layout.{Layout}

-- each of these names was there at the point
abbrev pub are_present : List Mark → List Name → Bool
are_present marks names = list_all (λ name. is_some (present_at marks name)) names

-- a point of the step's owner and number, with a state of its program, at which each name of the step was there
abbrev pub is_of_step : ℕ → OwnedStep → ℕ → Entry → Bool
is_of_step root owned step entry =
    entry.owner == owned.owner && entry.step == step
    && kind_number (program_of entry.state) == kind_number owned.step.program
    && are_present entry.marks (names_of root owned)

-- where bytes aren't read as a point of the step: the decoder's offset, or 0 where they are another point
abbrev pub fault_in : (Entry → Bool) → Result Entry ℕ → Option ℕ
fault_in is_right (Ok entry) = if is_right entry then None else Some 0
fault_in is_right (Err offset) = Some (told_offset offset)

-- whether an entry is a point of the step that the run is in
abbrev pub is_of_run : RunRow → Entry → Bool
is_of_run row entry = option_map_or (λ owned. is_of_step row.job.root owned (step_in (place_of row)) entry) (own_step row) false

-- what is wrong with the entry of a checkpoint in effect
abbrev pub effect_fault : Layout → TablesModel → List ℕ → RunRow → EffectPoint → Option ℕ
effect_fault layout tables image row effect =
    option_map_or (λ table. fault_in (is_of_run row) (entry_in (bytes_on image layout table.set effect.kept.place effect.kept.bytes)))
    (entry_at tables.sets effect.set) (Some 0)

-- a run that runs, is held or released is judged
abbrev pub run_fault : Layout → TablesModel → List ℕ → RunRow → Option ℕ
run_fault layout tables image row =
    if is_holder row.state then option_and_then (effect_fault layout tables image row) row.in_effect else None

abbrev pub first_fault : (RunRow → Option ℕ) → List RunRow → Option (ℕ × ℕ)
first_fault fault [] = None
first_fault fault (row ∷ rows) = option_map_or (λ offset. Some (row.number, offset)) (fault row) (first_fault fault rows)

-- the least run whose entry is refused, and where
abbrev pub entry_refusal : Layout → TablesModel → List ℕ → Option (ℕ × ℕ)
entry_refusal layout tables image = first_fault (run_fault layout tables image) tables.runs
