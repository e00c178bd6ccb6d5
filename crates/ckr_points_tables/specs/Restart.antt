-- What an automatic restart makes of a run, and of the library.
use Rattle.std.specs.Prelude.{◌≡◌, ◌≤◌, ◌<◌, ℕ, Bool, true, false, find, List, length, Option, None, Some}
use Rattle.std.specs.Option.{option_and_then, option_map, option_map_or}
use Rattle.ckr_entry.specs.declared.point.Mark.{Mark}
use Rattle.ckr_entry.specs.declared.point.Passed.{Passed}
use Rattle.ckr_library.specs.Catalog.{Holding, kept_in}
use Rattle.ckr_library.specs.NameMaps.{Name, Named, entry_at, same_name}
use Rattle.ckr_library.specs.declared.sets.Kept.{Kept}
use Rattle.ckr_meaning.specs.EffectiveJob.{OwnedStep, names_of}
use Rattle.ckr_meaning.specs.declared.place.Place.{Place}
use Rattle.ckr_meaning.specs.declared.place.Place.TheVariants.{Opened, Within}
use Rattle.ckr_points.specs.Marks.{point_at, with_point}
use Rattle.ckr_points.specs.Restart.{effect_restarted, point_restarted, step_in}
use Rattle.ckr_points.specs.Rows.{EffectPoint, EntryPoint, StartPoint}
use Rattle.ckr_points.specs.declared.run.Run.{Run}
use Rattle.ckr_points.specs.declared.run.RunState.TheVariants.{On}
use Rattle.ckr_points_library.specs.Commit.{output_names}
use Rattle.ckr_points_runs.specs.PutBack.{all_made_gone, sets_back}
use Rattle.ckr_points_runs.specs.RunChange.{Going, by_step_of, going, place_now}
use Rattle.ckr_points_runs.specs.View.{RunTableView, entry_point_of}
use Rattle.ckr_points_tables.specs.View.{Writings, no_point, point_for}
use Rattle.ckr_points_runs.specs.declared.run_table.WrittenEntry.{WrittenEntry}

-- the line of a run that goes on
abbrev pub line_on : ℕ → Run → Run
line_on initiator line = record line { state = On; initiator = Some initiator }

-- a run that waits with no code, at a place with so many entries
abbrev pub facts_back : Place → ℕ → RunTableView → RunTableView
facts_back place count facts = record facts { place = Some place; code = None; count = count }

-- the library as it was at the start of a step
abbrev pub sets_at_start : ℕ → List Mark → Named Holding → OwnedStep → Named Holding
sets_at_start root marks sets own = sets_back marks (output_names root own) (names_of root own) (all_made_gone marks (names_of root own) sets)

-- a run that goes back to the start of a step, with the whole passed list of its point
abbrev pub back_at_start : ℕ → ℕ → Going Holding → OwnedStep → StartPoint → Going Holding
back_at_start initiator step now own point =
    going (line_on initiator now.line)
    (record (facts_back (Opened step) point.count now.facts) {
      passed = point.passed;
      points = with_point (point_restarted point) now.facts.points;
      in_effect = None;
    })
    (sets_at_start now.facts.job.root point.marks now.sets own)

abbrev pub step_restarted : ℕ → ℕ → Going Holding → OwnedStep → Going Holding
step_restarted initiator step now own = option_map_or (back_at_start initiator step now own) (point_at now.facts.points step) now

-- the library as it was at a checkpoint
abbrev pub sets_at_entry : ℕ → List Mark → Named Holding → OwnedStep → Named Holding
sets_at_entry root marks sets own = sets_back marks (output_names root own) (names_of root own) sets

-- a run that goes back to a checkpoint, with the whole passed list of its point
abbrev pub back_at_entry : ℕ → ℕ → EffectPoint → Going Holding → OwnedStep → EntryPoint → Going Holding
back_at_entry initiator step effect now own point =
    going (line_on initiator now.line)
    (record (facts_back (Within step point.writes) point.count now.facts) {
      passed = point.passed;
      in_effect = Some (effect_restarted effect);
    })
    (sets_at_entry now.facts.job.root point.marks now.sets own)

-- the first entry of an identifier that a data set keeps
abbrev pub kept_under : Named Holding → Name → Name → Option Kept
kept_under sets set id = find (λ (one : Kept). same_name one.id id) (kept_in (entry_at sets set))

-- the point of a checkpoint that is in effect, if its entry is kept
abbrev pub point_under : Writings → Named Holding → EffectPoint → Option EntryPoint
point_under writings sets effect = option_map (point_for writings effect.set) (kept_under sets effect.set effect.kept.id)

abbrev pub effect_restart : Writings → ℕ → ℕ → Going Holding → OwnedStep → EffectPoint → Going Holding
effect_restart writings initiator step now own effect = option_map_or (back_at_entry initiator step effect now own) (point_under writings now.sets effect) now

abbrev pub check_restarted : Writings → ℕ → ℕ → Going Holding → OwnedStep → Going Holding
check_restarted writings initiator step now own = option_map_or (effect_restart writings initiator step now own) now.facts.in_effect now

-- a run that is restarted in its step, at the checkpoint in effect or at the start of the step
abbrev pub restarted : Writings → Bool → ℕ → Going Holding → Going Holding
restarted writings true initiator now = by_step_of (step_in (place_now now.facts)) (check_restarted writings initiator (step_in (place_now now.facts)) now) now
restarted writings false initiator now = by_step_of (step_in (place_now now.facts)) (step_restarted initiator (step_in (place_now now.facts)) now) now

-- the point of an entry that was written, or no point
abbrev pub point_written : Option WrittenEntry → EntryPoint
point_written found = option_map_or entry_point_of found no_point

-- ---- room

-- a spare place for each data set that was passed on
abbrev pub HasPassedFor : ℕ → Option (List Passed) → Type 0
HasPassedFor room None = Unit {0}
HasPassedFor room (Some passed) = length passed ≤ room

-- what was passed on at the start of a step
abbrev pub passed_at_start : List StartPoint → ℕ → Option (List Passed)
passed_at_start points step = option_map (λ (point : StartPoint). point.passed) (point_at points step)

-- what was passed on at the checkpoint in effect
abbrev pub passed_at_entry : Writings → Named Holding → Option EffectPoint → Option (List Passed)
passed_at_entry writings sets in_effect = option_and_then (λ (effect : EffectPoint). option_map (λ (point : EntryPoint). point.passed) (point_under writings sets effect)) in_effect

-- what was passed on at the point to which a run goes back
abbrev pub passed_for : Bool → Writings → Named Holding → RunTableView → Option (List Passed)
passed_for true writings sets facts = passed_at_entry writings sets facts.in_effect
passed_for false writings sets facts = passed_at_start facts.points (step_in (place_now facts))

-- one more restart can be counted at that point
abbrev pub HasFewRestarts : Bool → RunTableView → Type 0
HasFewRestarts true facts = (effect : EffectPoint) → facts.in_effect ≡ Some effect → effect.restarts < 255
HasFewRestarts false facts = (point : StartPoint) → point_at facts.points (step_in (place_now facts)) ≡ Some point → point.restarts < 255
