-- What the selection of a run that continues another one makes of it, and of the library.
use Rattle.std.specs.Prelude.{◌≡◌, ℕ, ◌+◌, ◌≤◌, pred, take, Bool, length, vec_len, vec_capacity, true, false, List, [], ◌∷◌, ◌++◌, Option, None, Some}
use Rattle.std.specs.Option.{option_and_then, option_map, option_map_or, option_or}
use Rattle.ckr_entry.specs.declared.point.Mark.{Mark}
use Rattle.ckr_entry.specs.declared.point.Passed.{Passed}
use Rattle.ckr_jcl.specs.declared.deck.Job.{Job}
use Rattle.ckr_library.specs.Catalog.{Holding}
use Rattle.ckr_library.specs.NameMaps.{Name, Named}
use Rattle.ckr_library.specs.declared.sets.Kept.{Kept}
use Rattle.ckr_meaning.specs.EffectiveJob.{Effective, OwnedStep, names_of_job, step_at}
use Rattle.ckr_meaning.specs.JobRun.{StepCodes}
use Rattle.ckr_meaning.specs.declared.place.Place.{Place}
use Rattle.ckr_meaning.specs.declared.place.Place.TheVariants.{Opened, Within}
use Rattle.ckr_points.specs.Marks.{deck_names, lost_names, mark_at, mark_now, marks_for, point_at, sysout_names}
use Rattle.ckr_points.specs.Restart.{kept_at, rcs_before, syschk_name, without_names}
use Rattle.ckr_points.specs.Rows.{EffectPoint, KeptEntry, RunRow, StartPoint, TablesModel, run_of}
use Rattle.ckr_points.specs.Tables.{fresh_effect, kept_entry}
use Rattle.ckr_points_library.specs.Commit.{output_names}
use Rattle.ckr_points_runs.specs.PutBack.{all_made_gone, sets_back}
use Rattle.ckr_points_tables.specs.Restart.{kept_under, line_on}
use Rattle.ckr_points_runs.specs.RunChange.{Going, going}
use Rattle.ckr_points_runs.specs.RunJobs.{JobView, continued_view, effective}
use Rattle.ckr_points_runs.specs.RunMarks.{names_from, own_names_of}
use Rattle.ckr_points_runs.specs.View.{RunTableView, effect_of, seen_by, table_of}
use Rattle.ckr_points_tables.specs.View.{Writings, point_for}
use Rattle.ckr_points_tables.specs.declared.continuation.Resumption.{Resumption as ResumptionInCode}
use Rattle.ckr_points_runs.specs.declared.run_table.RunTable.{RunTable}

-- ---- what is made beforehand: the run as it goes on, but for the names that it loses

-- an entry with its point, by the name of its data set and its identifier
abbrev pub Entries : Type 0
Entries = Name → Name → Option KeptEntry

-- those that the library keeps
abbrev pub entries_in : Writings → Named Holding → Entries
entries_in writings sets set id = option_map (λ (kept : Kept). kept_entry kept (point_for writings set kept)) (kept_under sets set id)

-- where a run goes on that continues another one, and what its point has
pub record Resumption : Type 0 where
  pub place : Place
  pub count : ℕ
  pub marks : List Mark
  pub passed : List Passed
  pub in_effect : Option EffectPoint

abbrev pub resumed_at_start : ℕ → StartPoint → Resumption
resumed_at_start step point = record { place = Opened step; count = point.count; marks = point.marks; passed = point.passed; in_effect = None }

abbrev pub resumed_at_entry : ℕ → Name → KeptEntry → Resumption
resumed_at_entry step set entry = record {
  place = Within step entry.point.writes;
  count = entry.point.count;
  marks = entry.point.marks;
  passed = entry.point.passed;
  in_effect = Some (fresh_effect set entry.kept);
}

-- at the start of a step, or at the entry of an identifier that the data set of SYSCHK keeps
abbrev pub resumed : Entries → Job → ℕ → StartPoint → Option Name → Option Resumption
resumed entries deck step point None = Some (resumed_at_start step point)
resumed entries deck step point (Some id) = option_map (resumed_at_entry step (syschk_name deck)) (entries (syschk_name deck) id)

-- the marks that a run begins with: those of a point, and of other names as they are now
abbrev pub carried_marks : (Name → Mark) → ℕ → JobView → List Mark → List Mark
carried_marks now run job carried = marks_for (λ name. option_map_or (λ mark. mark) (mark_at carried name) (now name)) (names_of_job (effective run job))

-- the step point that it begins with
abbrev pub carried_in : (Name → Mark) → ℕ → JobView → StartPoint → StartPoint
carried_in now run job point = record point { restarts = 0; marks = carried_marks now run job point.marks }

-- a run with this job that goes on so
abbrev pub begun_facts : (Name → Mark) → ℕ → JobView → StepCodes → StartPoint → Resumption → RunTableView
begun_facts now run job rcs point at = record {
  job = job;
  place = Some at.place;
  code = None;
  count = at.count;
  rcs = rcs;
  passed = at.passed;
  lost = [];
  points = carried_in now run job point ∷ [];
  in_effect = at.in_effect;
}

-- a run with this deck that continues a run of this number at a step of it
abbrev pub continued_facts : (Name → Mark) → ℕ → ℕ → Job → RunTableView → ℕ → StartPoint → Resumption → RunTableView
continued_facts now run number deck earlier step point at =
    begun_facts now run (continued_view number deck earlier.job step) (rcs_before step earlier.rcs) point at

-- a run with this deck that continues a run of this number with these steps, return codes and step points; none without the step, its step point or
-- the entry
abbrev pub prepared_of : (Name → Mark) → Entries → ℕ → ℕ → Job → Effective → StepCodes → List StartPoint → ℕ → Option Name → Option RunTableView
prepared_of now entries run number deck steps rcs points step id =
    option_and_then
    (λ (own : OwnedStep).
    option_and_then
    (λ (point : StartPoint).
    option_map
    (begun_facts now run (record { deck = deck; root = steps.root; earlier = number; earlier_step = step; taken = take step steps.steps }) (rcs_before step rcs) point)
    (resumed entries deck step point id))
    (point_at points step))
    (step_at steps step)

-- by the tables, for a run that continues the run of a number
abbrev pub prepared_for : TablesModel → RunRow → ℕ → ℕ → Option Name → Option RunTableView
prepared_for desk row earlier step id =
    option_and_then (λ (other : RunRow). prepared_of (mark_now desk.sets) (kept_at desk.sets) row.number other.number row.deck other.job other.rcs other.points step id)
    (run_of desk earlier)

-- as the code makes it
abbrev pub prepared : (Name → Mark) → Entries → ℕ → ℕ → Job → RunTableView → ℕ → Option Name → Option RunTableView
prepared now entries run number deck earlier step id =
    option_and_then
    (λ (own : OwnedStep).
    option_and_then
    (λ (point : StartPoint). option_map (continued_facts now run number deck earlier step point) (resumed entries deck step point id))
    (point_at earlier.points step))
    (step_at (effective number earlier.job) step)

-- as the code has it
abbrev pub resumption_of : ResumptionInCode → Resumption
resumption_of at = record { place = at.place; count = at.count; marks = at.marks.now; passed = at.passed.now; in_effect = option_map effect_of at.in_effect }

-- a spare place for the loss of each of the passed names
abbrev pub HasLostRoom : RunTable → Type 0
HasLostRoom table = vec_len table.lost + length table.passed.items ≤ vec_capacity table.lost

-- ---- what is put back

-- the names that a step has for the printer, if there is one
abbrev pub printed_names : ℕ → Option OwnedStep → List Name
printed_names root found = option_map_or (sysout_names root) found []

-- the library with what a point has of it, but for the names that a step has for the printer
abbrev pub sets_from : ℕ → JobView → ℕ → List Mark → Option OwnedStep → OwnedStep → Named Holding → Named Holding
sets_from run job step marks printing own sets =
    sets_back marks (output_names job.root own) (without_names (printed_names job.root printing) (names_from (pred step) run job)) sets

-- the library as it is put back: at the start of the step, or at a checkpoint
abbrev pub sets_resumed : Bool → ℕ → JobView → ℕ → List Mark → OwnedStep → Named Holding → Named Holding
sets_resumed true run job step marks own sets = sets_from run job step marks (Some own) own (all_made_gone marks (sysout_names job.root own) sets)
sets_resumed false run job step marks own sets = sets_from run job step marks None own sets

-- the passed names that the run loses
abbrev pub lost_by : ℕ → JobView → List Mark → List Passed → Named Holding → List Name
lost_by run job marks passed sets = lost_names marks (own_names_of run job ++ deck_names job.root run job.deck) (seen_by table_of sets) passed

-- the run that was made beforehand has lost them, and the library is put back
pub record IsResumed (at_start : Bool) (run step : ℕ) (marks : List Mark) (own : OwnedStep) (old new : RunTableView) (before after : Named Holding) : Type 0 where
  pub sets : after ≡ sets_resumed at_start run old.job step marks own before
  pub facts : new ≡ record old { lost = lost_by run old.job marks old.passed after }

-- the run goes on so, on an initiator
abbrev pub resumed_run : Bool → ℕ → ℕ → List Mark → RunTableView → Going Holding → OwnedStep → Going Holding
resumed_run at_start initiator step marks next now own =
    let sets = sets_resumed at_start now.line.number next.job step marks own now.sets in
    going (line_on initiator now.line)
    (record next { lost = lost_by now.line.number next.job marks next.passed sets; in_effect = option_or next.in_effect now.facts.in_effect }) sets
