-- What the jobs leave, each run once without interruption or cut where it was given up, and the records of the tables.
use Rattle.std.specs.Prelude.{ℕ, zero, suc, pred, ◌==◌, Bool, true, false, ◌&&◌, nat_lt, if◌then◌else◌, List, [], ◌∷◌, ◌++◌, map, filter, find, drop, Option, None, Some}
use Rattle.std.specs.Option.{option_map_or}
use Rattle.ckr_events.specs.declared.event.Event.{Event}
use Rattle.ckr_events.specs.declared.event.Event.TheVariants.{Selected, Ended}
use Rattle.ckr_events.specs.declared.event.Ending.{Ending}
use Rattle.ckr_events.specs.declared.event.Ending.TheVariants.{Completed, Coded, Allocation}
use Rattle.ckr_library.specs.NameMaps.{Name, entry_at, taken_over}
use Rattle.ckr_meaning.specs.LibrarySet.{LibrarySet, Library}
use Rattle.ckr_entry.specs.declared.point.Passed.{Passed}
use Rattle.ckr_meaning.specs.Dispositions.{Stock}
use Rattle.ckr_meaning.specs.EffectiveJob.{Effective, names_of_steps, names_of_job, is_among}
use Rattle.ckr_meaning.specs.declared.place.Place.{Place}
use Rattle.ckr_meaning.specs.declared.place.Place.TheVariants.{Before, Within}
use Rattle.ckr_meaning.specs.JobRun.{at, job_run}
use Rattle.ckr_points.specs.declared.run.RunState.{RunState}
use Rattle.ckr_points.specs.declared.run.RunState.TheVariants.{Queued, On, Held as HeldRun, Released as ReleasedRun, Ended as EndedRun, Denied as DeniedRun, Purged as PurgedRun}
use Rattle.ckr_points.specs.Marks.{has_passed}
use Rattle.ckr_points.specs.Rows.{RunRow, TablesModel, no_tables, run_of}
use Rattle.ckr_points.specs.Restart.{Decked, after_event, place_of, step_in}

-- a selected run as the office knows it: its effective job, the library that it began on, and its reach
pub record Leg : Type 0 where
  pub number : ℕ
  pub job : Effective
  pub start : Library
  pub reach : List Name

-- the tables, what the ended jobs left, and the selected runs in the order of their numbers
pub record Office : Type 0 where
  pub tables : TablesModel
  pub library : Library
  pub legs : List Leg

abbrev pub no_office : Office
no_office = record { tables = no_tables; library = []; legs = [] }

abbrev pub leg_of : Office → ℕ → Option Leg
leg_of office number = find (λ leg. leg.number == number) office.legs

abbrev pub with_leg : Leg → List Leg → List Leg
with_leg leg [] = leg ∷ []
with_leg leg (first ∷ rest) = if nat_lt leg.number first.number then leg ∷ first ∷ rest else first ∷ with_leg leg rest

-- the names put back into a passed list as made
abbrev pub passed_made : List Passed → List Name
passed_made passed = map (λ entry. entry.name) (filter (λ entry. entry.made) passed)

-- the leg of a plain run
abbrev pub plain_leg : Office → RunRow → Leg
plain_leg office row = record { number = row.number; job = row.job; start = office.library; reach = names_of_job row.job }

-- the leg of a run that continues another one at a step
abbrev pub continued_leg : Office → RunRow → Leg → Leg
continued_leg office row earlier = record {
  number = row.number;
  job = row.job;
  start = taken_over (names_of_job earlier.job) earlier.start office.library;
  reach = names_of_steps row.job.root (drop (pred row.earlier_step) row.job.steps) ++ passed_made (has_passed row);
}

abbrev pub leg_by : Office → RunRow → ℕ → Leg
leg_by office row zero = plain_leg office row
leg_by office row (suc before) = option_map_or (continued_leg office row) (leg_of office (suc before)) (plain_leg office row)

-- where an Ended event cuts its run
abbrev pub cut_of : RunRow → Ending → Option Place
cut_of row Completed = None
cut_of row (Coded code rule writes lengths) = Some (Within (step_in (place_of row)) writes)
cut_of row (Allocation dd cause first second) = Some (place_of row)

-- the library after a run ended: on its reach what its job leaves
abbrev pub library_after : Office → RunRow → Ending → Library
library_after office row ending =
    option_map_or (λ leg. taken_over leg.reach (job_run leg.job leg.start (cut_of row ending)) office.library) (leg_of office row.number) office.library

-- the office with tables after Selected
abbrev pub office_selected : Office → ℕ → TablesModel → Office
office_selected office job tables =
    record office {
      tables = tables;
      legs = option_map_or (λ row. with_leg (leg_by office row row.earlier) office.legs) (run_of tables job) office.legs;
    }

-- the office with tables after Ended
abbrev pub office_ended : Office → ℕ → Ending → TablesModel → Office
office_ended office job ending tables =
    record office {
      tables = tables;
      library = option_map_or (λ row. library_after office row ending) (run_of office.tables job) office.library;
    }

abbrev pub office_with : Office → Event → TablesModel → Office
office_with office (Selected job initiator earlier step id) tables = office_selected office job tables
office_with office (Ended job ending) tables = office_ended office job ending tables
office_with office _ tables = record office { tables = tables }

-- the office after an event
abbrev pub office_after : Decked → Office → Office
office_after decked office = office_with office decked.0 (after_event decked.0 decked.1 office.tables)

abbrev pub office_from : List Decked → Office → Office
office_from [] office = office
office_from (first ∷ rest) office = office_from rest (office_after first office)

-- the office of all events
abbrev pub office : List Decked → Office
office events = office_from events no_office

-- whether a run holds its names: it is selected and not ended
abbrev pub is_holder : RunState → Bool
is_holder Queued = false
is_holder On = true
is_holder HeldRun = true
is_holder ReleasedRun = true
is_holder EndedRun = false
is_holder DeniedRun = false
is_holder PurgedRun = false

abbrev pub holds_name : Office → Name → Leg → Bool
holds_name office name leg =
    option_map_or (λ row. is_holder row.state) (run_of office.tables leg.number) false && is_among leg.reach name

-- the least holder whose reach has the name
abbrev pub holder_of : Office → Name → Option Leg
holder_of office name = find (holds_name office name) office.legs

-- a run's library and passed list at its place
abbrev pub standing_at : Office → Leg → Stock LibrarySet
standing_at office leg = option_map_or (λ row. at leg.job leg.start (place_of row)) (run_of office.tables leg.number) (at leg.job leg.start (Before 1))

-- the library that the tables stand for at a name: that of its holder's place, or what the ended jobs left
abbrev pub library_for : Office → Name → Library
library_for office name = option_map_or (λ leg. (standing_at office leg).sets) (holder_of office name) office.library

-- the records of a name
abbrev pub model_records : Office → Name → List (List ℕ)
model_records office name = option_map_or (λ set. set.records) (entry_at (library_for office name) name) []
