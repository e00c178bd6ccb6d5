-- A run that continues another one at a step: what the other one keeps, and its row, its leg and the tables as it is selected.
use Rattle.std.specs.Prelude.{◌≡◌, ◌≤◌, ℕ, true, List, ◌++◌, length, Option, None, Some}
use Rattle.std.specs.Option.{is_some}
use Rattle.ckr_entry.specs.declared.point.Mark.{Mark}
use Rattle.ckr_entry.specs.declared.point.Passed.{Passed}
use Rattle.ckr_library.specs.NameMaps.{Name, Named}
use Rattle.ckr_meaning.specs.EffectiveJob.{OwnedStep, is_among}
use Rattle.ckr_meaning.specs.JobRun.{at}
use Rattle.ckr_meaning.specs.LibrarySet.{Library}
use Rattle.ckr_meaning.specs.StepRun.{work_at}
use Rattle.ckr_meaning.specs.declared.place.Place.{Place}
use Rattle.ckr_meaning.specs.declared.place.Place.TheVariants.{Before, Opened, Within}
use Rattle.ckr_points.specs.Follows.{is_in_state}
use Rattle.ckr_points.specs.Freshness.{fresh}
use Rattle.ckr_points.specs.Marks.{lost_names, own_names, point_at, put_back, removed_all}
use Rattle.ckr_points.specs.Office.{Leg, Office, continued_leg}
use Rattle.ckr_points.specs.Payload.{is_orderly}
use Rattle.ckr_points.specs.Restart.{continued_row}
use Rattle.ckr_points.specs.RuleCases.{is_ended}
use Rattle.ckr_points.specs.Rows.{EffectPoint, RunRow, StartPoint, TableSet, TablesModel, run_of, with_run}
use Rattle.ckr_points.specs.declared.run.RunState.TheVariants.{Queued}
use Rattle.ckr_points_library.specs.Commit.{output_names}
use Rattle.ckr_points_invariant.specs.Invariant.{AreAlike}
use Rattle.ckr_points_invariant.specs.StartedSteps.{HasBegunSteps, IsBegunStep, start_by}
use Rattle.ckr_points_invariant.proofs.Continuations.Freshness.{DeterminesMaking}
use Rattle.ckr_points_invariant.proofs.Continuations.Libraries.{AreNeeded, MarksAll}

-- the leg of an ended run, whose job the tables have
abbrev pub leg_from : RunRow → Library → List Name → Leg
leg_from other start reach = record { number = other.number; job = other.job; start = start; reach = reach }

-- An earlier run of the same job name has ended. It began the step, and the point of that marks each name of its job as the job has it there.
pub record IsEarlier (now : Office) (row other : RunRow) (leg : Leg) (step : ℕ) (point : StartPoint) : Type 0 where
  pub row_at : run_of now.tables row.number ≡ Some row
  pub queued : is_in_state Queued row ≡ true
  pub orderly : is_orderly row.number row.deck ≡ true
  pub other_at : run_of now.tables other.number ≡ Some other
  pub ended : is_ended other.state ≡ true
  pub named : other.deck.name ≡ row.deck.name
  pub steps : HasBegunSteps now.tables other leg
  pub begun : IsBegunStep now.tables other leg step
  pub has : point_at other.points step ≡ Some point
  pub marks : MarksAll leg.job leg.start (Opened step) point.marks

-- where a run comes to that continues another one: the place, the entries counted, the passed list with what is lost of it, and the
-- checkpoint in effect
pub record Coming : Type 0 where
  pub place : Place
  pub count : ℕ
  pub passed : List Passed
  pub lost : List Name
  pub effect : Option EffectPoint

-- the row of the run then, and the tables
abbrev pub row_then : Office → RunRow → RunRow → ℕ → StartPoint → ℕ → Coming → RunRow
row_then now row other step point initiator coming =
    record (continued_row row other step point initiator now.tables.sets) {
      place = Some coming.place;
      count = coming.count;
      passed = coming.passed;
      lost = coming.lost;
      in_effect = coming.effect;
    }

abbrev pub tables_then : Office → RunRow → Named TableSet → TablesModel
tables_then now next sets = with_run next (record now.tables { sets = sets })

-- the data sets put back
abbrev pub sets_then : Office → RunRow → OwnedStep → List Mark → List Name → List Name → Named TableSet
sets_then now other owned marks needed removed = put_back marks (output_names other.job.root owned) needed (removed_all removed now.tables.sets)

-- Where the data sets are put back for it: the marks are those of its place, a needed name is fresh, its own names that are marked are needed or
-- removed, and no others are; and the passed names that no longer exist then are lost.
pub record IsPutBack (now : Office) (next other : RunRow) (owned : OwnedStep) (start : Library) (coming : Coming) (marks : List Mark) (needed removed named : List Name) : Type 0 where
  pub all : MarksAll other.job start coming.place marks
  pub are : AreNeeded (own_names next) marks needed removed
  pub judged : fresh other.job.root owned marks needed now.tables.sets ≡ None
  pub needed_own : (name : Name) → is_among needed name ≡ true → is_among (own_names next) name ≡ true
  pub removed_own : (name : Name) → is_among removed name ≡ true → is_among (own_names next) name ≡ true
  pub lost : coming.lost ≡ lost_names marks named (sets_then now other owned marks needed removed) coming.passed

-- a run comes to the start of the step, or within it behind so many of its writes
abbrev pub ComesTo : ℕ → ℕ → Place → Type 0
ComesTo step most (Before number) = ⊥
ComesTo step most (Opened number) = number ≡ step
ComesTo step most (Within number writes) = (number ≡ step) × (writes ≤ most)

-- A run continues another one at a step. It comes to its start, or to an entry of it, with the passed list that the earlier run's job has there.
-- Of the names that it reaches, the tables had what the ended jobs left, made as the earlier run's job made them where the stamp is the same.
pub record IsContinued (now : Office) (row other : RunRow) (start : Library) (reach : List Name) (step : ℕ) (point : StartPoint) (initiator : ℕ) (coming : Coming) (marks : List Mark) (needed removed others : List Name) : Type 0 where
  pub earlier : IsEarlier now row other (leg_from other start reach) step point
  pub restart : is_some row.deck.restart ≡ true
  pub comes : ComesTo step (length (work_at (start_by (leg_from other start reach) earlier.begun.owned step)).writes) coming.place
  pub passed : coming.passed ≡ (at other.job start coming.place).passed
  pub back : IsPutBack now (row_then now row other step point initiator coming) other earlier.begun.owned start coming marks needed removed
      (own_names (row_then now row other step point initiator coming) ++ others)
  pub left : (name : Name) → is_among (continued_leg now (row_then now row other step point initiator coming) (leg_from other start reach)).reach name ≡ true
      → AreAlike now.tables.sets now.library name
  pub making : (name : Name) → is_among (continued_leg now (row_then now row other step point initiator coming) (leg_from other start reach)).reach name ≡ true
      → DeterminesMaking now.tables.sets (at other.job start coming.place).sets name
