-- What accepted decks and sound events give to the next entry of a running step, on a trusted disk.
use Rattle.std.proofs.Common.{◌≡◌, ◌&&◌, ◌^◌, ℕ, true, false, List, length, find, Option, None, Some}
use Rattle.std.specs.Option.{is_none, option_map_or}
use Rattle.std.specs.Prelude.{nat_le, nat_lt}
use Rattle.std.proofs.lemmas.Bool.{and_from, false≢true}
use Rattle.ckr_desk_turn.proofs.PassedLists.{passed-few}
use Rattle.ckr_base.proofs.Bools.{and-second}
use Rattle.ckr_base.specs.Grammar.{is_check_id}
use Rattle.ckr_base.proofs.Numbers.{nat_lt-from}
use Rattle.ckr_desk_refines.specs.Memory.Entries.{is_written}
use Rattle.ckr_desk_refines.specs.Memory.EntryModels.{HasCheckRecords}
use Rattle.ckr_desk_refines.specs.Memory.EventChanges.{is_of_run}
use Rattle.ckr_desk_refines.specs.Memory.View.{RunningStepView, jobs_of}
use Rattle.ckr_library.specs.NameMaps.{Name, Named, entry_at}
use Rattle.ckr_meaning.specs.StepRun.{StepStart}
use Rattle.ckr_points.specs.Restart.{kept_at}
use Rattle.ckr_points.specs.Rows.{RunRow, TableSet, no_tables}
use Rattle.ckr_desk_store.specs.OpenImages.{event_records}
use Rattle.ckr_desk_turn.proofs.Checkpoints.Steps.{check-length as step-records, id-ranged}
use Rattle.ckr_desk_turn.proofs.Runs.Lists.{events-checked}
use Rattle.ckr_desk_turn.specs.Checkpoints.{check_set, checkpoint_fits, entry_end, fits_in, is_in_range, next_entry, next_id}
use Rattle.ckr_desk_turn.specs.declared.plan.Plan.TheVariants.{Take}
use Rattle.ckr_desk_turn.specs.Turns.{IsMountedTurnOf, MountedTurn, plan_for}
use Rattle.ckr_desk_turn.specs.Units.{StepProgress}
use Rattle.ckr_desk.proofs.Checkpoints.Steps.{its_pair}
use Rattle.ckr_desk.proofs.Openings.DeckRecords.{deck-records}
use Rattle.ckr_desk.specs.Soundness.{IsTrusted, events_in, office_on, state_of}
use Rattle.ckr_desk.specs.State.{DeskView}

-- the numbers of an entry that fits are in their ranges
pub fits-ranged : (sets : Named TableSet) (row : RunRow) (start : StepStart) (step : StepProgress) → checkpoint_fits sets row start step ≡ true → is_in_range (next_entry sets row start step) ≡ true
fits-ranged sets row start step fits = by (check_set start) fits
  where
    there : (name : Name) (found : Option TableSet) → option_map_or (fits_in sets row start step name) found false ≡ true → is_in_range (next_entry sets row start step) ≡ true
    there name None is = absurd (false≢true is)
    there name (Some table) is = and-second (nat_le (entry_end sets row start step) table.set.space && is_none (kept_at sets name (next_id row start))) (is_in_range (next_entry sets row start step)) is

    by : (named : Option Name) → option_map_or (λ name. option_map_or (fits_in sets row start step name) (entry_at sets name) false) named false ≡ true → is_in_range (next_entry sets row start step) ≡ true
    by None is = absurd (false≢true is)
    by (Some name) is = there name (entry_at sets name) is

module _ {D : Type 0} (told : Type 0) (content : D → List ℕ) (may_leave : D → List ℕ → Type 0) (size : D → ℕ) (old : DeskView D) (trusted : IsTrusted told content may_leave old)
    (turn : MountedTurn) (its : IsMountedTurnOf old.store.layout turn) (run : ℕ) (planned : plan_for old.store.layout (jobs_of old.jobs) turn ≡ Take run)
    (on : RunningStepView) (found : find (is_of_run run) old.jobs.running ≡ Some on) where
  abbrev sets : Named TableSet
  sets = (office_on old.store.layout (content old.store.disk)).tables.sets

  abbrev row : RunRow
  row = (its_pair told content may_leave size old trusted turn its run planned on found).going.row

  abbrev start : StepStart
  start = (its_pair told content may_leave size old trusted turn its run planned on found).going.start

  abbrev progress : StepProgress
  progress = (its_pair told content may_leave size old trusted turn its run planned on found).step.progress

  -- the data set for checkpoints has records of 256 bytes
  pub records-so : HasCheckRecords sets start
  unfolding office_on
  records-so =
      let before : List (List ℕ) = event_records old.store.layout (content old.store.disk) in
      step-records (state_of content old).desk (its_pair told content may_leave size old trusted turn its run planned on found).step (its_pair told content may_leave size old trusted turn its run planned on found).going trusted.stands.is_desk
      (events-checked old.store.layout (events_in before) trusted.events (deck-records old.store.layout no_tables 0 before old.jobs.tables.desk trusted.opens))

  passed-so : nat_lt (length row.passed) (2 ^ 16) ≡ true
  passed-so =
      nat_lt-from (length row.passed) (2 ^ 16)
      (passed-few (state_of content old).desk (its_pair told content may_leave size old trusted turn its run planned on found).step (its_pair told content may_leave size old trusted turn its run planned on found).going trusted.stands.is_desk)

  -- an entry that fits may be written
  pub written-so : checkpoint_fits sets row start progress ≡ true → is_written (next_entry sets row start progress) ≡ true
  written-so fits =
      and_from (is_check_id (next_id row start)) (nat_lt (length row.passed) (2 ^ 16))
      (id-ranged (state_of content old).desk (its_pair told content may_leave size old trusted turn its run planned on found).step (its_pair told content may_leave size old trusted turn its run planned on found).going trusted.stands.is_desk
      (fits-ranged sets row start progress fits))
      passed-so
