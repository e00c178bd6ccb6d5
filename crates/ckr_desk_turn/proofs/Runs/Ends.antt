-- The rows behind the end of a run.
use Rattle.std.proofs.Common.{◌≡◌, ℕ, true, [], refl, sym, subst, Option, Some, None}
use Rattle.std.specs.Prelude.{◌==◌}
use Rattle.std.specs.Option.{option_map_or}
use Rattle.arrayvec.specs.ArrayVec.{ArrayVec}
use Rattle.ckr_base.specs.declared.code.Code.{Code}
use Rattle.ckr_base.proofs.Sequences.{find-holds}
use Rattle.ckr_events.specs.declared.event.Ending.{Ending}
use Rattle.ckr_events.specs.declared.event.Ending.TheVariants.{Allocation, Coded, Completed}
use Rattle.ckr_library.specs.NameMaps.{Named, taken_over}
use Rattle.ckr_meaning.specs.Dispositions.{passed_ended}
use Rattle.ckr_meaning.specs.EffectiveJob.{OwnedStep}
use Rattle.ckr_meaning.specs.LibrarySet.{AreWithinSpace}
use Rattle.ckr_meaning.specs.JobRun.{job_run}
use Rattle.ckr_meaning.specs.declared.place.Place.{Place}
use Rattle.ckr_meaning.specs.declared.place.Place.TheVariants.{Before, Opened, Within}
use Rattle.ckr_meaning.proofs.Room.{job_run-within}
use Rattle.ckr_points.specs.Marks.{has_passed, without_passed}
use Rattle.ckr_points_library.specs.Commit.{output_names}
use Rattle.ckr_points.specs.declared.run.RunState.TheVariants.{Ended as EndedRun}
use Rattle.ckr_points.specs.Office.{Leg, Office, cut_of}
use Rattle.ckr_points.specs.Restart.{after_abnormal, after_ended, place_of, step_in}
use Rattle.ckr_points.specs.Rows.{RunRow, TableSet, TablesModel, run_of, step_of_run, with_run}
use Rattle.ckr_points.specs.Tables.{after_commit, after_dispositions, committed}
use Rattle.ckr_points_invariant.specs.Invariant.{IsAgreed, IsHolder}
use Rattle.ckr_volumes.specs.declared.layout.Layout.{Layout}
use Rattle.ckr_desk_turn.proofs.OtherRuns.{taken_over-within}
use Rattle.ckr_desk_turn.proofs.Runs.Events.{has-step}
use Rattle.ckr_desk_turn.proofs.Runs.Rows.{HasRow, HasRows, Renewed, Stands, has-row, runs-renewed, stands-more, stands-one}
use Rattle.ckr_desk_turn.proofs.Units.Outputs.{distinct-job}
use Rattle.ckr_points.specs.Follows.{own_step}

-- the row of a run that has ended
abbrev ended : RunRow → RunRow
ended row = record row { state = EndedRun; initiator = None; code = None; passed = []; lost = []; in_effect = None }

has-ended : (row : RunRow) → HasRow row → HasRow (ended row)
has-ended row was = record {
  in_state = refl;
  admitted = record { cards = was.admitted.cards; accepted = was.admitted.accepted; steps = was.admitted.steps; named = was.admitted.named; lodged = refl };
  stepped = refl;
}

ended-renewed : (tables now : TablesModel) (sets : Named TableSet) (job : ℕ) (row : RunRow) → Stands tables now job row → row.number ≡ job → HasRow row → Renewed tables (with_run (ended row) (record now { sets = sets })) job
ended-renewed tables now sets job row stands its was = record { next = ended row; stands = stands-more tables now sets job row (ended row) stands its; has = has-ended row was }

-- whether or not it was within a step
abnormal-renewed : (tables now : TablesModel) (job : ℕ) (row : RunRow) (place : Place) → Stands tables now job row → row.number ≡ job → HasRow row → Renewed tables (after_abnormal row place now) job
abnormal-renewed tables now job row (Before step) stands its was = ended-renewed tables now (passed_ended (has_passed row) now.sets) job row stands its was
abnormal-renewed tables now job row (Opened step) stands its was = ended-renewed tables now (passed_ended (has_passed row) now.sets) job row stands its was
abnormal-renewed tables now job row (Within step writes) stands its was = by (step_of_run row step)
  where
    by : (owned : Option OwnedStep) → Renewed tables (option_map_or (λ owned. let done = after_dispositions row owned step true now in with_run (ended row) (record now { sets = passed_ended (without_passed row.lost done.passed) done.sets })) owned now) job
    by None = record { next = row; stands = stands; has = was }
    by (Some owned) =
        let done = after_dispositions row owned step true now in
        ended-renewed tables now (passed_ended (without_passed row.lost done.passed) done.sets) job row stands its was

module _ (layout : Layout) (office : Office) (kept : IsAgreed layout office) (has : HasRows office) where
  ended-runs : (job : ℕ) (row : RunRow) (leg : Leg) (ending : Ending) → IsHolder office job row leg → Renewed office.tables (after_ended row ending office.tables) job → HasRows (record office { tables = after_ended row ending office.tables; library = taken_over leg.reach (job_run leg.job leg.start (cut_of row ending)) office.library })
  ended-runs job row leg ending holder renewed =
      runs-renewed office (record office { tables = after_ended row ending office.tables; library = taken_over leg.reach (job_run leg.job leg.start (cut_of row ending)) office.library }) job has renewed
      (taken_over-within leg.reach _ office.library
      (job_run-within leg.job leg.start (cut_of row ending) (distinct-job leg.job (kept.places job row leg holder).formed)
      (find-holds (λ (leg : Leg). AreWithinSpace leg.start) (λ leg. leg.number == job) office.legs leg has.spaced_legs holder.leg_at))
      has.spaced) has.spaced_legs

  still : (job : ℕ) (row : RunRow) → run_of office.tables job ≡ Some row → Stands office.tables office.tables job row
  still job row at = record { mine = at; others = λ other apart. refl }

  pub through-runs : (job : ℕ) (row : RunRow) (leg : Leg) → IsHolder office job row leg → HasRows (record office { tables = after_ended row Completed office.tables; library = taken_over leg.reach (job_run leg.job leg.start None) office.library })
  through-runs job row leg holder =
      ended-runs job row leg Completed holder
      (ended-renewed office.tables office.tables (passed_ended (has_passed row) office.tables.sets) job row (still job row holder.row_at) (kept.numbered job row holder.row_at) (has-row office has job row holder.row_at))

  pub refused-runs : (job dd cause first second : ℕ) (row : RunRow) (leg : Leg) → IsHolder office job row leg → HasRows (record office { tables = after_ended row (Allocation dd cause first second) office.tables; library = taken_over leg.reach (job_run leg.job leg.start (Some (place_of row))) office.library })
  refused-runs job dd cause first second row leg holder =
      ended-runs job row leg (Allocation dd cause first second) holder
      (abnormal-renewed office.tables office.tables job row (place_of row) (still job row holder.row_at) (kept.numbered job row holder.row_at) (has-row office has job row holder.row_at))

  pub coded-runs : (job rule writes : ℕ) (code : Code) (lengths : ArrayVec ℕ) (row : RunRow) (leg : Leg) (owned : OwnedStep) → IsHolder office job row leg → own_step row ≡ Some owned → HasRows (record office { tables = after_ended row (Coded code rule writes lengths) office.tables; library = taken_over leg.reach (job_run leg.job leg.start (cut_of row (Coded code rule writes lengths))) office.library })
  coded-runs job rule writes code lengths row leg owned holder found =
      let at = holder.row_at in
      let step : ℕ = step_in (place_of row) in
      let moved : RunRow = record row { place = Some (Within step writes) } in
      let was : HasRow row = has-row office has job row at in
      ended-runs job row leg (Coded code rule writes lengths) holder
      (subst (λ (o : Option OwnedStep). Renewed office.tables (option_map_or (λ owned. after_abnormal moved (Within step writes) (after_commit row owned step writes lengths.items office.tables)) o office.tables) job) (sym found)
      (abnormal-renewed office.tables (after_commit row owned step writes lengths.items office.tables) job moved (Within step writes)
      (stands-one office.tables (committed (output_names row.job.root owned) lengths.items office.tables.sets) job row moved at (kept.numbered job row at))
      (kept.numbered job row at)
      (has-step moved owned found was.in_state (record { cards = was.admitted.cards; accepted = was.admitted.accepted; steps = was.admitted.steps; named = was.admitted.named; lodged = was.admitted.lodged }))))
