-- A run whose step ends, or is restarted from its start, whose restarts are cancelled, or that has ended or starts a step, has no checkpoint in effect.
use Rattle.std.proofs.Common.{◌≡◌, ◌&&◌, ◌||◌, ℕ, true, false, refl, ap, sym, ◌∙◌, subst, Option, Some, None}
use Rattle.std.specs.Prelude.{nat_eq}
use Rattle.std.specs.Option.{option_eq, option_map_or}
use Rattle.arrayvec.specs.ArrayVec.{ArrayVec}
use Rattle.ckr_base.specs.declared.code.Code.{Code}
use Rattle.ckr_base.proofs.Bools.{and-first, and-second}
use Rattle.ckr_base.proofs.Options.{option-cases, option_map_or-true, some-not-none, some-one}
use Rattle.ckr_events.specs.declared.event.Ending.{Ending}
use Rattle.ckr_events.specs.declared.event.Ending.TheVariants.{Allocation, Coded, Completed}
use Rattle.ckr_events.specs.declared.event.Event.TheVariants.{Cancelled, Ended, Restarted, Started, StepEnded}
use Rattle.ckr_events.specs.declared.event.Made.{Made}
use Rattle.ckr_meaning.specs.EffectiveJob.{OwnedStep, flaws_in, placed_in}
use Rattle.ckr_meaning.specs.declared.place.Place.{Place}
use Rattle.ckr_meaning.specs.declared.place.Place.TheVariants.{Before, Opened, Within}
use Rattle.ckr_points.specs.declared.run.RunState.TheVariants.{On, Released}
use Rattle.ckr_points.specs.Follows.{is_empty, is_free, is_in_state, is_running, is_within, may_restart_again, may_start, own_step, started_follows}
use Rattle.ckr_points.specs.Marks.{point_at, with_point}
use Rattle.ckr_points.specs.Office.{Office}
use Rattle.ckr_points.specs.Restart.{after_abnormal, after_ended, after_event, after_passed_ended, after_put_back, after_restarted, back_to_start, by_run, by_step, place_of, point_restarted, row_on, step_in}
use Rattle.ckr_points.specs.Rows.{RunRow, StartPoint, TablesModel, run_of, standing_of, step_of_run, table_ways}
use Rattle.ckr_points.specs.Tables.{after_cancelled, after_commit, after_dispositions, after_started, after_step_ended}
use Rattle.ckr_points.specs.Soundness.{may_come}
use Rattle.ckr_points_invariant.specs.Invariant.{IsAgreed}
use Rattle.ckr_points_invariant.specs.Readiness.{AreReady}
use Rattle.ckr_points_invariant.proofs.Steps.Events.{led-by, on-holds}
use Rattle.ckr_points_invariant.proofs.WaitingRuns.{follows-of, tested-run}
use Rattle.ckr_desk_memory.proofs.Holders.RowTests.{by-some}
use Rattle.ckr_desk_memory.proofs.Holders.Moves.{HasRow, by-own, by-row, row-as_is, row-next}
use Rattle.ckr_volumes.specs.declared.layout.Layout.{Layout}
use Rattle.ckr_desk_memory.specs.Invariant.{is_in_step}
use Rattle.ckr_desk_memory.proofs.Invariant.{not-within}
use Rattle.ckr_desk_refines.proofs.Standing.Points.{IsIdle, check-by}

module _ (layout : Layout) (now : Office) (agreed : IsAgreed layout now) (ready : AreReady now) (job : ℕ) where
  abbrev tables : TablesModel
  tables = now.tables

  abbrev Idle : TablesModel → Type 0
  Idle after = IsIdle after job

  idle-row : (after : TablesModel) (row : RunRow) → run_of after job ≡ Some row → (is_in_step row ≡ true → row.in_effect ≡ None) → Idle after
  idle-row after row at idle next next_at = subst (λ (r : RunRow). is_in_step r ≡ true → r.in_effect ≡ None) (some-one row next (run_of after job) at next_at) idle

  -- a run without a step has none
  idle-without : (row : RunRow) → run_of tables job ≡ Some row → own_step row ≡ None → Idle tables
  idle-without row at none =
      idle-row tables row at
      (λ runs. option-cases row.in_effect (λ without. without) (λ effect got. check-by layout now agreed ready job row effect at runs got (λ leg holder check. absurd (some-not-none check.owned (sym check.found_step ∙ none)))))

  idle-run : (change : RunRow → TablesModel) → ((row : RunRow) → run_of tables job ≡ Some row → Idle (change row)) → Idle (by_run job tables change)
  idle-run change each =
      option-cases (run_of tables job)
      (λ none. subst (λ (o : Option RunRow). Idle (option_map_or change o tables)) (sym none) (λ next at. absurd (some-not-none next (sym at ∙ none))))
      (λ row at. by-row Idle tables job change row at (each row at))

  idle-step : (change : OwnedStep → ℕ → TablesModel) (row : RunRow) → run_of tables job ≡ Some row → ((owned : OwnedStep) → own_step row ≡ Some owned → Idle (change owned (step_in (place_of row)))) → Idle (by_step change row tables)
  idle-step change row at each =
      option-cases (own_step row)
      (λ none. subst (λ (o : Option OwnedStep). Idle (option_map_or (λ owned. change owned (step_in (place_of row))) o tables)) (sym none) (idle-without row at none))
      (λ owned found. by-own Idle tables change row owned found (each owned found))

  as_is : (row : RunRow) → run_of tables job ≡ Some row → HasRow tables tables job row
  as_is row at = row-as_is tables job row at

  -- ---- the end of a run

  idle-ended : (mid : TablesModel) (was row : RunRow) → HasRow tables mid job was → row.number ≡ job → Idle (after_passed_ended row mid)
  idle-ended mid was row has same =
      idle-row (after_passed_ended row mid) _ (row-next tables mid job was _ (after_passed_ended row mid).sets has same).now (λ runs. refl)

  idle-disposed : (mid : TablesModel) (was row : RunRow) (owned : OwnedStep) (step : ℕ) → HasRow tables mid job was → row.number ≡ job
      → Idle (let done = after_dispositions row owned step true mid in after_passed_ended (record row { passed = done.passed }) (record mid { sets = done.sets }))
  idle-disposed mid was row owned step has same =
      let done = after_dispositions row owned step true mid in
      idle-row (after_passed_ended (record row { passed = done.passed }) (record mid { sets = done.sets })) _
      (row-next tables mid job was _ (after_passed_ended (record row { passed = done.passed }) (record mid { sets = done.sets })).sets has same).now (λ runs. refl)

  idle-abnormal : (row : RunRow) (place : Place) → run_of tables job ≡ Some row → place_of row ≡ place → Idle (after_abnormal row place tables)
  idle-abnormal row (Before step) at is = idle-ended tables row row (as_is row at) (agreed.numbered job row at)
  idle-abnormal row (Opened step) at is = idle-ended tables row row (as_is row at) (agreed.numbered job row at)
  idle-abnormal row (Within step writes) at is =
      option-cases (step_of_run row step)
      (λ none. subst (λ (o : Option OwnedStep). Idle (option_map_or (λ owned. let done = after_dispositions row owned step true tables in after_passed_ended (record row { passed = done.passed }) (record tables { sets = done.sets })) o tables)) (sym none)
      (idle-without row at (ap (λ place. step_of_run row (step_in place)) is ∙ none)))
      (λ owned found.
      by-some Idle (step_of_run row step) (λ owned. let done = after_dispositions row owned step true tables in after_passed_ended (record row { passed = done.passed }) (record tables { sets = done.sets })) tables owned found
      (idle-disposed tables row row owned step (as_is row at) (agreed.numbered job row at)))

  idle-end : (row : RunRow) (ending : Ending) → run_of tables job ≡ Some row → Idle (after_ended row ending tables)
  idle-end row Completed at = idle-ended tables row row (as_is row at) (agreed.numbered job row at)
  idle-end row (Coded code rule writes lengths) at =
      idle-step (λ owned step. after_abnormal (record row { place = Some (Within step writes) }) (Within step writes) (after_commit row owned step writes lengths.items tables)) row at
      (λ owned found.
      let step = step_in (place_of row) in
      let mid = after_commit row owned step writes lengths.items tables in
      let there : RunRow = record row { place = Some (Within step writes) } in
      by-some Idle (step_of_run there step) (λ owned. let done = after_dispositions there owned step true mid in after_passed_ended (record there { passed = done.passed }) (record mid { sets = done.sets })) mid owned found
      (idle-disposed mid there there owned step (row-next tables tables job row there mid.sets (as_is row at) (agreed.numbered job row at)) (agreed.numbered job row at)))
  idle-end row (Allocation dd cause first second) at = idle-abnormal row (place_of row) at refl

  pub ended-idle : (ending : Ending) → Idle (after_event (Ended job ending) None tables)
  ended-idle ending = idle-run (λ row. after_ended row ending tables) (λ row at. idle-end row ending at)

  -- ---- the end of a step, and a cancel

  pub step_ended-idle : (step rc writes : ℕ) (lengths : ArrayVec ℕ) → Idle (after_event (StepEnded job step rc writes lengths) None tables)
  step_ended-idle step rc writes lengths =
      idle-run (λ row. by_step (λ owned step. after_step_ended row owned step rc writes lengths.items tables) row tables)
      (λ row at.
      idle-step (λ owned step. after_step_ended row owned step rc writes lengths.items tables) row at
      (λ owned found.
      let step = step_in (place_of row) in
      let mid = after_commit row owned step writes lengths.items tables in
      idle-row (after_step_ended row owned step rc writes lengths.items tables) _
      (row-next tables mid job _ _ (after_dispositions row owned step false mid).sets (row-next tables tables job row _ mid.sets (as_is row at) (agreed.numbered job row at)) (agreed.numbered job row at)).now (λ runs. refl)))

  pub cancelled-idle : Idle (after_event (Cancelled job) None tables)
  cancelled-idle =
      idle-run (λ row. after_cancelled row tables) (λ row at. idle-row (after_cancelled row tables) (record row { in_effect = None }) (row-next tables tables job row (record row { in_effect = None }) tables.sets (as_is row at) (agreed.numbered job row at)).now (λ runs. refl))

  -- ---- the start of a step, and a restart there

  pub started-idle : (step : ℕ) (items : ArrayVec Made) → may_come layout now (Started job step items, None) ≡ true → Idle (after_event (Started job step items) None tables)
  started-idle step items may =
      tested-run tables job (started_follows layout tables step items.items) (follows-of layout now (Started job step items) None may)
      (λ row at passes.
      by-row Idle tables job (λ row. option_map_or (λ owned. after_started row owned step items.items tables) (step_of_run row step) tables) row at
      (option_map_or-true (step_of_run row step) _ (and-second (is_in_state On row) _ passes)
      (λ owned found ready_so.
      let placed_so = placed_in table_ways (standing_of row tables) row.job.root owned in
      let out : is_within (place_of row) ≡ false = not-within step (place_of row) (and-first (may_start step (place_of row)) _ (and-first (may_start step (place_of row) && is_empty (flaws_in placed_so)) _ ready_so)) in
      by-some Idle (step_of_run row step) (λ owned. after_started row owned step items.items tables) tables owned found
      (idle-row (after_started row owned step items.items tables) _ (row-next tables tables job row _ (after_started row owned step items.items tables).sets (as_is row at) (agreed.numbered job row at)).now
      (λ runs. led-by layout now job row agreed at (on-holds row.state (and-first (is_in_state On row) _ passes)) (λ leg holder. (ready.runs job row leg holder).none out))))))

  abbrev back : ℕ → RunRow → OwnedStep → StartPoint → TablesModel
  back initiator row owned point =
      after_put_back (record (row_on initiator row) { points = with_point (point_restarted point) row.points; in_effect = None }) owned (back_to_start row owned (step_in (place_of row)) point) tables

  pub restarted-idle : (initiator : ℕ) (code : Code) → may_come layout now (Restarted job initiator code false, None) ≡ true → Idle (after_event (Restarted job initiator code false) None tables)
  restarted-idle initiator code may =
      tested-run tables job (λ row. (is_running row && option_eq nat_eq row.initiator (Some initiator) || is_in_state Released row && is_free layout tables initiator) && may_restart_again false row) (follows-of layout now (Restarted job initiator code false) None may)
      (λ row at passes.
      by-row Idle tables job (λ row. by_step (λ owned step. after_restarted row owned step initiator false tables) row tables) row at
      (idle-step (λ owned step. after_restarted row owned step initiator false tables) row at
      (λ owned found.
      option_map_or-true (point_at row.points (step_in (place_of row))) _ (and-second (is_running row && option_eq nat_eq row.initiator (Some initiator) || is_in_state Released row && is_free layout tables initiator) _ passes)
      (λ point begun few.
      by-some Idle (point_at row.points (step_in (place_of row))) (back initiator row owned) tables point begun
      (idle-row (back initiator row owned point) _ (row-next tables tables job row _ (back initiator row owned point).sets (as_is row at) (agreed.numbered job row at)).now (λ runs. refl))))))
