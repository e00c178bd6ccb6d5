-- The rows of runs behind an event: that of its own run alone changes, which keeps its initiator, has none, or gets the event's.
use Rattle.std.proofs.Common.{◌≡◌, ℕ, zero, suc, Bool, true, false, List, refl, sym, subst, Option, Some, None}
use Rattle.std.specs.Option.{option_map_or}
use Rattle.ckr_events.specs.Jobs.{job_of}
use Rattle.ckr_events.specs.declared.event.Ending.{Ending}
use Rattle.ckr_events.specs.declared.event.Ending.TheVariants.{Allocation, Coded, Completed}
use Rattle.ckr_events.specs.declared.event.Event.{Event}
use Rattle.ckr_events.specs.declared.event.Event.TheVariants.{Cancelled, Checkpointed, Denied, Ended, Held, Purged, Released, Restarted, Rewritten, Selected, Started, StepEnded, Submitted}
use Rattle.ckr_library.specs.NameMaps.{Name}
use Rattle.ckr_meaning.specs.EffectiveJob.{OwnedStep}
use Rattle.ckr_meaning.specs.declared.place.Place.{Place}
use Rattle.ckr_meaning.specs.declared.place.Place.TheVariants.{Before, Opened, Within}
use Rattle.ckr_points.specs.Marks.{point_at}
use Rattle.ckr_points.specs.Restart.{after_abnormal, after_chosen, after_continued, after_continued_at, after_ended, after_event, after_passed_ended, after_restarted, by_step, continued_row, kept_at, place_of, step_in, syschk_name}
use Rattle.ckr_points.specs.Rows.{EffectPoint, KeptEntry, RunRow, StartPoint, TablesModel, run_of, step_of_run, with_row, with_run}
use Rattle.ckr_points.specs.Tables.{after_checkpointed, after_commit, after_dispositions, after_held, after_rewritten, after_started, after_step_ended}
use Rattle.ckr_points.specs.declared.run.RunState.TheVariants.{Denied as DeniedRun, Purged as PurgedRun, Released as ReleasedRun}

-- an event that gives its run no initiator but one that is so
abbrev pub GivesOnly : (Option ℕ → Type 0) → Event → Type 0
GivesOnly Off (Selected job initiator earlier step id) = Off (Some initiator)
GivesOnly Off (Restarted job initiator code checkpoint) = Off (Some initiator)
GivesOnly Off _ = Unit {0}

-- a row of the event's run, with an initiator that is so
pub record IsRow (Off : Option ℕ → Type 0) (job : ℕ) (row : RunRow) : Type 0 where
  pub number : row.number ≡ job
  pub off : Off row.initiator

-- What holds of the rows of all runs, and whichever row of the event's run is put in, holds behind the event.
module _ (Holds : List RunRow → Type 0) (Off : Option ℕ → Type 0) (none : Off None) (job : ℕ)
    (set : (row : RunRow) (runs : List RunRow) → IsRow Off job row → Holds runs → Holds (with_row row row.number runs)) where
  module _ (tables : TablesModel) (holds : Holds tables.runs) where
    by : {A : Type 0} (change : A → TablesModel) (given : Option A) → ((its : A) → Holds (change its).runs) → Holds (option_map_or change given tables).runs
    by change None each = holds
    by change (Some its) each = each its

    -- ---- a run goes back to a point

    restarted-rows : (row : RunRow) (owned : OwnedStep) (step initiator : ℕ) (checkpoint : Bool) → row.number ≡ job → Off (Some initiator) → Holds (after_restarted row owned step initiator checkpoint tables).runs
    restarted-rows row owned step initiator true same off =
        by _ row.in_effect (λ (effect : EffectPoint). by _ (kept_at tables.sets effect.set effect.kept.id) (λ (entry : KeptEntry). set _ tables.runs (record { number = same; off = off }) holds))
    restarted-rows row owned step initiator false same off =
        by _ (point_at row.points step) (λ (point : StartPoint). set _ tables.runs (record { number = same; off = off }) holds)

    continued_at-rows : (row : RunRow) (owned : OwnedStep) (step : ℕ) (point : StartPoint) (id : Option Name) → IsRow Off job row → Holds (after_continued_at row owned step point id tables).runs
    continued_at-rows row owned step point None its = set _ tables.runs (record { number = its.number; off = its.off }) holds
    continued_at-rows row owned step point (Some id) its = by _ (kept_at tables.sets (syschk_name row.deck) id) (λ (entry : KeptEntry). set _ tables.runs (record { number = its.number; off = its.off }) holds)

    chosen-rows : (row : RunRow) (initiator earlier step : ℕ) (id : Option Name) → row.number ≡ job → Off (Some initiator) → Holds (after_chosen row initiator earlier step id tables).runs
    chosen-rows row initiator zero step id same off = set _ tables.runs (record { number = same; off = off }) holds
    chosen-rows row initiator (suc before) step id same off =
        by (λ (earlier : RunRow). after_continued row earlier step initiator id tables) (run_of tables (suc before))
        (λ (earlier : RunRow).
        by _ (step_of_run earlier step)
        (λ (owned : OwnedStep).
        by _ (point_at earlier.points step)
        (λ (point : StartPoint). continued_at-rows (continued_row row earlier step point initiator tables.sets) owned step point id (record { number = same; off = off }))))

  -- ---- a run ends

  passed-rows : (row : RunRow) (tables : TablesModel) → row.number ≡ job → Holds tables.runs → Holds (after_passed_ended row tables).runs
  passed-rows row tables same holds = set _ tables.runs (record { number = same; off = none }) holds

  abnormal-rows : (row : RunRow) (place : Place) (tables : TablesModel) → row.number ≡ job → Holds tables.runs → Holds (after_abnormal row place tables).runs
  abnormal-rows row (Before step) tables same holds = passed-rows row tables same holds
  abnormal-rows row (Opened step) tables same holds = passed-rows row tables same holds
  abnormal-rows row (Within step writes) tables same holds =
      by tables holds _ (step_of_run row step) (λ (owned : OwnedStep). passed-rows (record row { passed = (after_dispositions row owned step true tables).passed }) tables same holds)

  ended-rows : (row : RunRow) (ending : Ending) (tables : TablesModel) → IsRow Off job row → Holds tables.runs → Holds (after_ended row ending tables).runs
  ended-rows row Completed tables its holds = passed-rows row tables its.number holds
  ended-rows row (Coded code rule writes lengths) tables its holds =
      by tables holds _ (step_of_run row (step_in (place_of row)))
      (λ (owned : OwnedStep).
      abnormal-rows (record row { place = Some (Within (step_in (place_of row)) writes) }) (Within (step_in (place_of row)) writes) (after_commit row owned (step_in (place_of row)) writes lengths.items tables) its.number
      (set _ tables.runs (record { number = its.number; off = its.off }) holds))
  ended-rows row (Allocation dd cause first second) tables its holds = abnormal-rows row (place_of row) tables its.number holds

  -- ---- an event

  module _ (tables : TablesModel) (holds : Holds tables.runs) (mine : (row : RunRow) → run_of tables job ≡ Some row → IsRow Off job row) where
    by-run : (change : RunRow → TablesModel) → ((row : RunRow) → IsRow Off job row → Holds (change row).runs) → Holds (option_map_or change (run_of tables job) tables).runs
    by-run change each = at (run_of tables job) refl
      where
        at : (row : Option RunRow) → run_of tables job ≡ row → Holds (option_map_or change row tables).runs
        at None e = holds
        at (Some row) e = each row (mine row e)

    by-step : (change : RunRow → OwnedStep → ℕ → TablesModel) → ((row : RunRow) (owned : OwnedStep) (step : ℕ) → IsRow Off job row → Holds (change row owned step).runs)
        → Holds (option_map_or (λ row. by_step (change row) row tables) (run_of tables job) tables).runs
    by-step change each =
        by-run (λ row. by_step (change row) row tables)
        (λ row its. by tables holds (λ (owned : OwnedStep). change row owned (step_in (place_of row))) (step_of_run row (step_in (place_of row))) (λ owned. each row owned (step_in (place_of row)) its))

    one : (row : RunRow) → IsRow Off job row → Holds (with_row row row.number tables.runs)
    one row its = set row tables.runs its holds

    event-rows : (event : Event) → GivesOnly Off event → job_of event ≡ job → Holds (after_event event None tables).runs
    event-rows (Submitted number cards) gives is = holds
    event-rows (Selected number initiator earlier step id) gives is =
        subst (λ n. Holds (option_map_or (λ row. after_chosen row initiator earlier step id tables) (run_of tables n) tables).runs) (sym is)
        (by-run (λ row. after_chosen row initiator earlier step id tables) (λ row its. chosen-rows tables holds row initiator earlier step id its.number gives))
    event-rows (Denied number rule name) gives is =
        subst (λ n. Holds (option_map_or (λ row. with_run (record row { state = DeniedRun }) tables) (run_of tables n) tables).runs) (sym is)
        (by-run (λ row. with_run (record row { state = DeniedRun }) tables) (λ row its. one _ (record { number = its.number; off = its.off })))
    event-rows (Started number step items) gives is =
        subst (λ n. Holds (option_map_or (λ row. option_map_or (λ owned. after_started row owned step items.items tables) (step_of_run row step) tables) (run_of tables n) tables).runs) (sym is)
        (by-run (λ row. option_map_or (λ owned. after_started row owned step items.items tables) (step_of_run row step) tables)
        (λ row its. by tables holds (λ (owned : OwnedStep). after_started row owned step items.items tables) (step_of_run row step) (λ owned. one _ (record { number = its.number; off = its.off }))))
    event-rows (Rewritten number taken writes lengths place image) gives is =
        subst (λ n. Holds (option_map_or (λ row. by_step (λ owned step. after_rewritten row owned step writes lengths.items tables) row tables) (run_of tables n) tables).runs) (sym is)
        (by-step (λ row owned step. after_rewritten row owned step writes lengths.items tables) (λ row owned step its. one _ (record { number = its.number; off = its.off })))
    event-rows (Checkpointed number id taken writes lengths place bytes) gives is =
        subst (λ n. Holds (option_map_or (λ row. by_step (λ owned step. after_checkpointed row owned step (record { id = id; run = number; place = place; bytes = bytes }) taken writes lengths.items tables) row tables) (run_of tables n) tables).runs) (sym is)
        (by-step (λ row owned step. after_checkpointed row owned step (record { id = id; run = number; place = place; bytes = bytes }) taken writes lengths.items tables) (λ row owned step its. one _ (record { number = its.number; off = its.off })))
    event-rows (Cancelled number) gives is =
        subst (λ n. Holds (option_map_or (λ row. with_run (record row { in_effect = None }) tables) (run_of tables n) tables).runs) (sym is)
        (by-run (λ row. with_run (record row { in_effect = None }) tables) (λ row its. one _ (record { number = its.number; off = its.off })))
    event-rows (StepEnded number step rc writes lengths) gives is =
        subst (λ n. Holds (option_map_or (λ row. by_step (λ owned step. after_step_ended row owned step rc writes lengths.items tables) row tables) (run_of tables n) tables).runs) (sym is)
        (by-step (λ row owned step. after_step_ended row owned step rc writes lengths.items tables)
        (λ row owned step its. set _ _ (record { number = its.number; off = its.off }) (one _ (record { number = its.number; off = its.off }))))
    event-rows (Restarted number initiator code checkpoint) gives is =
        subst (λ n. Holds (option_map_or (λ row. by_step (λ owned step. after_restarted row owned step initiator checkpoint tables) row tables) (run_of tables n) tables).runs) (sym is)
        (by-step (λ row owned step. after_restarted row owned step initiator checkpoint tables) (λ row owned step its. restarted-rows tables holds row owned step initiator checkpoint its.number gives))
    event-rows (Held number code writes lengths) gives is =
        subst (λ n. Holds (option_map_or (λ row. by_step (λ owned step. after_held row owned step code writes lengths.items tables) row tables) (run_of tables n) tables).runs) (sym is)
        (by-step (λ row owned step. after_held row owned step code writes lengths.items tables) (λ row owned step its. one _ (record { number = its.number; off = none })))
    event-rows (Released number) gives is =
        subst (λ n. Holds (option_map_or (λ row. with_run (record row { state = ReleasedRun }) tables) (run_of tables n) tables).runs) (sym is)
        (by-run (λ row. with_run (record row { state = ReleasedRun }) tables) (λ row its. one _ (record { number = its.number; off = its.off })))
    event-rows (Ended number ending) gives is =
        subst (λ n. Holds (option_map_or (λ row. after_ended row ending tables) (run_of tables n) tables).runs) (sym is)
        (by-run (λ row. after_ended row ending tables) (λ row its. ended-rows row ending tables its holds))
    event-rows (Purged number) gives is =
        subst (λ n. Holds (option_map_or (λ row. with_run (record row { state = PurgedRun }) tables) (run_of tables n) tables).runs) (sym is)
        (by-run (λ row. with_run (record row { state = PurgedRun }) tables) (λ row its. one _ (record { number = its.number; off = its.off })))

-- whatever holds of the rows, and whichever row of the event's run is put in
pub rows-behind : (Holds : List RunRow → Type 0) (Off : Option ℕ → Type 0) → Off None → (event : Event) → GivesOnly Off event → ((row : RunRow) (runs : List RunRow) → IsRow Off (job_of event) row → Holds runs → Holds (with_row row row.number runs))
    → (tables : TablesModel) → Holds tables.runs → ((row : RunRow) → run_of tables (job_of event) ≡ Some row → IsRow Off (job_of event) row) → Holds (after_event event None tables).runs
rows-behind Holds Off none event gives set tables holds mine = event-rows Holds Off none (job_of event) set tables holds mine event gives refl
