-- Data sets for checkpoints have records of 256 bytes behind one more event, where they have them before it.
use Rattle.std.proofs.Common.{◌≡◌, ℕ, suc, Bool, true, false, List, Option, Some, None, refl}
use Rattle.std.specs.Option.{option_map_or}
use Rattle.ckr_events.specs.declared.event.Event.{Event}
use Rattle.ckr_events.specs.declared.event.Event.TheVariants.{Restarted, Selected, Submitted}
use Rattle.ckr_events.specs.declared.event.Ending.{Ending}
use Rattle.ckr_events.specs.declared.event.Ending.TheVariants.{Allocation, Coded, Completed}
use Rattle.ckr_events.specs.declared.event.Made.{Made}
use Rattle.ckr_jcl.specs.declared.deck.Job.{Job}
use Rattle.ckr_library.specs.declared.sets.Kept.{Kept}
use Rattle.ckr_library.proofs.Named.{each-with_changed}
use Rattle.ckr_meaning.specs.Allotments.{DdAllotment, opened_all}
use Rattle.ckr_library.specs.NameMaps.{Name}
use Rattle.ckr_meaning.specs.EffectiveJob.{OwnedStep, placed_in, stamp_of}
use Rattle.ckr_meaning.specs.declared.place.Place.{Place}
use Rattle.ckr_meaning.specs.declared.place.Place.TheVariants.{Before, Opened, Within}
use Rattle.ckr_points_library.specs.Commit.{output_names}
use Rattle.ckr_points.specs.Events.{IsNext}
use Rattle.ckr_points.specs.Office.{Leg, Office, office_after}
use Rattle.ckr_points.specs.Marks.{point_at, removed_all, with_point, has_passed, without_passed}
use Rattle.ckr_points.specs.Restart.{Back, after_abnormal, after_continued, after_continued_at, after_ended, after_entry_continued, after_passed_ended, after_put_back, after_restarted, back_to_entry, back_to_start, by_run, by_step, continued_row, deferred_entry, deferred_start, effect_restarted, kept_at, place_of, point_restarted, row_on, step_in, syschk_name}
use Rattle.ckr_points.specs.Rows.{EffectPoint, KeptEntry, RunRow, StartPoint, TablesModel, run_of, standing_of, step_of_run, table_ways}
use Rattle.ckr_points.specs.Tables.{after_checkpointed, after_commit, after_dispositions, after_rewritten, after_step_ended, earlier_made, is_checkpoints, is_updates, name_with_role, own_made, row_rewritten, run_disposals, table_rewritten, after_started}
use Rattle.ckr_desk_turn.specs.DeckLimits.{HasCheckParts}
use Rattle.ckr_points_invariant.specs.Invariant.{IsHolder, IsKept}
use Rattle.ckr_points_invariant.proofs.PutBack.Sets.{removed_all-holds}
use Rattle.ckr_volumes.specs.declared.layout.Layout.{Layout}
use Rattle.ckr_desk_turn.specs.CheckSets.{HasCheckRecords, HaveCheckRecords}
use Rattle.ckr_desk_turn.specs.DeckEvents.{IsDeckEvent}
use Rattle.ckr_desk_turn.proofs.CheckSets.Changes.{committed-have, disposed_all-have, made_all-have, opened_all-have, passed_ended-have, placed-right, put_back-have}
use Rattle.ckr_desk_turn.proofs.AdmittedSteps.{admitted-parts}
use Rattle.ckr_desk_turn.proofs.Runs.Rows.{HasRow, HasRows, has-row}
use Rattle.ckr_points_invariant.proofs.EventCases.{RunCases, by-run-cases}
use Rattle.ckr_points_invariant.proofs.Start.Event.{StartsNow}

-- each data set for checkpoints of the tables
abbrev Have : TablesModel → Type 0
Have tables = HaveCheckRecords tables.sets

by : {A : Type 0} (tables : TablesModel) (change : A → TablesModel) (given : Option A) → Have tables → ((its : A) → Have (change its)) → Have (option_map_or change given tables)
by tables change None each more = each
by tables change (Some its) each more = more its

by-step : (tables : TablesModel) (job : ℕ) (change : RunRow → OwnedStep → ℕ → TablesModel) → Have tables → ((row : RunRow) (owned : OwnedStep) (step : ℕ) → Have (change row owned step)) → Have (option_map_or (λ row. by_step (λ owned step. change row owned step) row tables) (run_of tables job) tables)
by-step tables job change each more =
    by tables (λ row. by_step (λ owned step. change row owned step) row tables) (run_of tables job) each
    (λ row. by tables (λ owned. change row owned (step_in (place_of row))) (step_of_run row (step_in (place_of row))) each (λ owned. more row owned (step_in (place_of row))))

-- ---- the end of a step, and of a run

commit-has : (tables : TablesModel) (row : RunRow) (owned : OwnedStep) (step writes : ℕ) (lengths : List ℕ) → Have tables → Have (after_commit row owned step writes lengths tables)
commit-has tables row owned step writes lengths each = committed-have (output_names row.job.root owned) lengths tables.sets each

disposed-have : (tables : TablesModel) (row : RunRow) (owned : OwnedStep) (step : ℕ) (abnormal : Bool) → Have tables → HaveCheckRecords (after_dispositions row owned step abnormal tables).sets
disposed-have tables row owned step abnormal each = disposed_all-have (run_disposals row owned (own_made row owned step) (earlier_made tables row step) abnormal) (standing_of row tables) each

passed-has : (tables : TablesModel) (row : RunRow) → Have tables → Have (after_passed_ended row tables)
passed-has tables row each = passed_ended-have (has_passed row) tables.sets each

abnormal-has : (tables : TablesModel) (row : RunRow) (place : Place) → Have tables → Have (after_abnormal row place tables)
abnormal-has tables row (Before step) each = passed-has tables row each
abnormal-has tables row (Opened step) each = passed-has tables row each
abnormal-has tables row (Within step writes) each =
    by tables (λ owned. let done = after_dispositions row owned step true tables in after_passed_ended (record row { passed = done.passed }) (record tables { sets = done.sets })) (step_of_run row step) each
    (λ owned. passed_ended-have (without_passed row.lost (after_dispositions row owned step true tables).passed) (after_dispositions row owned step true tables).sets (disposed-have tables row owned step true each))

ended-has : (tables : TablesModel) (row : RunRow) (ending : Ending) → Have tables → Have (after_ended row ending tables)
ended-has tables row Completed each = passed-has tables row each
ended-has tables row (Coded code rule writes lengths) each =
    by tables (λ owned. after_abnormal (record row { place = Some (Within (step_in (place_of row)) writes) }) (Within (step_in (place_of row)) writes) (after_commit row owned (step_in (place_of row)) writes lengths.items tables)) (step_of_run row (step_in (place_of row))) each
    (λ owned.
    abnormal-has (after_commit row owned (step_in (place_of row)) writes lengths.items tables) (record row { place = Some (Within (step_in (place_of row)) writes) }) (Within (step_in (place_of row)) writes)
    (commit-has tables row owned (step_in (place_of row)) writes lengths.items each))
ended-has tables row (Allocation dd cause first second) each = abnormal-has tables row (place_of row) each

-- ---- one more event

module _ (layout : Layout) (now : Office) (kept : IsKept layout now) (has : HasRows now) (each : Have now.tables) where
  -- what an accepted deck gives to a step of a run, its own or taken over
  own-parts : (job : ℕ) (row : RunRow) (leg : Leg) (owned : OwnedStep) (step : ℕ) → IsHolder now job row leg → step_of_run row step ≡ Some owned → HasCheckParts owned.step
  own-parts job row leg owned step holder found =
      let was : HasRow row = has-row now has job row holder.row_at in
      admitted-parts step owned (was.admitted.steps step owned found)

  started-has : (job step : ℕ) (items : List Made) (row : RunRow) (leg : Leg) (owned : OwnedStep) → StartsNow layout now job row leg owned step items → Have (after_started row owned step items now.tables)
  started-has job step items row leg owned starts =
      let placed : List DdAllotment = placed_in table_ways (standing_of row now.tables) row.job.root owned in
      made_all-have (stamp_of owned step) items placed (opened_all table_ways (stamp_of owned step) placed now.tables.sets)
      (placed-right table_ways (standing_of row now.tables) row.job.root owned 1 owned.step.dds (own-parts job row leg owned step starts.holder starts.found).records)
      (opened_all-have (stamp_of owned step) placed now.tables.sets each)

  rewritten-has : (row : RunRow) (owned : OwnedStep) (step writes : ℕ) (lengths : List ℕ) → Have (after_rewritten row owned step writes lengths now.tables)
  rewritten-has row owned step writes lengths =
      let done : TablesModel = after_commit (row_rewritten step row) owned step writes lengths now.tables in
      each-with_changed HasCheckRecords (name_with_role row.job.root owned is_updates) (table_rewritten owned.owner step) done.sets (λ table its. its)
      (commit-has now.tables (row_rewritten step row) owned step writes lengths each)

  taken-has : (row : RunRow) (owned : OwnedStep) (step : ℕ) (entry : Kept) (taken writes : ℕ) (lengths : List ℕ) → Have (after_checkpointed row owned step entry taken writes lengths now.tables)
  taken-has row owned step entry taken writes lengths =
      let done = committed-have (output_names row.job.root owned) lengths now.tables.sets each in
      each-with_changed HasCheckRecords (name_with_role row.job.root owned is_checkpoints) _ _ (λ table its. its) done

  step_ended-has : (row : RunRow) (owned : OwnedStep) (step rc writes : ℕ) (lengths : List ℕ) → Have (after_step_ended row owned step rc writes lengths now.tables)
  step_ended-has row owned step rc writes lengths =
      disposed-have (after_commit row owned step writes lengths now.tables) row owned step false (commit-has now.tables row owned step writes lengths each)

  -- a run goes back
  back-has : (row : RunRow) (owned : OwnedStep) (back : Back) → Have (after_put_back row owned back now.tables)
  back-has row owned back =
      put_back-have back.marks (output_names row.job.root owned) back.needed (removed_all back.removed now.tables.sets)
      (removed_all-holds HasCheckRecords back.removed now.tables.sets each)

  restarted-has : (row : RunRow) (owned : OwnedStep) (step initiator : ℕ) (checkpoint : Bool) → Have (after_restarted row owned step initiator checkpoint now.tables)
  restarted-has row owned step initiator false =
      by now.tables (λ point. after_put_back (record (row_on initiator row) { points = with_point (point_restarted point) row.points; in_effect = None }) owned (back_to_start row owned step point) now.tables) (point_at row.points step) each
      (λ point. back-has (record (row_on initiator row) { points = with_point (point_restarted point) row.points; in_effect = None }) owned (back_to_start row owned step point))
  restarted-has row owned step initiator true =
      by now.tables
      (λ (effect : EffectPoint).
      option_map_or (λ (entry : KeptEntry). after_put_back (record (row_on initiator row) { in_effect = Some (effect_restarted effect) }) owned (back_to_entry row owned step entry.point) now.tables)
      (kept_at now.tables.sets effect.set effect.kept.id) now.tables)
      row.in_effect each
      (λ effect.
      by now.tables (λ (entry : KeptEntry). after_put_back (record (row_on initiator row) { in_effect = Some (effect_restarted effect) }) owned (back_to_entry row owned step entry.point) now.tables)
      (kept_at now.tables.sets effect.set effect.kept.id) each
      (λ entry. back-has (record (row_on initiator row) { in_effect = Some (effect_restarted effect) }) owned (back_to_entry row owned step entry.point)))

  -- a run goes on with an earlier one
  continued-has : (row earlier : RunRow) (step initiator : ℕ) (id : Option Name) → Have (after_continued row earlier step initiator id now.tables)
  continued-has row earlier step initiator id =
      by now.tables (λ (owned : OwnedStep). option_map_or (λ point. after_continued_at (continued_row row earlier step point initiator now.tables.sets) owned step point id now.tables) (point_at earlier.points step) now.tables) (step_of_run earlier step) each
      (λ owned.
      by now.tables (λ (point : StartPoint). after_continued_at (continued_row row earlier step point initiator now.tables.sets) owned step point id now.tables) (point_at earlier.points step) each
      (λ point. at-id (continued_row row earlier step point initiator now.tables.sets) owned point id))
    where
      at-id : (next : RunRow) (owned : OwnedStep) (point : StartPoint) (id : Option Name) → Have (after_continued_at next owned step point id now.tables)
      at-id next owned point None = back-has next owned (deferred_start next owned step point)
      at-id next owned point (Some id) =
          by now.tables (λ (entry : KeptEntry). after_entry_continued next owned step (syschk_name next.deck) entry now.tables) (kept_at now.tables.sets (syschk_name next.deck) id) each
          (λ entry. back-has next owned (deferred_entry next step entry.point))

  have-cases : RunCases layout now kept.events (λ office. Have office.tables)
  have-cases = record {
    gone = λ job row state e queued over gone. each;
    selected = λ row initiator row_at queued plain free. each;
    started = λ job step items row leg owned starts apart. started-has job step items row leg owned starts;
    rewritten = λ job taken writes place lengths image row leg owned its apart. rewritten-has row owned (step_in (place_of row)) writes lengths;
    checkpointed = λ job taken writes place bytes id lengths row leg owned its apart. taken-has row owned (step_in (place_of row)) (record { id = id; run = job; place = place; bytes = bytes }) taken writes lengths;
    withdrawn = λ job row leg holder within. each;
    step_done = λ job rc writes lengths row leg owned its apart. step_ended-has row owned (step_in (place_of row)) rc writes lengths;
    held = λ job writes code lengths row leg owned its apart. committed-have (output_names row.job.root owned) lengths now.tables.sets each;
    released = λ job row leg its. each;
    through = λ job row leg its apart. passed-has now.tables row each;
    coded = λ job rule writes code lengths row leg owned its apart. ended-has now.tables row (Coded code rule writes lengths) each;
    refused = λ job dd cause first second row leg owned its apart. abnormal-has now.tables row (place_of row) each;
  }

  pub have-next : (event : Event) (deck : Option Job) → IsDeckEvent event deck → IsNext layout now (event, deck) → Have (office_after (event, deck) now).tables
  have-next (Submitted job cards) None is next = absurd is
  have-next (Submitted job cards) (Some deck) is next = each
  have-next (Selected job initiator (suc before) step id) deck is next =
      by now.tables (λ (row : RunRow). by_run (suc before) now.tables (λ earlier. after_continued row earlier step initiator id now.tables)) (run_of now.tables job) each
      (λ row. by now.tables (λ (earlier : RunRow). after_continued row earlier step initiator id now.tables) (run_of now.tables (suc before)) each (λ earlier. continued-has row earlier step initiator id))
  have-next (Restarted job initiator code checkpoint) deck is next =
      by-step now.tables job (λ row owned step. after_restarted row owned step initiator checkpoint now.tables) each (λ row owned step. restarted-has row owned step initiator checkpoint)
  have-next event deck is next = by-run-cases (λ (office : Office). Have office.tables) layout now kept.events have-cases event deck tt refl next
