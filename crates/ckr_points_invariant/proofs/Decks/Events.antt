-- Each event leaves each run its number and its deck, and the one by which a run comes carries that its deck is orderly.
use Rattle.std.proofs.Common.{◌≡◌, ℕ, zero, suc, Bool, true, false, refl, sym, Option, Some, None}
use Rattle.std.specs.List.{AllByRecursion}
use Rattle.std.specs.Option.{option_map_or}
use Rattle.ckr_base.proofs.Options.{some-not-none}
use Rattle.ckr_base.proofs.Sequences.{each-append, each-get}
use Rattle.ckr_events.specs.declared.event.Ending.{Ending}
use Rattle.ckr_events.specs.declared.event.Ending.TheVariants.{Allocation, Coded, Completed}
use Rattle.ckr_events.specs.declared.event.Event.{Event}
use Rattle.ckr_events.specs.declared.event.Event.TheVariants.{Checkpointed, Ended, Held, Restarted, Rewritten, Selected, Started, StepEnded, Submitted}
use Rattle.ckr_events.specs.Jobs.{job_of}
use Rattle.ckr_jcl.specs.declared.deck.Job.{Job}
use Rattle.ckr_library.specs.NameMaps.{Name}
use Rattle.ckr_meaning.specs.EffectiveJob.{OwnedStep}
use Rattle.ckr_meaning.specs.declared.place.Place.{Place}
use Rattle.ckr_meaning.specs.declared.place.Place.TheVariants.{Before, Opened, Within}
use Rattle.ckr_points.specs.Marks.{point_at, with_point}
use Rattle.ckr_points.specs.Payload.{is_orderly}
use Rattle.ckr_points.specs.Restart.{Back, after_abnormal, after_chosen, after_continued, after_continued_at, after_ended, after_event, after_passed_ended, after_put_back, after_restarted, after_taken_over, back_to_entry, back_to_start, by_step, continued_row, deferred_entry, deferred_start, effect_restarted, kept_at, place_of, point_restarted, row_on, syschk_name}
use Rattle.ckr_points.specs.Rows.{EffectPoint, KeptEntry, RunRow, StartPoint, TablesModel, run_of, step_of_run, with_row, with_run}
use Rattle.ckr_points.specs.Tables.{after_checkpointed, after_commit, after_dispositions, after_held, after_rewritten, after_started, after_step_ended, fresh_effect}
use Rattle.ckr_points_invariant.specs.Invariant.{AreOrderly, step_now}
use Rattle.ckr_points_invariant.proofs.Points.Rows.{all_set}

abbrev IsOrderlyRow : RunRow → Type 0
IsOrderlyRow row = is_orderly row.number row.deck ≡ true

-- a run's deck
pub row-orderly : (tables : TablesModel) (number : ℕ) (row : RunRow) → AreOrderly tables → run_of tables number ≡ Some row → is_orderly row.number row.deck ≡ true
row-orderly tables zero row orderly at = absurd (some-not-none row (sym at))
row-orderly tables (suc before) row orderly at = each-get IsOrderlyRow tables.runs before row orderly at

-- the tables with a run's row, whatever their data sets
pub with-orderly : (row : RunRow) (tables : TablesModel) → IsOrderlyRow row → AreOrderly tables → AreOrderly (with_run row tables)
with-orderly row tables one orderly = by row.number
  where
    by : (number : ℕ) → AllByRecursion IsOrderlyRow (with_row row number tables.runs)
    by zero = orderly
    by (suc before) = all_set IsOrderlyRow tables.runs before row one orderly

module _ (tables : TablesModel) (orderly : AreOrderly tables) where
  by : {A : Type 0} (change : A → TablesModel) (given : Option A) → ((its : A) → AreOrderly (change its)) → AreOrderly (option_map_or change given tables)
  by change None each = orderly
  by change (Some its) each = each its

  by-run : (job : ℕ) (change : RunRow → TablesModel) → ((row : RunRow) → IsOrderlyRow row → AreOrderly (change row)) → AreOrderly (option_map_or change (run_of tables job) tables)
  by-run job change each = at (run_of tables job) refl
    where
      at : (row : Option RunRow) → run_of tables job ≡ row → AreOrderly (option_map_or change row tables)
      at None e = orderly
      at (Some row) e = each row (row-orderly tables job row orderly e)

  by-step : (job : ℕ) (change : RunRow → OwnedStep → ℕ → TablesModel) → ((row : RunRow) (owned : OwnedStep) (step : ℕ) → IsOrderlyRow row → AreOrderly (change row owned step))
      → AreOrderly (option_map_or (λ row. by_step (change row) row tables) (run_of tables job) tables)
  by-step job change each =
      by-run job (λ row. by_step (change row) row tables)
      (λ row mine. by (λ owned. change row owned (step_now row)) (step_of_run row (step_now row)) (λ owned. each row owned (step_now row) mine))

  -- ---- a run goes back to a point

  put-back-orderly : (row : RunRow) (owned : OwnedStep) (back : Back) → IsOrderlyRow row → AreOrderly (after_put_back row owned back tables)
  put-back-orderly row owned back mine = with-orderly _ tables mine orderly

  taken-orderly : (row : RunRow) (owned : OwnedStep) (back : Back) → IsOrderlyRow row → AreOrderly (after_taken_over row owned back tables)
  taken-orderly row owned back mine = with-orderly _ tables mine orderly

  restarted-orderly : (row : RunRow) (owned : OwnedStep) (step initiator : ℕ) (checkpoint : Bool) → IsOrderlyRow row → AreOrderly (after_restarted row owned step initiator checkpoint tables)
  restarted-orderly row owned step initiator true mine =
      by _ row.in_effect (λ (effect : EffectPoint). by _ (kept_at tables.sets effect.set effect.kept.id) (λ (entry : KeptEntry). put-back-orderly (record (row_on initiator row) { in_effect = Some (effect_restarted effect) }) owned (back_to_entry row owned step entry.point) mine))
  restarted-orderly row owned step initiator false mine =
      by _ (point_at row.points step) (λ (point : StartPoint). put-back-orderly (record (row_on initiator row) { points = with_point (point_restarted point) row.points; in_effect = None }) owned (back_to_start row owned step point) mine)

  continued_at-orderly : (row : RunRow) (owned : OwnedStep) (step : ℕ) (point : StartPoint) (id : Option Name) → IsOrderlyRow row → AreOrderly (after_continued_at row owned step point id tables)
  continued_at-orderly row owned step point None mine = taken-orderly row owned (deferred_start row owned step point) mine
  continued_at-orderly row owned step point (Some id) mine = by _ (kept_at tables.sets (syschk_name row.deck) id) (λ (entry : KeptEntry). taken-orderly (record row { in_effect = Some (fresh_effect (syschk_name row.deck) entry.kept) }) owned (deferred_entry row step entry.point) mine)

  chosen-orderly : (row : RunRow) (initiator earlier step : ℕ) (id : Option Name) → IsOrderlyRow row → AreOrderly (after_chosen row initiator earlier step id tables)
  chosen-orderly row initiator zero step id mine = with-orderly _ tables mine orderly
  chosen-orderly row initiator (suc before) step id mine =
      by-run (suc before) (λ earlier. after_continued row earlier step initiator id tables)
      (λ earlier its.
      by _ (step_of_run earlier step)
      (λ owned. by _ (point_at earlier.points step) (λ (point : StartPoint). continued_at-orderly (continued_row row earlier step point initiator tables.sets) owned step point id mine)))

-- ---- a run ends

passed-orderly : (row : RunRow) (tables : TablesModel) → IsOrderlyRow row → AreOrderly tables → AreOrderly (after_passed_ended row tables)
passed-orderly row tables mine orderly = with-orderly _ tables mine orderly

abnormal-orderly : (row : RunRow) (place : Place) (tables : TablesModel) → IsOrderlyRow row → AreOrderly tables → AreOrderly (after_abnormal row place tables)
abnormal-orderly row (Before step) tables mine orderly = passed-orderly row tables mine orderly
abnormal-orderly row (Opened step) tables mine orderly = passed-orderly row tables mine orderly
abnormal-orderly row (Within step writes) tables mine orderly = by tables orderly _ (step_of_run row step) (λ owned. passed-orderly (record row { passed = (after_dispositions row owned step true tables).passed }) tables mine orderly)

ended-orderly : (row : RunRow) (ending : Ending) (tables : TablesModel) → IsOrderlyRow row → AreOrderly tables → AreOrderly (after_ended row ending tables)
ended-orderly row Completed tables mine orderly = passed-orderly row tables mine orderly
ended-orderly row (Coded code rule writes lengths) tables mine orderly =
    by tables orderly _ (step_of_run row (step_now row)) (λ owned. abnormal-orderly (record row { place = Some (Within (step_now row) writes) }) (Within (step_now row) writes) (after_commit row owned (step_now row) writes lengths.items tables) mine (with-orderly _ tables mine orderly))
ended-orderly row (Allocation dd cause first second) tables mine orderly = abnormal-orderly row (place_of row) tables mine orderly

-- ---- an event

-- an event by which a run comes has its orderly deck
abbrev pub HasOrderly : Event → Option Job → Type 0
HasOrderly (Submitted job cards) deck = option_map_or (is_orderly job) deck false ≡ true
HasOrderly _ deck = Unit {0}

pub orderly-next : (tables : TablesModel) (event : Event) (deck : Option Job) → HasOrderly event deck → AreOrderly tables → AreOrderly (after_event event deck tables)
orderly-next tables (Submitted job cards) None has orderly = orderly
orderly-next tables (Submitted job cards) (Some deck) has orderly = each-append IsOrderlyRow tables.runs _ orderly (has, tt)
orderly-next tables (Selected job initiator earlier step id) deck has orderly =
    by-run tables orderly job (λ row. after_chosen row initiator earlier step id tables) (λ row mine. chosen-orderly tables orderly row initiator earlier step id mine)
orderly-next tables (Started job step items) deck has orderly =
    by-run tables orderly job _ (λ row mine. by tables orderly (λ owned. after_started row owned step items.items tables) (step_of_run row step) (λ owned. with-orderly _ tables mine orderly))
orderly-next tables (Rewritten job taken writes lengths place image) deck has orderly =
    by-step tables orderly job (λ row owned step. after_rewritten row owned step writes lengths.items tables) (λ row owned step mine. with-orderly _ tables mine orderly)
orderly-next tables (Checkpointed job id taken writes lengths place bytes) deck has orderly =
    by-step tables orderly job (λ row owned step. after_checkpointed row owned step (record { id = id; run = job; place = place; bytes = bytes }) taken writes lengths.items tables) (λ row owned step mine. with-orderly _ tables mine orderly)
orderly-next tables (StepEnded job step rc writes lengths) deck has orderly =
    by-step tables orderly job (λ row owned step. after_step_ended row owned step rc writes lengths.items tables) (λ row owned step mine. with-orderly _ (after_commit row owned step writes lengths.items tables) mine (with-orderly _ tables mine orderly))
orderly-next tables (Restarted job initiator code checkpoint) deck has orderly =
    by-step tables orderly job (λ row owned step. after_restarted row owned step initiator checkpoint tables) (λ row owned step mine. restarted-orderly tables orderly row owned step initiator checkpoint mine)
orderly-next tables (Held job code writes lengths) deck has orderly =
    by-step tables orderly job (λ row owned step. after_held row owned step code writes lengths.items tables) (λ row owned step mine. with-orderly _ tables mine orderly)
orderly-next tables (Ended job ending) deck has orderly = by-run tables orderly job (λ row. after_ended row ending tables) (λ row mine. ended-orderly row ending tables mine orderly)
orderly-next tables event deck has orderly = by-run tables orderly (job_of event) _ (λ row mine. with-orderly _ tables mine orderly)
