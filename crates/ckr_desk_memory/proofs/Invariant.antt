-- What holds of the jobs in memory holds behind an event that follows.
use Rattle.std.proofs.Common.{◌≡◌, ◌==◌, ◌&&◌, ◌||◌, ℕ, suc, Bool, true, false, not, cond, List, ◌∷◌, map, filter, refl, ap, sym, ◌∙◌, subst, Option, None, Some, arith, []}
use Rattle.std.proofs.lemmas.Bool.{and_from, false≢true, or_right}
use Rattle.std.specs.Prelude.{if◌then◌else◌, nat_le}
use Rattle.std.specs.List.{AllByRecursion}
use Rattle.std.specs.Option.{is_none, is_some, option_map, option_map_or}
use Rattle.ckr_base.proofs.Bools.{and-first, and-second, bool-cases, if-then, or-cases}
use Rattle.ckr_base.proofs.Options.{is_none-true, is_some-from}
use Rattle.ckr_base.proofs.Numbers.{equal-true, nat_le-from, nat_le-true}
use Rattle.ckr_base.proofs.Sequences.{each-append, find-passes}
use Rattle.ckr_events.specs.declared.event.Event.{Event}
use Rattle.ckr_events.specs.declared.event.Event.TheVariants.{Submitted, Selected, Held}
use Rattle.ckr_base.specs.declared.code.Code.{Code}
use Rattle.ckr_jcl.specs.declared.deck.Job.{Job}
use Rattle.ckr_meaning.specs.Allotments.{opened_all}
use Rattle.ckr_meaning.specs.EffectiveJob.{Effective, OwnedStep, placed_in, stamp_of, step_at}
use Rattle.ckr_meaning.specs.declared.place.Place.{Place}
use Rattle.ckr_meaning.specs.declared.place.Place.TheVariants.{Before, Opened, Within}
use Rattle.ckr_volumes.specs.declared.layout.Layout.{Layout}
use Rattle.ckr_points.specs.Marks.{point_at}
use Rattle.ckr_points.specs.Office.{is_holder}
use Rattle.ckr_points.specs.Tables.{after_commit, after_held, effect_rewritten, point_rewritten, queued_run, start_point, after_checkpointed, after_dispositions, after_rewritten, after_selected, after_started, after_step_ended, fresh_effect, is_checkpoints, name_with_role}
use Rattle.ckr_points.specs.declared.run.RunState.{RunState}
use Rattle.ckr_points.specs.declared.run.RunState.TheVariants.{Queued, On, Held as HeldRun, Released as ReleasedRun}
use Rattle.ckr_points.specs.Follows.{follows, is_in_state, is_running, is_within, may_start, state_number, own_step}
use Rattle.ckr_points.specs.Restart.{after_event, carried_point, place_of, spliced, step_in, after_passed_ended}
use Rattle.ckr_points.specs.Rows.{RunRow, StartPoint, TableSet, TablesModel, run_of, standing_of, step_of_run, table_ways, with_row, EffectPoint}
use Rattle.ckr_library.specs.NameMaps.{Named}
use Rattle.ckr_points_invariant.proofs.Holders.Rows.{queued-is}
use Rattle.ckr_desk_turn.proofs.AdmittedSteps.{spliced-here}
use Rattle.ckr_points_invariant.proofs.Steps.Events.{on-holds}
use Rattle.ckr_points_invariant.proofs.Marks.Points.{point_at-new}
use Rattle.ckr_desk_turn.specs.Invariant.{is_off, is_on_one}
use Rattle.ckr_desk_turn.specs.Spelling.{IsCode}
use Rattle.ckr_desk_memory.specs.Invariant.{IsAnyAccepted, IsAnyPlaceOf, IsPlacedRow, is_begun, is_in_step}
use Rattle.ckr_desk_memory.specs.Parts.{step_seen}
use Rattle.ckr_desk_plans.specs.declared.running_step.RunningStep.{RunningStep}
use Rattle.ckr_desk_memory.specs.View.{RunningStepView}
use Rattle.ckr_desk_memory.specs.EventChanges.{without_run}
use Rattle.ckr_desk_memory.proofs.Continuations.{by-continuation}
use Rattle.ckr_desk_memory.proofs.Starts.Steps.{row-among}
use Rattle.ckr_desk_memory.proofs.Queue.{held-is, on-is, released-is}
use Rattle.ckr_desk_memory.proofs.Runs.{each-put}
use Rattle.ckr_desk_memory.proofs.EventCases.{HoldsWith, IsHand, RunCases, by-run-cases}
use Rattle.ckr_desk_memory.proofs.EventRows.{IsSelected, IsStarting, after_end_within}
use Rattle.ckr_library.specs.declared.sets.Kept.{Kept}
use Rattle.ckr_events.specs.declared.event.Made.{Made}
use Rattle.ckr_events.specs.Jobs.{job_of}

-- ---- the places and codes of the runs

abbrev ArePlaced : TablesModel → Type 0
ArePlaced tables = AllByRecursion IsPlacedRow tables.runs

-- a row that is put is such a one
placed_put : (rows : List RunRow) (number : ℕ) (row : RunRow) → IsPlacedRow row → AllByRecursion IsPlacedRow rows → AllByRecursion IsPlacedRow (with_row row number rows)
placed_put rows number row is placed = each-put IsPlacedRow rows number row is placed

-- a run within a step has the point of its start
pub begun-within : (row : RunRow) → is_within (place_of row) ≡ true → IsPlacedRow row → is_some (point_at row.points (step_in (place_of row))) ≡ true
begun-within row within is = if-then (is_within (place_of row)) (is_some (point_at row.points (step_in (place_of row)))) is.begun within

-- a rewrite takes no point away
rewritten_point : (step at : ℕ) (points : List StartPoint) → is_some (point_at (map (point_rewritten step) points) at) ≡ is_some (point_at points at)
rewritten_point step at [] = refl
rewritten_point step at (first ∷ rest) = by (first.step == step) (rewritten_point step at rest)
  where
    by : (b : Bool) → is_some (point_at (map (point_rewritten step) rest) at) ≡ is_some (point_at rest at)
        → is_some (point_at ((if b then record first { rewritten = true } else first) ∷ map (point_rewritten step) rest) at) ≡ is_some (point_at (first ∷ rest) at)
    by true same = here (first.step == at)
      where
        here : (b : Bool) → is_some (cond b (Some (let point : StartPoint = record first { rewritten = true } in point)) (point_at (map (point_rewritten step) rest) at)) ≡ is_some (cond b (Some first) (point_at rest at))
        here true = refl
        here false = same
    by false same = here (first.step == at)
      where
        here : (b : Bool) → is_some (cond b (Some first) (point_at (map (point_rewritten step) rest) at)) ≡ is_some (cond b (Some first) (point_at rest at))
        here true = refl
        here false = same

-- a run that may start a step isn't within one
pub not-within : (step : ℕ) (place : Place) → may_start step place ≡ true → is_within place ≡ false
not-within step (Before number) may = refl
not-within step (Opened number) may = refl
not-within step (Within number writes) may = absurd (false≢true may)

-- it starts the step that it is before
pub start-step : (step : ℕ) (place : Place) → may_start step place ≡ true → step_in place ≡ step
start-step step (Before number) may = equal-true number step may
start-step step (Opened number) may = equal-true number step may
start-step step (Within number writes) may = absurd (false≢true may)

-- a run that waits continues no other one, and is at no step
pub early-queued : (row : RunRow) → is_in_state Queued row ≡ true → IsPlacedRow row → row.earlier_step ≡ 0
early-queued row waits is = equal-true row.earlier_step 0 (and-first _ (is_none row.place) (if-then (is_in_state Queued row) (row.earlier_step == 0 && is_none row.place) is.early waits))

pub unplaced-queued : (row : RunRow) → is_in_state Queued row ≡ true → IsPlacedRow row → row.place ≡ None
unplaced-queued row waits is = is_none-true row.place (and-second (row.earlier_step == 0) _ (if-then (is_in_state Queued row) (row.earlier_step == 0 && is_none row.place) is.early waits))

-- so one that is within a step doesn't wait
within-waits : (row : RunRow) → is_within (place_of row) ≡ true → IsPlacedRow row → is_in_state Queued row ≡ false
within-waits row within is =
    bool-cases (is_in_state Queued row)
    (λ waits. absurd (false≢true (sym (ap (λ (place : Option Place). is_within (option_map_or (λ place. place) place (Before 1))) (unplaced-queued row waits is)) ∙ within)))
    (λ other. other)

early-by : (row : RunRow) (early : Bool) → is_in_state Queued row ≡ false → (not (is_in_state Queued row) || early) ≡ true
early-by row early other = ap (λ b. not b || early) other

-- a run that is running, or was released, is within its step, and holds its names
pub released-within : (row : RunRow) → is_in_state ReleasedRun row ≡ true → IsPlacedRow row → is_within (place_of row) ≡ true
released-within row released is = sym (ap (λ (state : RunState). not (is_off state) || is_within (place_of row)) (released-is row.state released)) ∙ is.off

pub running-in_step : (row : RunRow) → is_running row ≡ true → is_in_step row ≡ true
running-in_step row runs = and_from (is_holder row.state) (is_within (place_of row)) (on-holds row.state (and-first (is_in_state On row) (is_within (place_of row)) runs)) (and-second (is_in_state On row) (is_within (place_of row)) runs)

pub released-in_step : (row : RunRow) → is_in_state ReleasedRun row ≡ true → IsPlacedRow row → is_in_step row ≡ true
released-in_step row released is = and_from (is_holder row.state) (is_within (place_of row)) (ap is_holder (released-is row.state released)) (released-within row released is)

pub hand-in_step : (row : RunRow) → (is_running row || is_in_state ReleasedRun row) ≡ true → IsPlacedRow row → is_in_step row ≡ true
hand-in_step row hand is = or-cases (is_running row) (is_in_state ReleasedRun row) hand (running-in_step row) (λ released. released-in_step row released is)

pub in_step-holds : (row : RunRow) → is_in_step row ≡ true → is_holder row.state ≡ true
in_step-holds row inside = and-first (is_holder row.state) (is_within (place_of row)) inside

pub in_step-within : (row : RunRow) → is_in_step row ≡ true → is_within (place_of row) ≡ true
in_step-within row inside = and-second (is_holder row.state) (is_within (place_of row)) inside

pub running_within : (row : RunRow) → is_running row ≡ true → is_within (place_of row) ≡ true
running_within row runs = and-second (is_in_state On row) (is_within (place_of row)) runs

-- a run that ends has its place still
placed_over : (row : RunRow) (tables : TablesModel) → IsAnyPlaceOf row.job row.place → nat_le row.earlier_step (step_in (place_of row)) ≡ true → is_begun row ≡ true → ArePlaced tables → ArePlaced (after_passed_ended row tables)
placed_over row tables place from begun placed = placed_put tables.runs row.number _ (record { place = place; from = from; early = refl; begun = begun; idle = refl; lodged = refl; seated = refl; code = refl; coded = tt; off = refl }) placed

placed_end_within : (row : RunRow) (owned : OwnedStep) (step : ℕ) (tables : TablesModel) → IsPlacedRow row → ArePlaced tables → ArePlaced (after_end_within row owned step tables)
placed_end_within row owned step tables is placed =
    let done = after_dispositions row owned step true tables in
    placed_over (record row { passed = done.passed }) (record tables { sets = done.sets }) is.place is.from is.begun placed

-- a row that goes on within its step, as one of a run that counts its entries, with these points, and this checkpoint in effect
placed_going : (row : RunRow) (owned : OwnedStep) (count writes : ℕ) (points : List StartPoint) (effect : Option EffectPoint) → own_step row ≡ Some owned → is_within (place_of row) ≡ true → is_some (point_at points (step_in (place_of row))) ≡ true → (is_holder row.state && true || is_none effect) ≡ true → IsPlacedRow row
    → IsPlacedRow (record row { count = count; points = points; in_effect = effect; place = Some (Within (step_in (place_of row)) writes) })
placed_going row owned count writes points effect found within begun idle is = record {
  place = is_some-from (own_step row) owned found;
  from = is.from;
  early = early-by row _ (within-waits row within is);
  begun = begun;
  idle = idle;
  lodged = is.lodged;
  seated = is.seated;
  code = is.code;
  coded = is.coded;
  off = or_right (not (is_off row.state)) true refl;
}

placed_within : (row : RunRow) (owned : OwnedStep) (writes : ℕ) → own_step row ≡ Some owned → is_within (place_of row) ≡ true → IsPlacedRow row → IsPlacedRow (record row { place = Some (Within (step_in (place_of row)) writes) })
placed_within row owned writes found within is =
    placed_going row owned row.count writes row.points row.in_effect found within (begun-within row within is) (ap (λ b. is_holder row.state && b || is_none row.in_effect) (sym within) ∙ is.idle) is

placed_commit : (row : RunRow) (owned : OwnedStep) (writes : ℕ) (lengths : List ℕ) (tables : TablesModel) → step_of_run row (step_in (place_of row)) ≡ Some owned → is_within (place_of row) ≡ true → IsPlacedRow row → ArePlaced tables
    → ArePlaced (after_commit row owned (step_in (place_of row)) writes lengths tables)
placed_commit row owned writes lengths tables there within is placed = placed_put tables.runs row.number _ (placed_within row owned writes there within is) placed

-- one that is held is within it too, and has its code
placed_held : (row : RunRow) (owned : OwnedStep) (code : Code) (writes : ℕ) (lengths : List ℕ) (tables : TablesModel) → IsCode code → step_of_run row (step_in (place_of row)) ≡ Some owned → is_within (place_of row) ≡ true → IsPlacedRow row → ArePlaced tables
    → ArePlaced (after_held row owned (step_in (place_of row)) code writes lengths tables)
placed_held row owned code writes lengths tables spelled there within is placed =
    placed_put tables.runs row.number _ (record {
      place = is_some-from (step_of_run row (step_in (place_of row))) owned there;
      from = is.from;
      early = refl;
      begun = begun-within row within is;
      idle = refl;
      lodged = refl;
      seated = refl;
      code = refl;
      coded = spelled;
      off = refl;
    }) placed

-- a released run is as it was held
placed_released : (row : RunRow) → is_in_state HeldRun row ≡ true → IsPlacedRow row → IsPlacedRow (record row { state = ReleasedRun })
placed_released row held is =
    let state = held-is row.state held in
    record {
      place = is.place;
      from = is.from;
      early = refl;
      begun = is.begun;
      idle = sym (ap (λ (state : RunState). is_holder state && is_within (place_of row) || is_none row.in_effect) state) ∙ is.idle;
      lodged = sym (ap (λ (state : RunState). is_none row.initiator || is_on_one state) state) ∙ is.lodged;
      seated = refl;
      code = sym (ap (λ (state : RunState). if is_off state then is_some row.code else is_none row.code) state) ∙ is.code;
      coded = is.coded;
      off = sym (ap (λ (state : RunState). not (is_off state) || is_within (place_of row)) state) ∙ is.off;
    }

-- no checkpoint is in effect of a run that waits, and of one that isn't within a step
pub idle_queued : (row : RunRow) → is_in_state Queued row ≡ true → IsPlacedRow row → is_none row.in_effect ≡ true
idle_queued row waits is =
    sym (ap (λ (state : RunState). is_holder state && is_within (place_of row) || is_none row.in_effect) (queued-is row.state waits)) ∙ is.idle

-- a run that waits has no code
code_queued : (row : RunRow) → is_in_state Queued row ≡ true → IsPlacedRow row → is_none row.code ≡ true
code_queued row waits is = sym (ap (λ (state : RunState). if is_off state then is_some row.code else is_none row.code) (queued-is row.state waits)) ∙ is.code

pub idle-between : (row : RunRow) → is_within (place_of row) ≡ false → IsPlacedRow row → is_none row.in_effect ≡ true
idle-between row between is = by (is_holder row.state) (is_none row.in_effect) (sym (ap (λ b. is_holder row.state && b || is_none row.in_effect) between) ∙ is.idle)
  where
    by : (a n : Bool) → (a && false || n) ≡ true → n ≡ true
    by true n e = e
    by false n e = e

-- a run that continues another one has the point of the start of the step
continued_begun : (step : ℕ) (points : List StartPoint) (point : StartPoint) (job : Effective) (sets : Named TableSet) → point_at points step ≡ Some point → is_some (point_at (carried_point job sets point ∷ []) step) ≡ true
continued_begun step points point job sets at =
    ap (λ b. is_some (cond b (Some (carried_point job sets point)) None)) (find-passes (λ (point : StartPoint). point.step == step) points point at)

-- a run that continues another one is before the step at which it does, or within it at a checkpoint
placed_continued : (layout : Layout) (tables : TablesModel) (job initiator before step : ℕ) (id : Option (List ℕ)) (deck : Option Job) → follows layout tables (Selected job initiator (suc before) step id) deck ≡ true → ArePlaced tables
    → ArePlaced (after_event (Selected job initiator (suc before) step id) deck tables)
placed_continued layout tables job initiator before step id deck follow placed =
    by-continuation layout tables job initiator before step deck ArePlaced id follow
    (λ its.
    placed_put tables.runs its.row.number _ (record {
      place = tt;
      from = nat_le-from step step (omega arith);
      early = refl;
      begun = refl;
      idle = idle_queued its.row its.queued (row-among IsPlacedRow tables job its.row placed its.row_at);
      lodged = refl;
      seated = refl;
      code = refl;
      coded = tt;
      off = refl;
    }) placed)
    (λ id its entry.
    placed_put tables.runs its.row.number _ (record {
      place = is_some-from (step_at (spliced its.other.job step its.row.number its.row.deck) step) its.owned (spliced-here its.other.job step its.row.number its.row.deck its.owned its.found);
      from = nat_le-from step step (omega arith);
      early = refl;
      begun = continued_begun step its.other.points its.point (spliced its.other.job step its.row.number its.row.deck) tables.sets its.at_point;
      idle = refl;
      lodged = refl;
      seated = refl;
      code = refl;
      coded = tt;
      off = refl;
    }) placed)

placed_submitted : (tables : TablesModel) (job : ℕ) (cards : List ℕ) (deck : Option Job) → ArePlaced tables → ArePlaced (after_event (Submitted job cards) deck tables)
placed_submitted tables job cards None placed = placed
placed_submitted tables job cards (Some deck) placed = each-append IsPlacedRow tables.runs (queued_run job deck ∷ []) placed (record { place = tt; from = refl; early = refl; begun = refl; idle = refl; lodged = refl; seated = refl; code = refl; coded = tt; off = refl }, tt)

-- a run that holds nothing is on no initiator, and isn't off one
free-one : (state : RunState) → is_holder state ≡ false → is_on_one state ≡ false
free-one On free = absurd (false≢true (sym free))
free-one _ free = refl

free-off : (state : RunState) → is_holder state ≡ false → is_off state ≡ false
free-off HeldRun free = absurd (false≢true (sym free))
free-off ReleasedRun free = absurd (false≢true (sym free))
free-off _ free = refl

-- a run that waits is on no initiator, also where it leaves the queue
placed_gone : (row : RunRow) (state : RunState) → is_in_state Queued row ≡ true → is_holder state ≡ false → is_in_state Queued (record row { state = state }) ≡ false → IsPlacedRow row → IsPlacedRow (record row { state = state })
placed_gone row state waits free over is = record {
  place = is.place;
  from = is.from;
  early = early-by (record row { state = state }) _ over;
  begun = is.begun;
  idle = or_right (is_in_step (record row { state = state })) (is_none row.in_effect) (idle_queued row waits is);
  lodged = ap (λ b. is_none row.initiator || b) (free-one state free) ∙ sym (ap (λ (state : RunState). is_none row.initiator || is_on_one state) (queued-is row.state waits)) ∙ is.lodged;
  seated = ap (λ b. not b || is_some row.initiator) (free-one state free);
  code = ap (λ b. if b then is_some row.code else is_none row.code) (free-off state free) ∙ code_queued row waits is;
  coded = is.coded;
  off = ap (λ b. not b || is_within (place_of row)) (free-off state free);
}

-- the code of an event that holds its run has a spelling
spelled : (event : Event) (deck : Option Job) → IsAnyAccepted event deck → (code : Code) → HoldsWith event code → IsCode code
spelled (Held job code writes lengths) deck accepted held is = subst IsCode (sym is) accepted
spelled _ deck accepted held is = absurd is

module _ (layout : Layout) (tables : TablesModel) (event : Event) (deck : Option Job) (accepted : IsAnyAccepted event deck) (placed : ArePlaced tables) where
  abbrev job : ℕ
  job = job_of event

  its : (row : RunRow) → run_of tables job ≡ Some row → IsPlacedRow row
  its row at = row-among IsPlacedRow tables job row placed at

  inside : (row : RunRow) → run_of tables job ≡ Some row → IsHand row → is_in_step row ≡ true
  inside row at hand = hand-in_step row hand (its row at)

  placed_selected : (initiator : ℕ) (row : RunRow) → IsSelected tables job row → ArePlaced (after_selected row initiator tables)
  placed_selected initiator row chosen =
      let is = its row chosen.row_at in
      placed_put tables.runs row.number _ (record { place = tt; from = ap (λ n. nat_le n 1) (early-queued row chosen.queued is); early = refl; begun = refl; idle = idle_queued row chosen.queued is; lodged = refl; seated = refl; code = code_queued row chosen.queued is; coded = is.coded; off = refl }) placed

  placed_started : (step : ℕ) (items : List Made) (row : RunRow) (owned : OwnedStep) → IsStarting layout tables job step items row owned → ArePlaced (after_started row owned step items tables)
  placed_started step items row owned starts =
      let is = its row starts.row_at in
      placed_put tables.runs row.number _ (record {
        place = is_some-from (step_of_run row step) owned starts.found;
        from = subst (λ n. nat_le row.earlier_step n ≡ true) (start-step step (place_of row) starts.ahead) is.from;
        early = early-by row _ (ap (λ state. state_number state == 1) (on-is row.state starts.on));
        idle = or_right (is_holder row.state && true) (is_none row.in_effect) (idle-between row (not-within step (place_of row) starts.ahead) is);
        begun = ap is_some (point_at-new (start_point row step (opened_all table_ways (stamp_of owned step) (placed_in table_ways (standing_of row tables) row.job.root owned) tables.sets)) row.points);
        lodged = is.lodged;
        seated = is.seated;
        code = is.code;
        coded = is.coded;
        off = or_right (not (is_off row.state)) true refl;
      }) placed

  placed_rewritten : (writes : ℕ) (lengths : List ℕ) (row : RunRow) (owned : OwnedStep) → run_of tables job ≡ Some row → own_step row ≡ Some owned → is_running row ≡ true → ArePlaced (after_rewritten row owned (step_in (place_of row)) writes lengths tables)
  placed_rewritten writes lengths row owned at found runs =
      let is = its row at in
      let within = running_within row runs in
      placed_put tables.runs row.number _
      (placed_going row owned row.count writes (map (point_rewritten (step_in (place_of row))) row.points) (option_map effect_rewritten row.in_effect) found within
      (rewritten_point (step_in (place_of row)) (step_in (place_of row)) row.points ∙ begun-within row within is)
      (ap (λ b. b && true || is_none (option_map effect_rewritten row.in_effect)) (on-holds row.state (and-first (is_in_state On row) _ runs))) is) placed

  placed_checkpointed : (kept : Kept) (taken writes : ℕ) (lengths : List ℕ) (row : RunRow) (owned : OwnedStep) → run_of tables job ≡ Some row → own_step row ≡ Some owned → is_running row ≡ true → ArePlaced (after_checkpointed row owned (step_in (place_of row)) kept taken writes lengths tables)
  placed_checkpointed kept taken writes lengths row owned at found runs =
      let is = its row at in
      let within = running_within row runs in
      placed_put tables.runs row.number _
      (placed_going row owned (suc row.count) writes row.points (Some (fresh_effect (name_with_role row.job.root owned is_checkpoints) kept)) found within (begun-within row within is)
      (ap (λ b. b && true || false) (on-holds row.state (and-first (is_in_state On row) _ runs))) is) placed

  placed_step_done : (rc writes : ℕ) (lengths : List ℕ) (row : RunRow) (owned : OwnedStep) → run_of tables job ≡ Some row → own_step row ≡ Some owned → is_running row ≡ true → ArePlaced (after_step_ended row owned (step_in (place_of row)) rc writes lengths tables)
  placed_step_done rc writes lengths row owned at found runs =
      let is = its row at in
      placed_put (after_commit row owned (step_in (place_of row)) writes lengths tables).runs row.number _ (record {
        place = tt;
        from = nat_le-from row.earlier_step (suc (step_in (place_of row))) (let past = nat_le-true row.earlier_step (step_in (place_of row)) is.from in omega (arith, past));
        early = early-by row _ (within-waits row (running_within row runs) is);
        begun = refl;
        idle = or_right (is_holder row.state && false) true refl;
        lodged = is.lodged;
        seated = is.seated;
        code = is.code;
        coded = is.coded;
        off = ap (λ (state : RunState). not (is_off state) || false) (on-is row.state (and-first (is_in_state On row) (is_within (place_of row)) runs));
      })
      (placed_commit row owned writes lengths tables found (running_within row runs) is placed)

  placed-cases : RunCases layout tables event ArePlaced
  placed-cases = record {
    selected = placed_selected;
    gone = λ row state at queued free over. placed_put tables.runs row.number _ (placed_gone row state queued free over (its row at)) placed;
    started = placed_started;
    rewritten = λ writes place lengths image row owned does. placed_rewritten writes lengths row owned does.at.row_at does.at.found does.runs;
    checkpointed = λ taken writes place bytes id lengths row owned does. placed_checkpointed _ taken writes lengths row owned does.at.row_at does.at.found does.runs;
    withdrawn = λ row at runs.
        let is = its row at in
        placed_put tables.runs row.number _ (record { place = is.place; from = is.from; early = is.early; begun = is.begun; idle = or_right (is_in_step row) true refl; lodged = is.lodged; seated = is.seated; code = is.code; coded = is.coded; off = is.off }) placed;
    step_done = λ rc writes lengths row owned does. placed_step_done rc writes lengths row owned does.at.row_at does.at.found does.runs;
    held = λ code writes lengths row owned with_code does.
        placed_held row owned code writes lengths tables (spelled event deck accepted code with_code) does.at.found (in_step-within row (inside row does.at.row_at does.hand)) (its row does.at.row_at) placed;
    released = λ row at held. placed_put tables.runs row.number _ (placed_released row held (its row at)) placed;
    -- a run that goes back to the start of its step is on its initiator, and isn't within the step; one that goes back to its checkpoint is within it
    restarted = λ initiator row owned point at hand found began.
        placed_put tables.runs row.number _ (record { place = tt; from = (its row at).from; early = refl; begun = refl; idle = refl; lodged = refl; seated = refl; code = refl; coded = tt; off = refl }) placed;
    goes_back = λ initiator row owned effect entry at hand found now kept.
        let is = its row at in
        placed_put tables.runs row.number _ (record {
          place = is_some-from (own_step row) owned found;
          from = is.from;
          early = refl;
          begun = begun-within row (in_step-within row (inside row at hand)) is;
          idle = refl;
          lodged = refl;
          seated = refl;
          code = refl;
          coded = tt;
          off = refl;
        }) placed;
    unmoved = λ row at hand. placed;
    ended = λ row does. let is = its row does.row_at in placed_over row tables is.place is.from is.begun placed;
    coded = λ writes lengths row owned does.
        let within = in_step-within row (inside row does.at.row_at does.hand) in
        placed_end_within (record row { place = Some (Within (step_in (place_of row)) writes) }) owned (step_in (place_of row)) (after_commit row owned (step_in (place_of row)) writes lengths tables)
        (placed_within row owned writes does.at.found within (its row does.at.row_at)) (placed_commit row owned writes lengths tables does.at.found within (its row does.at.row_at) placed);
    refused = λ row owned does. placed_end_within row owned (step_in (place_of row)) tables (its row does.row_at) placed;
  }

-- An event that follows leaves a run within no step that it hasn't, that it doesn't execute itself or that has no point; a run is on an initiator exactly where
-- it has one, and has a code exactly while it is off its initiator within a step.
pub placed-behind : (layout : Layout) (tables : TablesModel) (event : Event) (deck : Option Job) → IsAnyAccepted event deck → follows layout tables event deck ≡ true → AllByRecursion IsPlacedRow tables.runs → AllByRecursion IsPlacedRow (after_event event deck tables).runs
placed-behind layout tables (Submitted job cards) deck accepted follow placed = placed_submitted tables job cards deck placed
placed-behind layout tables (Selected job initiator (suc before) step id) deck accepted follow placed = placed_continued layout tables job initiator before step id deck follow placed
placed-behind layout tables event deck accepted follow placed = by-run-cases ArePlaced layout tables event deck refl refl follow (placed-cases layout tables event deck accepted placed)

-- ---- the running steps

-- those of other runs, as they are seen
pub seen-without : (run : ℕ) (items : List RunningStep) → map step_seen (filter (λ (on : RunningStep). not (on.run == run)) items) ≡ without_run run (map step_seen items)
seen-without run [] = refl
seen-without run (first ∷ rest) = by (not (first.run == run)) (filter (λ (on : RunningStep). not (on.run == run)) rest) (seen-without run rest)
  where
    by : (b : Bool) (others : List RunningStep) → map step_seen others ≡ without_run run (map step_seen rest)
        → map step_seen (cond b (first ∷ others) others) ≡ cond b (step_seen first ∷ without_run run (map step_seen rest)) (without_run run (map step_seen rest))
    by true others same = ap (λ (steps : List RunningStepView). step_seen first ∷ steps) same
    by false others same = same

pub all-filtered : (P : RunningStepView → Type 0) (test : RunningStepView → Bool) (running : List RunningStepView) → AllByRecursion P running → AllByRecursion P (filter test running)
all-filtered P test [] all = tt
all-filtered P test (first ∷ rest) all = by (test first) (filter test rest) all.0 (all-filtered P test rest all.1)
  where
    by : (b : Bool) (others : List RunningStepView) → P first → AllByRecursion P others → AllByRecursion P (cond b (first ∷ others) others)
    by true others one all = (one, all)
    by false others one all = all
