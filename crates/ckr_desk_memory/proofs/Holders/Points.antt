-- The points of the checkpoints in effect stay known, by each event that follows.
use Rattle.std.proofs.Common.{◌≡◌, ◌==◌, ◌+◌, ℕ, zero, suc, true, false, cond, List, find, refl, ap, sym, ◌∙◌, subst, Option, None, Some}
use Rattle.std.specs.Prelude.{IsSome}
use Rattle.std.specs.List.{AllByRecursion}
use Rattle.std.specs.Option.{is_none, is_some, option_map}
use Rattle.std.proofs.lemmas.Bool.{and_from, false≢true}
use Rattle.std.proofs.lemmas.Option.{same_Some}
use Rattle.arrayvec.specs.ArrayVec.{ArrayVec}
use Rattle.ckr_points_invariant.specs.EarlierRuns.{MayContinue}
use Rattle.ckr_base.proofs.Bools.{and-first}
use Rattle.ckr_base.proofs.Numbers.{equal-itself, equal-true, number-cases}
use Rattle.ckr_base.proofs.Options.{option_map_or-true, some-one}
use Rattle.ckr_base.proofs.Sequences.{find-holds, find-passes}
use Rattle.ckr_base.specs.declared.code.Code.{Code}
use Rattle.ckr_events.specs.Jobs.{job_of}
use Rattle.ckr_events.specs.declared.event.Event.{Event}
use Rattle.ckr_events.specs.declared.event.Event.TheVariants.{Cancelled, Checkpointed, Denied, Ended, Held, Purged, Released as ReleasedEvent, Restarted, Rewritten, Selected, Started, StepEnded, Submitted}
use Rattle.ckr_events.specs.declared.event.Made.{Made}
use Rattle.ckr_jcl.specs.declared.deck.Job.{Job}
use Rattle.ckr_library.specs.Catalog.{records_of}
use Rattle.ckr_library.specs.NameMaps.{Name}
use Rattle.ckr_meaning.specs.EffectiveJob.{OwnedStep}
use Rattle.ckr_meaning.specs.declared.place.Place.TheVariants.{Within}
use Rattle.ckr_points.specs.declared.run.RunState.TheVariants.{Held as HeldRun, Released, Denied as DeniedRun, Purged as PurgedRun}
use Rattle.ckr_points.specs.Follows.{follows, is_in_state, is_running, is_within, may_start, own_step}
use Rattle.ckr_points.specs.Marks.{point_at, with_point as with_start_point}
use Rattle.ckr_points.specs.Office.{is_holder}
use Rattle.ckr_points.specs.Restart.{after_event, after_passed_ended, after_put_back, after_restarted, after_start_continued, back_to_start, by_step, continued_row, place_of, point_restarted, row_on, step_in}
use Rattle.ckr_points.specs.Rows.{EffectPoint, RunRow, StartPoint, TablesModel, run_of, with_run}
use Rattle.ckr_points.specs.Tables.{after_cancelled, after_commit, after_dispositions, after_held, after_rewritten, after_selected, after_started, after_step_ended, after_submitted, effect_rewritten, row_rewritten}
use Rattle.ckr_desk_memory.proofs.Continuations.{by-start}
use Rattle.ckr_points_tables.specs.Invariant.{is_submission}
use Rattle.ckr_volumes.specs.declared.layout.Layout.{Layout}
use Rattle.ckr_desk_turn.specs.Queue.{AreNumbered}
use Rattle.ckr_desk_turn.proofs.Queue.Events.{run_number}
use Rattle.ckr_desk_memory.specs.EventChanges.{FirstEnters, HasEntered, check_name_in, is_of_run, is_point_of, point_of, points_behind, with_point, without_first}
use Rattle.ckr_desk_memory.specs.Invariant.{IsAcceptedRow, IsPlacedRow, is_in_step}
use Rattle.ckr_desk_memory.specs.OwnSets.{CommitsItsOwn, IsRunningOf}
use Rattle.ckr_desk_memory.specs.OwnSteps.{HasPoint, HavePoints, KnowsItsPoint}
use Rattle.ckr_desk_memory.specs.RunningSteps.{GoesOn}
use Rattle.ckr_desk_memory.specs.View.{PointView, RunningStepView}
use Rattle.ckr_desk_memory.proofs.Holders.Events.{others-stay}
use Rattle.ckr_desk_memory.proofs.Holders.RowTests.{by-some}
use Rattle.ckr_desk_memory.proofs.Holders.Submissions.{row-before}
use Rattle.ckr_desk_memory.proofs.Holders.Moves.{HasRow, by-own, row-as_is, row-next}
use Rattle.ckr_desk_memory.proofs.Invariant.{hand-in_step, idle-between, in_step-within, not-within, running-in_step}
use Rattle.ckr_desk_memory.proofs.Queue.{held-is}
use Rattle.ckr_desk_memory.proofs.Points.{other-point, own-with}
use Rattle.ckr_desk_memory.proofs.RunningSteps.Again.{is-back, step-of-within}
use Rattle.ckr_desk_memory.proofs.RunningSteps.TakenSteps.{is-taken}
use Rattle.ckr_desk_memory.proofs.Starts.Steps.{row-among}
use Rattle.ckr_desk_memory.proofs.EventRows.{IsRestarting, after_end_with, after_end_within, by-cancelled, by-denied, by-ended, by-held, by-purged, by-released, by-restarted, by-rewritten, by-selected, by-started, by-step_ended}
use Rattle.ckr_points.specs.declared.run.RunState.{RunState}

-- ---- a run that has no checkpoint in effect, or isn't running

abbrev IsGone : RunRow → Type 0
IsGone row = is_in_step row ≡ true → is_some row.in_effect ≡ true → ⊥

abbrev Gone : ℕ → TablesModel → Type 0
Gone job after = (next : RunRow) → run_of after job ≡ Some next → IsGone next

gone-row : (after : TablesModel) (job : ℕ) (row : RunRow) → run_of after job ≡ Some row → IsGone row → Gone job after
gone-row after job row now gone next at = subst IsGone (some-one row next (run_of after job) now at) gone

not-both : (effect : Option EffectPoint) → is_none effect ≡ true → is_some effect ≡ true → ⊥
not-both None none some = false≢true some
not-both (Some effect) none some = false≢true none

-- what a run that has ended leaves
module _ (tables : TablesModel) (job : ℕ) where
  gone-ended : (mid : TablesModel) (was row : RunRow) → HasRow tables mid job was → row.number ≡ job → Gone job (after_passed_ended row mid)
  gone-ended mid was row has same =
      gone-row (after_passed_ended row mid) job _ (row-next tables mid job was _ (after_passed_ended row mid).sets has same).now (λ runs effect. false≢true runs)

  gone-end_within : (mid : TablesModel) (was row : RunRow) (owned : OwnedStep) (step : ℕ) → HasRow tables mid job was → row.number ≡ job → Gone job (after_end_within row owned step mid)
  gone-end_within mid was row owned step has same =
      gone-row (after_end_within row owned step mid) job _ (row-next tables mid job was _ (after_end_within row owned step mid).sets has same).now (λ runs effect. false≢true runs)

-- of a run whose checkpoint is in effect the point is among these
abbrev StillKnown : ℕ → List PointView → TablesModel → Type 0
StillKnown job behind after = (next : RunRow) (owned : OwnedStep) → run_of after job ≡ Some next → is_in_step next ≡ true → is_some next.in_effect ≡ true → own_step next ≡ Some owned → HasPoint behind job owned

-- ---- each event

module _ (layout : Layout) (tables : TablesModel) (rows : AllByRecursion IsAcceptedRow tables.runs) (numbered : AreNumbered 1 tables.runs) (placed : AllByRecursion IsPlacedRow tables.runs) (points : List PointView) (known : HavePoints tables points) where
  module _ (job : ℕ) (row : RunRow) (at : run_of tables job ≡ Some row) where
    mine : row.number ≡ job
    mine = run_number tables job row numbered at

    as_is : HasRow tables tables job row
    as_is = row-as_is tables job row at

    its_placed : IsPlacedRow row
    its_placed = row-among IsPlacedRow tables job row placed at

    -- a run that waits comes to an initiator, or leaves the queue
    gone-selected : (initiator : ℕ) → Gone job (after_selected row initiator tables)
    gone-selected initiator = gone-row (after_selected row initiator tables) job _ (row-next tables tables job row _ tables.sets as_is mine).now (λ runs effect. false≢true runs)

    gone-out : (state : RunState) → is_holder state ≡ false → Gone job (with_run (record row { state = state }) tables)
    gone-out state free =
        gone-row (with_run (record row { state = state }) tables) job _ (row-next tables tables job row _ tables.sets as_is mine).now
        (λ runs effect. false≢true (sym free ∙ and-first (is_holder state) (is_within (place_of row)) runs))

    gone-started : (step : ℕ) (items : List Made) (owned : OwnedStep) → may_start step (place_of row) ≡ true → Gone job (after_started row owned step items tables)
    gone-started step items owned ahead =
        gone-row (after_started row owned step items tables) job _ (row-next tables tables job row _ (after_started row owned step items tables).sets as_is mine).now
        (λ runs effect. not-both row.in_effect (idle-between row (not-within step (place_of row) ahead) its_placed) effect)

    gone-withdrawn : Gone job (after_cancelled row tables)
    gone-withdrawn = gone-row (after_cancelled row tables) job _ (row-next tables tables job row _ tables.sets as_is mine).now (λ runs effect. false≢true effect)

    gone-step : (rc writes : ℕ) (lengths : List ℕ) (owned : OwnedStep) → Gone job (after_step_ended row owned (step_in (place_of row)) rc writes lengths tables)
    gone-step rc writes lengths owned =
        let step = step_in (place_of row) in
        let mid = after_commit row owned step writes lengths tables in
        gone-row (after_step_ended row owned step rc writes lengths tables) job _
        (row-next tables mid job _ _ (after_dispositions row owned step false mid).sets (row-next tables tables job row _ mid.sets as_is mine) mine).now (λ runs effect. false≢true effect)

    -- a restart at the start of the step leaves the checkpoint
    gone-restarted : (initiator : ℕ) → IsRestarting tables job row false → Gone job (by_step (λ owned step. after_restarted row owned step initiator false tables) row tables)
    gone-restarted initiator again =
        let its = step-of-within row its_placed (in_step-within row (hand-in_step row again.hand its_placed)) in
        let step = step_in (place_of row) in
        option_map_or-true (point_at row.points step) _ again.again
        (λ point began few.
        let back : StartPoint → TablesModel =
        λ point. after_put_back (record (row_on initiator row) { points = with_start_point (point_restarted point) row.points; in_effect = None }) its.0 (back_to_start row its.0 step point) tables in
        by-own (Gone job) tables (λ owned step. after_restarted row owned step initiator false tables) row its.0 its.1
        (by-some (Gone job) (point_at row.points step) back tables point began
        (gone-row (back point) job _ (row-next tables tables job row _ (back point).sets as_is mine).now (λ runs effect. false≢true effect))))

    gone-coded : (writes : ℕ) (lengths : List ℕ) (owned : OwnedStep) → Gone job (after_end_with row owned writes lengths tables)
    gone-coded writes lengths owned =
        let step = step_in (place_of row) in
        let mid = after_commit row owned step writes lengths tables in
        gone-end_within tables job mid _ (record row { place = Some (Within step writes) }) owned step (row-next tables tables job row _ mid.sets as_is mine) mine

    -- a rewrite leaves it in effect
    known-rewritten : (writes : ℕ) (lengths : List ℕ) (owned : OwnedStep) → is_running row ≡ true → StillKnown job points (after_rewritten row owned (step_in (place_of row)) writes lengths tables)
    known-rewritten writes lengths owned runs next other now runs_on effect there =
        let step = step_in (place_of row) in
        let next_row : RunRow = record (row_rewritten step row) { place = Some (Within step writes) } in
        let same = some-one next_row next (run_of (after_rewritten row owned step writes lengths tables) job) (row-next tables tables job row next_row (after_rewritten row owned step writes lengths tables).sets as_is mine).now now in
        known job row other at (running-in_step row runs) (still row.in_effect ∙ ap (λ (r : RunRow). is_some r.in_effect) same ∙ effect) (ap own_step same ∙ there)
      where
        still : (effect : Option EffectPoint) → is_some effect ≡ is_some (option_map effect_rewritten effect)
        still None = refl
        still (Some effect) = refl

    -- so does a hold, and the release of a held run
    known-held : (code : Code) (writes : ℕ) (lengths : List ℕ) (owned : OwnedStep) → is_in_step row ≡ true → StillKnown job points (after_held row owned (step_in (place_of row)) code writes lengths tables)
    known-held code writes lengths owned inside next other now on effect there =
        let step = step_in (place_of row) in
        let next_row : RunRow = record row { state = HeldRun; initiator = None; code = Some code; place = Some (Within step writes) } in
        let same = some-one next_row next (run_of (after_held row owned step code writes lengths tables) job) (row-next tables tables job row next_row (after_held row owned step code writes lengths tables).sets as_is mine).now now in
        known job row other at inside (ap (λ (r : RunRow). is_some r.in_effect) same ∙ effect) (ap own_step same ∙ there)

    known-released : is_in_state HeldRun row ≡ true → StillKnown job points (with_run (record row { state = Released }) tables)
    known-released held next other now on effect there =
        let next_row : RunRow = record row { state = Released } in
        let same = some-one next_row next (run_of (with_run next_row tables) job) (row-next tables tables job row next_row tables.sets as_is mine).now now in
        known job row other at (and_from (is_holder row.state) (is_within (place_of row)) (ap is_holder (held-is row.state held)) (in_step-within next_row (ap is_in_step same ∙ on)))
        (ap (λ (r : RunRow). is_some r.in_effect) same ∙ effect) (ap own_step same ∙ there)

  -- a run that continues another one at the start of a step isn't within it
  gone-continued : (job initiator before step : ℕ) (its : MayContinue layout tables job initiator (suc before) step None)
      → Gone job (after_start_continued (continued_row its.row its.other step its.point initiator tables.sets) its.owned step its.point tables)
  gone-continued job initiator before step its =
      let after : TablesModel = after_start_continued (continued_row its.row its.other step its.point initiator tables.sets) its.owned step its.point tables in
      gone-row after job _ (row-next tables tables job its.row _ after.sets (row-as_is tables job its.row its.row_at) (run_number tables job its.row numbered its.row_at)).now (λ runs effect. false≢true runs)

  -- ---- by its own run, and the others

  module _ (event : Event) (deck : Option Job) (new : List RunningStepView) where
    abbrev after : TablesModel
    after = after_event event deck tables

    abbrev behind : List PointView
    behind = points_behind event new points

    -- the points of other runs stay, and that of its own run is known
    with-own : is_submission event ≡ false → follows layout tables event deck ≡ true
        → ((row : RunRow) (owned : OwnedStep) → run_of after (job_of event) ≡ Some row → is_in_step row ≡ true → is_some row.in_effect ≡ true → own_step row ≡ Some owned → HasPoint behind (job_of event) owned)
        → HavePoints after behind
    with-own other follow own number row owned at runs effect found =
        number-cases number (job_of event)
        (λ here.
        let its = own row owned (ap (run_of after) (sym here) ∙ at) runs effect found in
        record { point = its.point; found = ap (λ n. find (is_point_of n) behind) here ∙ its.found; program = its.program })
        (λ apart.
        let its = known number row owned (sym (others-stay layout tables event deck rows numbered placed other follow number apart) ∙ at) runs effect found in
        record { point = its.point; found = other-point event new points number apart ∙ its.found; program = its.program })

    -- none of its own has to be known
    with-gone : is_submission event ≡ false → follows layout tables event deck ≡ true → Gone (job_of event) after → HavePoints after behind
    with-gone other follow gone = with-own other follow (λ row owned at runs effect found. absurd (gone row at runs effect))

  -- ---- a checkpoint

  module _ (job taken writes place bytes : ℕ) (id : Name) (lengths : ArrayVec ℕ) (deck : Option Job) (old new : List RunningStepView) where
    abbrev taken_event : Event
    taken_event = Checkpointed job id taken writes lengths place bytes

    abbrev then : TablesModel
    then = after_event taken_event deck tables

    -- the step of the run is that which entered, and stands at its point
    known-checkpointed : IsSome (find (is_of_run job) old) → HasEntered job (check_name_in then job) (place + records_of bytes) old new → AllByRecursion (IsRunningOf then) new
        → (row : RunRow) (owned : OwnedStep) → run_of then job ≡ Some row → own_step row ≡ Some owned → HasPoint (with_point job new points) job owned
    known-checkpointed there goes all row owned at found = by (find (is_of_run job) old) refl there goes
      where
        by : (first : Option RunningStepView) → find (is_of_run job) old ≡ first → IsSome first → FirstEnters first job (check_name_in then job) (place + records_of bytes) old new → HasPoint (with_point job new points) job owned
        by None is there goes = absurd (false≢true there)
        by (Some on) is there goes =
            let behind : RunningStepView = goes.0 in
            let here : behind.run ≡ job = goes.2.run ∙ equal-true on.run job (find-passes (is_of_run job) old on is) in
            let first : find (is_of_run job) new ≡ Some behind =
            ap (find (is_of_run job)) goes.1 ∙ ap (λ b. cond b (Some behind) (find (is_of_run job) (without_first job old))) (ap (λ n. n == job) here ∙ equal-itself job) in
            let its : IsRunningOf then behind = find-holds (IsRunningOf then) (is_of_run job) new behind all first in
            let same_row : its.row ≡ row = some-one its.row row (run_of then job) (ap (run_of then) (sym here) ∙ its.row_at) at in
            let same : its.owned ≡ owned = same_Some its.owned owned (sym its.found ∙ ap own_step same_row ∙ found) in
            record {
              point = point_of behind;
              found = own-with job new points behind first;
              program = its.program ∙ ap (λ (o : OwnedStep). o.step.program) same;
            }

  -- ---- each event

  abbrev StayKnown : Event → Option Job → List RunningStepView → Type 0
  StayKnown event deck new = HavePoints (after_event event deck tables) (points_behind event new points)

  known-submitted : (job : ℕ) (deck : Job) → HavePoints (after_submitted job deck tables) points
  known-submitted job deck number row owned at runs effect found =
      row-before tables job deck number row at (λ new. absurd (false≢true (ap is_in_step new ∙ runs))) (λ was. known number row owned was runs effect found)

  -- of a run that goes on with an earlier one at a checkpoint the point was known before
  known-taken : (job initiator before step : ℕ) (id : Name) (deck : Option Job) (new : List RunningStepView) → follows layout tables (Selected job initiator (suc before) step (Some id)) deck ≡ true → KnowsItsPoint (Selected job initiator (suc before) step (Some id)) tables points
      → StayKnown (Selected job initiator (suc before) step (Some id)) deck new
  known-taken job initiator before step id deck new follow knows number row owned at runs effect found =
      let after : TablesModel = after_event (Selected job initiator (suc before) step (Some id)) deck tables in
      let over = is-taken layout tables job initiator before step id deck numbered follow in
      number-cases number job
      (λ here.
      let same_row : over.next ≡ row = some-one over.next row (run_of after job) over.next_at (ap (run_of after) (sym here) ∙ at) in
      let same : over.owned ≡ owned = same_Some over.owned owned (sym over.found ∙ ap own_step same_row ∙ found) in
      let its = knows over.row over.owned over.row_at over.was in
      record { point = its.point; found = ap (λ n. find (is_point_of n) points) here ∙ its.found; program = its.program ∙ ap (λ (o : OwnedStep). o.step.program) same })
      (λ apart. known number row owned (sym (over.others number apart) ∙ at) runs effect found)

  stay : (event : Event) (deck : Option Job) (old new : List RunningStepView) → follows layout tables event deck ≡ true → KnowsItsPoint event tables points → CommitsItsOwn event tables old → GoesOn event (after_event event deck tables) points old new
      → AllByRecursion (IsRunningOf (after_event event deck tables)) new → StayKnown event deck new
  stay (Submitted job cards) None old new follow knows commits goes all = known
  stay (Submitted job cards) (Some deck) old new follow knows commits goes all = known-submitted job deck
  stay (Selected job initiator zero step id) deck old new follow knows commits goes all =
      with-gone (Selected job initiator zero step id) deck new refl follow (by-selected (Gone job) layout tables job deck initiator step id follow (λ row its. gone-selected job row its.row_at initiator))
  stay (Selected job initiator (suc before) step None) deck old new follow knows commits goes all =
      with-gone (Selected job initiator (suc before) step None) deck new refl follow
      (by-start layout tables job initiator before step deck (Gone job) follow (gone-continued job initiator before step))
  stay (Selected job initiator (suc before) step (Some id)) deck old new follow knows commits goes all = known-taken job initiator before step id deck new follow knows
  stay (Denied job rule name) deck old new follow knows commits goes all =
      with-gone (Denied job rule name) deck new refl follow (by-denied (Gone job) layout tables job deck rule name follow (λ row at queued. gone-out job row at DeniedRun refl))
  stay (Started job step items) deck old new follow knows commits goes all =
      with-gone (Started job step items) deck new refl follow (by-started (Gone job) layout tables job deck step items follow (λ row owned its. gone-started job row its.row_at step items.items owned its.ahead))
  stay (Rewritten job taken writes lengths place image) deck old new follow knows commits goes all =
      with-own (Rewritten job taken writes lengths place image) deck new refl follow
      (by-rewritten (StillKnown job points) layout tables job deck taken writes place lengths image follow (λ row owned its. known-rewritten job row its.at.row_at writes lengths.items owned its.runs))
  stay (Checkpointed job id taken writes lengths place bytes) deck old new follow knows commits goes all =
      with-own (Checkpointed job id taken writes lengths place bytes) deck new refl follow
      (λ row owned at runs effect found. known-checkpointed job taken writes place bytes id lengths deck old new commits.2 goes all row owned at found)
  stay (Cancelled job) deck old new follow knows commits goes all =
      with-gone (Cancelled job) deck new refl follow (by-cancelled (Gone job) layout tables job deck follow (λ row at runs. gone-withdrawn job row at))
  stay (StepEnded job step rc writes lengths) deck old new follow knows commits goes all =
      with-gone (StepEnded job step rc writes lengths) deck new refl follow
      (by-step_ended (Gone job) layout tables job deck step rc writes lengths follow (λ row owned its. gone-step job row its.at.row_at rc writes lengths.items owned))
  stay (Restarted job initiator code true) deck old new follow knows commits goes all =
      let back = is-back layout tables job initiator code deck numbered placed follow in
      with-own (Restarted job initiator code true) deck new refl follow
      (λ row owned at runs effect found.
      let same_row : back.next ≡ row = some-one back.next row (run_of (after_event (Restarted job initiator code true) deck tables) job) back.next_at at in
      let same : back.owned ≡ owned = same_Some back.owned owned (sym back.found ∙ ap own_step same_row ∙ found) in
      subst (HasPoint points job) same (known job back.row back.owned back.row_at back.inside back.effect back.was))
  stay (Restarted job initiator code false) deck old new follow knows commits goes all =
      with-gone (Restarted job initiator code false) deck new refl follow
      (by-restarted (Gone job) layout tables job deck initiator code false follow (λ row its. gone-restarted job row its.row_at initiator its))
  stay (Held job code writes lengths) deck old new follow knows commits goes all =
      with-own (Held job code writes lengths) deck new refl follow
      (by-held (StillKnown job points) layout tables job deck code writes lengths follow
      (λ row owned its. known-held job row its.at.row_at code writes lengths.items owned (hand-in_step row its.hand (row-among IsPlacedRow tables job row placed its.at.row_at))))
  stay (ReleasedEvent job) deck old new follow knows commits goes all =
      with-own (ReleasedEvent job) deck new refl follow (by-released (StillKnown job points) layout tables job deck follow (λ row at held. known-released job row at held))
  stay (Ended job ending) deck old new follow knows commits goes all =
      with-gone (Ended job ending) deck new refl follow
      (by-ended (Gone job) layout tables job deck ending follow
      (λ row its. gone-ended tables job tables row row (as_is job row its.row_at) (mine job row its.row_at))
      (λ writes lengths row owned its. gone-coded job row its.at.row_at writes lengths owned)
      (λ row owned its. gone-end_within tables job tables row row owned (step_in (place_of row)) (as_is job row its.row_at) (mine job row its.row_at)))
  stay (Purged job) deck old new follow knows commits goes all =
      with-gone (Purged job) deck new refl follow (by-purged (Gone job) layout tables job deck follow (λ row at queued. gone-out job row at PurgedRun refl))

-- the points that the jobs have to know they know behind an event
pub points-stay : (layout : Layout) (tables : TablesModel) (event : Event) (deck : Option Job) (points : List PointView) (old new : List RunningStepView) → AllByRecursion IsAcceptedRow tables.runs → AreNumbered 1 tables.runs → AllByRecursion IsPlacedRow tables.runs
    → follows layout tables event deck ≡ true → HavePoints tables points → KnowsItsPoint event tables points → CommitsItsOwn event tables old → GoesOn event (after_event event deck tables) points old new → AllByRecursion (IsRunningOf (after_event event deck tables)) new
    → HavePoints (after_event event deck tables) (points_behind event new points)
points-stay layout tables event deck points old new rows numbered placed follow known knows commits goes all = stay layout tables rows numbered placed points known event deck old new follow knows commits goes all
