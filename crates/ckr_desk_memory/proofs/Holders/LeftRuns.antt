-- The runs that were running when the system failed stay within their steps, until they end.
use Rattle.std.proofs.Common.{◌≡◌, ◌+◌, ◌==◌, ◌||◌, ℕ, suc, Bool, true, false, cond, not, ◌&&◌, List, [], ◌∷◌, filter, map, slice_get, refl, ap, sym, ◌∙◌, subst, Option, Some, None, arith}
use Rattle.std.specs.List.{AllByRecursion}
use Rattle.std.specs.Option.{is_none, is_some}
use Rattle.std.proofs.lemmas.Bool.{and_from, false≢true}
use Rattle.ckr_base.proofs.Bools.{and-first, and-second}
use Rattle.ckr_base.proofs.Numbers.{equal-false, equal-true, number-cases, one-plus}
use Rattle.ckr_base.proofs.Options.{some-one}
use Rattle.ckr_base.proofs.Sequences.{each-implies}
use Rattle.ckr_events.specs.Jobs.{job_of}
use Rattle.ckr_events.specs.declared.event.Event.{Event}
use Rattle.ckr_events.specs.declared.event.Event.TheVariants.{Cancelled, Checkpointed, Denied, Ended, Held, Purged, Released, Restarted, Rewritten, Selected, Started, StepEnded, Submitted}
use Rattle.ckr_jcl.specs.declared.deck.Job.{Job}
use Rattle.ckr_points.specs.declared.run.RunState.{RunState}
use Rattle.ckr_points.specs.declared.run.RunState.TheVariants.{Queued, On, Held as HeldRun, Released as ReleasedRun, Ended as EndedRun, Denied as DeniedRun, Purged as PurgedRun}
use Rattle.ckr_points.specs.Follows.{follows, is_in_state, is_running, is_within, state_number}
use Rattle.ckr_points.specs.Restart.{after_event, place_of, step_in}
use Rattle.ckr_points.specs.Rows.{RunRow, TablesModel, run_of, TableSet, with_run}
use Rattle.ckr_points.specs.Tables.{after_checkpointed, after_rewritten, after_started, after_submitted}
use Rattle.ckr_points_tables.specs.Invariant.{is_submission}
use Rattle.ckr_volumes.specs.declared.layout.Layout.{Layout}
use Rattle.ckr_desk_memory.proofs.Holders.Events.{others-stay}
use Rattle.ckr_desk_memory.proofs.Holders.Submissions.{row-more}
use Rattle.ckr_desk_memory.proofs.Holders.Moves.{row-as_is, row-next}
use Rattle.ckr_desk_memory.specs.EventChanges.{failed_in}
use Rattle.ckr_desk_memory.specs.Invariant.{AreJobs, IsAcceptedRow, IsPlacedRow}
use Rattle.ckr_desk_memory.specs.OwnSteps.{AreLeft, IsLeft, IsOther, LeavesLeft}
use Rattle.ckr_desk_memory.specs.View.{JobsView}
use Rattle.ckr_desk_turn.specs.declared.failed_run.FailedRun.{FailedRun}
use Rattle.ckr_desk_turn.specs.Desk.{failed_behind, is_running as is_lodged, without_mark}
use Rattle.ckr_desk_turn.specs.Invariant.{is_on_one}
use Rattle.ckr_desk_turn.specs.Queue.{AreNumbered}
use Rattle.ckr_desk_turn.proofs.Queue.Events.{run_number}
use Rattle.ckr_library.specs.NameMaps.{Named}
use Rattle.ckr_desk_memory.proofs.EventRows.{by-cancelled, by-checkpointed, by-denied, by-purged, by-released, by-rewritten, by-started, row-selected}

-- so is each of these
abbrev LeftIn : TablesModel → FailedRun → Type 0
LeftIn tables one = IsLeft tables one.run

each-left : (tables after : TablesModel) (failed : List FailedRun) → ((number : ℕ) → IsLeft tables number → IsLeft after number) → AllByRecursion (LeftIn tables) failed → AllByRecursion (LeftIn after) failed
each-left tables after failed goes all = each-implies (LeftIn tables) (LeftIn after) failed (λ one left. goes one.run left) all

-- ---- without the mark of a run

others-marked : (job : ℕ) (failed : List FailedRun) → AllByRecursion (IsOther job) (without_mark job failed)
others-marked job [] = tt
others-marked job (one ∷ rest) = by (one.run == job) refl (others-marked job rest)
  where
    by : (b : Bool) → (one.run == job) ≡ b → AllByRecursion (IsOther job) (without_mark job rest) → AllByRecursion (IsOther job) (cond (not b) (one ∷ without_mark job rest) (without_mark job rest))
    by true e later = later
    by false e later = (equal-false one.run job e, later)

marks-kept : (P : FailedRun → Type 0) (job : ℕ) (failed : List FailedRun) → AllByRecursion P failed → AllByRecursion P (without_mark job failed)
marks-kept P job [] all = tt
marks-kept P job (one ∷ rest) all = by (one.run == job) (marks-kept P job rest all.1)
  where
    by : (b : Bool) → AllByRecursion P (without_mark job rest) → AllByRecursion P (cond (not b) (one ∷ without_mark job rest) (without_mark job rest))
    by true later = later
    by false later = (all.0, later)

-- ---- behind an event

module _ (layout : Layout) (tables : TablesModel) (rows : AllByRecursion IsAcceptedRow tables.runs) (numbered : AreNumbered 1 tables.runs) (placed : AllByRecursion IsPlacedRow tables.runs) where
  on_of : (job : ℕ) (row : RunRow) → run_of tables job ≡ Some row → IsLeft tables job → is_running row ≡ true
  on_of job row at left = ap is_running (some-one row left.0 (run_of tables job) at left.1) ∙ left.2

  -- a run that waits isn't running
  waits : {A : Type 0} (job : ℕ) (row : RunRow) → run_of tables job ≡ Some row → IsLeft tables job → is_in_state Queued row ≡ true → A
  waits job row at left queued =
      let one : state_number row.state ≡ 1 = equal-true (state_number row.state) 1 queued in
      let two : state_number row.state ≡ 2 = equal-true (state_number row.state) 2 (and-first (is_in_state On row) (is_within (place_of row)) (on_of job row at left)) in
      absurd (omega (arith, one, two))

  -- nor is a held one
  is_held : {A : Type 0} (job : ℕ) (row : RunRow) → run_of tables job ≡ Some row → IsLeft tables job → is_in_state HeldRun row ≡ true → A
  is_held job row at left held =
      let three : state_number row.state ≡ 3 = equal-true (state_number row.state) 3 held in
      let two : state_number row.state ≡ 2 = equal-true (state_number row.state) 2 (and-first (is_in_state On row) (is_within (place_of row)) (on_of job row at left)) in
      absurd (omega (arith, three, two))

  -- a row that is running leaves its run so
  still_left : (job : ℕ) (row next : RunRow) (sets : Named TableSet) → run_of tables job ≡ Some row → next.number ≡ row.number → is_running next ≡ true → IsLeft (with_run next (record tables { sets = sets })) job
  still_left job row next sets at same runs = (next, (row-next tables tables job row next sets (row-as_is tables job row at) (same ∙ run_number tables job row numbered at)).now, runs)

  -- within its step
  on_still : (row : RunRow) → is_in_state On row ≡ true → (is_in_state On row && true) ≡ true
  on_still row on = and_from (is_in_state On row) true on refl

  runs_still : (row : RunRow) → is_running row ≡ true → (is_in_state On row && true) ≡ true
  runs_still row runs = on_still row (and-first (is_in_state On row) (is_within (place_of row)) runs)

  -- a run whose event leaves it running, and the others
  one_left : (event : Event) (deck : Option Job) → is_submission event ≡ false → follows layout tables event deck ≡ true → (IsLeft tables (job_of event) → IsLeft (after_event event deck tables) (job_of event))
      → (failed : List FailedRun) → AllByRecursion (LeftIn tables) failed → AllByRecursion (LeftIn (after_event event deck tables)) failed
  one_left event deck other follow own failed all =
      each-left tables (after_event event deck tables) failed
      (λ number left.
      number-cases number (job_of event) (λ here. subst (IsLeft (after_event event deck tables)) (sym here) (own (subst (IsLeft tables) here left)))
      (λ apart. (left.0, others-stay layout tables event deck rows numbered placed other follow number apart ∙ left.1, left.2))) all

  -- those of which the event isn't
  rest_left : (event : Event) (deck : Option Job) → is_submission event ≡ false → follows layout tables event deck ≡ true → (failed : List FailedRun) → AllByRecursion (IsOther (job_of event)) failed → AllByRecursion (LeftIn tables) failed
      → AllByRecursion (LeftIn (after_event event deck tables)) failed
  rest_left event deck other follow [] apart all = tt
  rest_left event deck other follow (one ∷ rest) apart all = (
    (all.0.0, others-stay layout tables event deck rows numbered placed other follow one.run apart.0 ∙ all.0.1, all.0.2),
    rest_left event deck other follow rest apart.1 all.1,
  )

  left_on : (event : Event) (deck : Option Job) (failed : List FailedRun) → follows layout tables event deck ≡ true → LeavesLeft event failed → AllByRecursion (LeftIn tables) failed → AllByRecursion (LeftIn (after_event event deck tables)) (failed_behind event failed)
  left_on (Submitted job cards) None failed follow leaves all = all
  left_on (Submitted job cards) (Some deck) failed follow leaves all =
      each-left tables (after_submitted job deck tables) failed (λ number left. (left.0, row-more tables job deck number left.0 left.1, left.2)) all
  left_on (Selected job initiator earlier step id) deck failed follow leaves all =
      one_left (Selected job initiator earlier step id) deck refl follow (λ left. row-selected layout tables job deck initiator earlier step id follow (λ row its. waits job row its.row_at left its.queued)) failed all
  left_on (Denied job rule name) deck failed follow leaves all =
      one_left (Denied job rule name) deck refl follow (λ left. by-denied (λ after. IsLeft after job) layout tables job deck rule name follow (λ row at queued. waits job row at left queued)) failed all
  left_on (Started job step items) deck failed follow leaves all =
      one_left (Started job step items) deck refl follow
      (λ left.
      by-started (λ after. IsLeft after job) layout tables job deck step items follow (λ row owned its. still_left job row _ (after_started row owned step items.items tables).sets its.row_at refl (on_still row its.on))) failed all
  left_on (Rewritten job taken writes lengths place image) deck failed follow leaves all =
      one_left (Rewritten job taken writes lengths place image) deck refl follow
      (λ left.
      by-rewritten (λ after. IsLeft after job) layout tables job deck taken writes place lengths image follow
      (λ row owned its. still_left job row _ (after_rewritten row owned (step_in (place_of row)) writes lengths.items tables).sets its.at.row_at refl (runs_still row its.runs))) failed all
  left_on (Checkpointed job id taken writes lengths place bytes) deck failed follow leaves all =
      one_left (Checkpointed job id taken writes lengths place bytes) deck refl follow
      (λ left.
      by-checkpointed (λ after. IsLeft after job) layout tables job deck taken writes place bytes id lengths follow
      (λ row owned its.
      still_left job row _ (after_checkpointed row owned (step_in (place_of row)) (record { id = id; run = job; place = place; bytes = bytes }) taken writes lengths.items tables).sets its.at.row_at refl (runs_still row its.runs))) failed all
  left_on (Cancelled job) deck failed follow leaves all =
      one_left (Cancelled job) deck refl follow
      (λ left. by-cancelled (λ after. IsLeft after job) layout tables job deck follow (λ row at runs. still_left job row (record row { in_effect = None }) tables.sets at refl runs)) failed all
  left_on (StepEnded job step rc writes lengths) deck failed follow leaves all = rest_left (StepEnded job step rc writes lengths) deck refl follow failed leaves all
  left_on (Restarted job initiator code checkpoint) deck failed follow leaves all =
      rest_left (Restarted job initiator code checkpoint) deck refl follow (failed_behind (Restarted job initiator code checkpoint) failed) (others-marked job failed) (marks-kept (LeftIn tables) job failed all)
  left_on (Held job code writes lengths) deck failed follow leaves all =
      rest_left (Held job code writes lengths) deck refl follow (failed_behind (Held job code writes lengths) failed) (others-marked job failed) (marks-kept (LeftIn tables) job failed all)
  left_on (Released job) deck failed follow leaves all =
      one_left (Released job) deck refl follow (λ left. by-released (λ after. IsLeft after job) layout tables job deck follow (λ row at held. is_held job row at left held)) failed all
  left_on (Ended job ending) deck failed follow leaves all =
      rest_left (Ended job ending) deck refl follow (failed_behind (Ended job ending) failed) (others-marked job failed) (marks-kept (LeftIn tables) job failed all)
  left_on (Purged job) deck failed follow leaves all =
      one_left (Purged job) deck refl follow (λ left. by-purged (λ after. IsLeft after job) layout tables job deck follow (λ row at queued. waits job row at left queued)) failed all

pub left-behind : (layout : Layout) (old : JobsView) (now : TablesModel) (marked : List FailedRun) (event : Event) (deck : Option Job) → AreJobs layout old → AreNumbered 1 old.tables.desk.runs → now ≡ after_event event deck old.tables.desk → marked ≡ failed_behind event old.failed
    → AreLeft old → follows layout old.tables.desk event deck ≡ true → LeavesLeft event old.failed → AllByRecursion (LeftIn now) marked
left-behind layout old now marked event deck are numbered tables failed left follow leaves =
    subst (λ (t : TablesModel). AllByRecursion (LeftIn t) marked) (sym tables)
    (subst (AllByRecursion (LeftIn (after_event event deck old.tables.desk))) (sym failed) (left_on layout old.tables.desk are.rows numbered are.placed event deck old.failed follow leaves left))

-- none is
pub left-none : (jobs : JobsView) → jobs.failed ≡ [] → AreLeft jobs
left-none jobs failed = subst (AllByRecursion (LeftIn jobs.tables.desk)) (sym failed) tt

-- those of the same jobs are
pub left-alike : (old new : JobsView) → new.tables.desk ≡ old.tables.desk → new.failed ≡ old.failed → AreLeft old → AreLeft new
left-alike old new tables failed left = subst (λ (t : TablesModel). AllByRecursion (LeftIn t) new.failed) (sym tables) (subst (AllByRecursion (LeftIn old.tables.desk)) (sym failed) left)

-- ---- as the desk is opened

on_one : (state : RunState) → is_on_one state ≡ true → (state_number state == 2) ≡ true
on_one Queued is = absurd (false≢true is)
on_one On is = refl
on_one HeldRun is = absurd (false≢true is)
on_one ReleasedRun is = absurd (false≢true is)
on_one EndedRun is = absurd (false≢true is)
on_one DeniedRun is = absurd (false≢true is)
on_one PurgedRun is = absurd (false≢true is)

lodged_on : (initiator : Option ℕ) (on : Bool) → is_some initiator ≡ true → (is_none initiator || on) ≡ true → on ≡ true
lodged_on None on some lodged = absurd (false≢true some)
lodged_on (Some i) on some lodged = lodged

abbrev IsAt : TablesModel → RunRow → Type 0
IsAt tables row = run_of tables row.number ≡ Some row

all_at : (tables : TablesModel) (rows : List RunRow) (from : ℕ) → AreNumbered from rows → ((place : ℕ) (row : RunRow) → slice_get rows place ≡ Some row → run_of tables (from + place) ≡ Some row) → AllByRecursion (IsAt tables) rows
all_at tables [] from numbered at = tt
all_at tables (row ∷ rest) from numbered at =
    let same : from + 0 ≡ row.number = omega (arith, numbered.0) in
    (ap (run_of tables) (sym same) ∙ at 0 row refl, all_at tables rest (suc from) numbered.1 (λ place next is. ap (run_of tables) (omega arith) ∙ at (suc place) next is))

abbrev mark_of : RunRow → FailedRun
mark_of row = record { run = row.number; asked = false }

left_in : (tables : TablesModel) (rows : List RunRow) → AllByRecursion (IsAt tables) rows → AllByRecursion IsPlacedRow rows → AllByRecursion (LeftIn tables) (map mark_of (filter is_lodged rows))
left_in tables [] at placed = tt
left_in tables (row ∷ rest) at placed = by (is_lodged row) refl (left_in tables rest at.1 placed.1)
  where
    by : (b : Bool) → is_lodged row ≡ b → AllByRecursion (LeftIn tables) (map mark_of (filter is_lodged rest))
        → AllByRecursion (LeftIn tables) (map mark_of (cond b (row ∷ filter is_lodged rest) (filter is_lodged rest)))
    by true is later = (
      (
        row,
        at.0,
        and_from (is_in_state On row) (is_within (place_of row)) (on_one row.state (lodged_on row.initiator (is_on_one row.state) (and-first (is_some row.initiator) (is_within (place_of row)) is) placed.0.lodged))
            (and-second (is_some row.initiator) (is_within (place_of row)) is),
      ),
      later,
    )
    by false is later = later

pub left-opened : (layout : Layout) (old : JobsView) (now : TablesModel) (marked : List FailedRun) → AreNumbered 1 old.tables.desk.runs → AreJobs layout old → now ≡ old.tables.desk → marked ≡ failed_in old.tables.desk → AllByRecursion (LeftIn now) marked
left-opened layout old now marked numbered are tables failed =
    subst (λ (t : TablesModel). AllByRecursion (LeftIn t) marked) (sym tables)
    (subst (AllByRecursion (LeftIn old.tables.desk)) (sym failed)
    (left_in old.tables.desk old.tables.desk.runs (all_at old.tables.desk old.tables.desk.runs 1 numbered (λ place row is. ap (run_of old.tables.desk) (one-plus place) ∙ is)) are.placed))
