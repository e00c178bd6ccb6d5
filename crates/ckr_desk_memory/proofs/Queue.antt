-- The queue of the tables' runs goes on by an event that follows.
use Rattle.std.proofs.Common.{◌≡◌, ◌+◌, ◌==◌, ◌≤◌, ◌||◌, ℕ, zero, suc, Bool, true, false, cond, IsTrue, List, [], ◌∷◌, find, length, refl, ap, sym, ◌∙◌, subst, Option, None, Some, arith, slice_get}
use Rattle.std.proofs.lemmas.Option.{same_Some}
use Rattle.std.proofs.lemmas.Bool.{false≢true}
use Rattle.std.proofs.lemmas.Bool.Decides.{nat_tests}
use Rattle.std.specs.Prelude.{if◌then◌else◌}
use Rattle.std.specs.List.{filter_map}
use Rattle.std.specs.Option.{is_some, option_map, option_map_or}
use Rattle.ckr_base.proofs.Bools.{and-first, or-cases}
use Rattle.ckr_base.proofs.Numbers.{equal-true}
use Rattle.ckr_library.specs.NameMaps.{Named}
use Rattle.ckr_events.specs.declared.event.Event.{Event}
use Rattle.ckr_events.specs.declared.event.Event.TheVariants.{Submitted, Selected, Denied, Started, Rewritten, Checkpointed, Cancelled, StepEnded, Restarted, Held as HeldEvent, Released as ReleasedEvent, Ended, Purged}
use Rattle.ckr_events.specs.declared.event.Ending.{Ending}
use Rattle.ckr_jcl.specs.declared.deck.Job.{Job}
use Rattle.ckr_meaning.specs.EffectiveJob.{names_of}
use Rattle.ckr_volumes.specs.declared.layout.Layout.{Layout}
use Rattle.ckr_desk_plans.specs.Model.Commit.{output_names}
use Rattle.ckr_points.specs.declared.run.RunState.{RunState}
use Rattle.ckr_points.specs.declared.run.RunState.TheVariants as Runs
use Rattle.ckr_points.specs.Follows.{follows, is_in_state, is_running, of_run, state_number}
use Rattle.ckr_points.specs.Marks.{point_at, put_back, removed_all}
use Rattle.ckr_points.specs.Restart.{after_event, after_restarted, by_step, kept_at, place_of, step_in}
use Rattle.ckr_points.specs.Rows.{RunRow, TableSet, TablesModel, run_of, step_of_run, with_row, with_run}
use Rattle.ckr_points.specs.Tables.{own_made}
use Rattle.ckr_queue.specs.declared.entry.QueueEntry.{QueueEntry}
use Rattle.ckr_queue.specs.declared.entry.QueueState.{QueueState}
use Rattle.ckr_queue.specs.declared.entry.QueueState.TheVariants as InQueue
use Rattle.ckr_queue.specs.Queue.{has_names, is_held, is_in, is_of, is_queued, may_take, passes, starts, state_of, with_state, without}
use Rattle.ckr_points_invariant.proofs.Continuations.Follows.{may-continue}
use Rattle.ckr_points_invariant.proofs.Holders.Rows.{queued-is, run-same}
use Rattle.ckr_desk_turn.specs.Queue.{AreNumbered, entry_of, entry_with, queue_of, queue_state}
use Rattle.ckr_desk_turn.proofs.Queue.Events as behind
use Rattle.ckr_desk_turn.proofs.Queue.Events.{kept_state, new_state, no_state, queue_in, row_twice, run_number}
use Rattle.ckr_desk_turn.proofs.Queue.Changes.{added, first_in, joined, other_number, own_number}
use Rattle.ckr_desk_turn.proofs.Queue.Select.{let_in}
use Rattle.ckr_desk_memory.proofs.Runs.{by-step}
use Rattle.ckr_desk_memory.specs.EventChanges.{MayQueue, queue_after}
use Rattle.ckr_desk_memory.proofs.EventRows.{IsSelected, by-cancelled, by-checkpointed, by-denied, by-ended, by-held, by-purged, by-released, by-restarted, row-selected}

-- ---- a run in the queue

-- an entry of another number is passed by
passed_by : (n : ℕ) (row : RunRow) (state : Option QueueState) (entries : List QueueEntry) → (row.number == n) ≡ false → find (is_of n) (joined state row entries) ≡ find (is_of n) entries
passed_by n row None entries other = refl
passed_by n row (Some state) entries other = ap (λ b. cond b (Some (entry_with row state)) (find (is_of n) entries)) other

found_at : (rows : List RunRow) (from place : ℕ) (row : RunRow) (state : QueueState) → AreNumbered from rows → slice_get rows place ≡ Some row → queue_state row.state ≡ Some state
    → find (is_of (from + place)) (filter_map entry_of rows) ≡ Some (entry_with row state)
found_at [] from place row state numbered at is = cc
found_at (first ∷ rows) from zero row state numbered at is =
    let same = same_Some _ _ at in
    ap (find (is_of (from + zero))) (first_in first rows (Some state) (ap (λ (r : RunRow). queue_state r.state) same ∙ is))
    ∙ ap (λ b. cond b (Some (entry_with first state)) (find (is_of (from + zero)) (filter_map entry_of rows))) (own_number first (from + zero) (omega (arith, numbered.0)))
    ∙ ap (λ (r : RunRow). Some (entry_with r state)) same
found_at (first ∷ rows) from (suc place) row state numbered at is =
    passed_by (from + suc place) first (queue_state first.state) (filter_map entry_of rows) (other_number from place first (from + suc place) numbered.0 (omega arith))
    ∙ ap (λ n. find (is_of n) (filter_map entry_of rows)) (omega arith)
    ∙ found_at rows (suc from) place row state numbered.1 at is

-- the entry of a run that is in the queue
pub found-run : (tables : TablesModel) (job : ℕ) (row : RunRow) (state : QueueState) → AreNumbered 1 tables.runs → run_of tables job ≡ Some row → queue_state row.state ≡ Some state
    → find (is_of job) (queue_of tables) ≡ Some (entry_with row state)
found-run tables zero row state numbered at is = cc
found-run tables (suc place) row state numbered at is =
    ap (λ n. find (is_of n) (queue_of tables)) (omega arith) ∙ found_at tables.runs 1 place row state numbered at is

-- a number behind the last one isn't there
none_at : (rows : List RunRow) (from n : ℕ) → AreNumbered from rows → from + length rows ≤ n → find (is_of n) (filter_map entry_of rows) ≡ None
none_at [] from n numbered beyond = refl
none_at (first ∷ rows) from n numbered beyond =
    passed_by n first (queue_state first.state) (filter_map entry_of rows) (grind (arith, nat_tests, numbered.0)) ∙ none_at rows (suc from) n numbered.1 (omega arith)

pub none-behind : (tables : TablesModel) (job : ℕ) → AreNumbered 1 tables.runs → job ≡ suc (length tables.runs) → state_of job (queue_of tables) ≡ None
none-behind tables job numbered is = ap (option_map (λ (entry : QueueEntry). entry.state)) (none_at tables.runs 1 job numbered (omega arith))

-- ---- states by their numbers

pub on-is : (state : RunState) → (state_number state == 2) ≡ true → state ≡ Runs.On
on-is Runs.Queued e = absurd (false≢true e)
on-is Runs.On e = refl
on-is Runs.Held e = absurd (false≢true e)
on-is Runs.Released e = absurd (false≢true e)
on-is Runs.Ended e = absurd (false≢true e)
on-is Runs.Denied e = absurd (false≢true e)
on-is Runs.Purged e = absurd (false≢true e)

pub held-is : (state : RunState) → (state_number state == 3) ≡ true → state ≡ Runs.Held
held-is Runs.Queued e = absurd (false≢true e)
held-is Runs.On e = absurd (false≢true e)
held-is Runs.Held e = refl
held-is Runs.Released e = absurd (false≢true e)
held-is Runs.Ended e = absurd (false≢true e)
held-is Runs.Denied e = absurd (false≢true e)
held-is Runs.Purged e = absurd (false≢true e)

pub released-is : (state : RunState) → (state_number state == 4) ≡ true → state ≡ Runs.Released
released-is Runs.Queued e = absurd (false≢true e)
released-is Runs.On e = absurd (false≢true e)
released-is Runs.Held e = absurd (false≢true e)
released-is Runs.Released e = refl
released-is Runs.Ended e = absurd (false≢true e)
released-is Runs.Denied e = absurd (false≢true e)
released-is Runs.Purged e = absurd (false≢true e)

-- a run with its names
record HasEntry (row : RunRow) : Type 0 where
  state : QueueState
  is : queue_state row.state ≡ Some state
  names : has_names state ≡ true

has_entry_on : (row : RunRow) → is_in_state Runs.On row ≡ true → HasEntry row
has_entry_on row e = record { state = InQueue.Selected; is = ap queue_state (on-is row.state e); names = refl }

has_entry_released : (row : RunRow) → is_in_state Runs.Released row ≡ true → HasEntry row
has_entry_released row e = record { state = InQueue.Released; is = ap queue_state (released-is row.state e); names = refl }

-- one that is running, or was released
at-hand : (row : RunRow) → (is_running row || is_in_state Runs.Released row) ≡ true → HasEntry row
at-hand row e =
    or-cases (is_running row) (is_in_state Runs.Released row) e (λ running. has_entry_on row (and-first (is_in_state Runs.On row) _ running)) (has_entry_released row)

-- ---- entries by their states

-- a run that has a state already stays as it is
pub state-same : (job : ℕ) (state : QueueState) (queue : List QueueEntry) → state_of job queue ≡ Some state → with_state job state queue ≡ queue
state-same job state [] is = refl
state-same job state (first ∷ rest) is = by (is_of job first) is (state-same job state rest)
  where
    by : (b : Bool) → option_map (λ (entry : QueueEntry). entry.state) (cond b (Some first) (find (is_of job) rest)) ≡ Some state → (state_of job rest ≡ Some state → with_state job state rest ≡ rest)
        → (if b then record first { state = state } ∷ rest else first ∷ with_state job state rest) ≡ first ∷ rest
    by true is later = ap (λ (s : QueueState). let entry : QueueEntry = record first { state = s } in entry ∷ rest) (sym (same_Some _ _ is))
    by false is later = ap (λ (entries : List QueueEntry). first ∷ entries) (later is)

-- ---- what an event asks of the queue

module _ (layout : Layout) (tables : TablesModel) (numbered : AreNumbered 1 tables.runs) where
  taken : (job : ℕ) (row : RunRow) → IsSelected tables job row → IsTrue (may_take job (queue_of tables))
  taken job row its =
      ap (starts (queue_of tables)) (found-run tables job row InQueue.Queued numbered its.row_at (ap queue_state (queued-is row.state its.queued)))
      ∙ let_in row InQueue.Queued tables.runs
      ∙ its.holds

  in_state : (test : QueueState → Bool) (job : ℕ) (row : RunRow) (state : QueueState) → run_of tables job ≡ Some row → queue_state row.state ≡ Some state → test state ≡ true → is_in test job (queue_of tables) ≡ true
  in_state test job row state at is holds =
      ap (λ (found : Option QueueEntry). passes test (option_map (λ (entry : QueueEntry). entry.state) found)) (found-run tables job row state numbered at is) ∙ holds

  -- a run that waits, and one that has its names
  abbrev In : (QueueState → Bool) → ℕ → TablesModel → Type 0
  In test job after = is_in test job (queue_of tables) ≡ true

  waiting_in : (job : ℕ) (row : RunRow) → run_of tables job ≡ Some row → is_in_state Runs.Queued row ≡ true → is_in is_queued job (queue_of tables) ≡ true
  waiting_in job row at queued = in_state is_queued job row InQueue.Queued at (ap queue_state (queued-is row.state queued)) refl

  named_in : (job : ℕ) (row : RunRow) → run_of tables job ≡ Some row → HasEntry row → is_in has_names job (queue_of tables) ≡ true
  named_in job row at entry = in_state has_names job row entry.state at entry.is entry.names

  may : (event : Event) (deck : Option Job) → follows layout tables event deck ≡ true → MayQueue event (queue_of tables)
  may (Submitted job cards) deck e = none-behind tables job numbered (equal-true job (suc (length tables.runs)) (and-first _ _ (and-first _ (is_some deck) e)))
  may (Selected job initiator earlier step id) deck e = row-selected layout tables job deck initiator earlier step id e (taken job)
  may (Denied job rule name) deck e = by-denied (In is_queued job) layout tables job deck rule name e (waiting_in job)
  may (Restarted job initiator code checkpoint) deck e = by-restarted (In has_names job) layout tables job deck initiator code checkpoint e (λ row its. named_in job row its.row_at (at-hand row its.hand))
  may (HeldEvent job code writes lengths) deck e = by-held (In has_names job) layout tables job deck code writes lengths e (λ row owned its. named_in job row its.at.row_at (at-hand row its.hand))
  may (ReleasedEvent job) deck e = by-released (In is_held job) layout tables job deck e (λ row at held. in_state is_held job row InQueue.Held at (ap queue_state (held-is row.state held)) refl)
  may (Ended job ending) deck e =
      by-ended (In has_names job) layout tables job deck ending e (λ row its. named_in job row its.row_at (has_entry_on row its.on)) (λ writes lengths row owned its. named_in job row its.at.row_at (at-hand row its.hand))
      (λ row owned its. named_in job row its.row_at (has_entry_on row its.on))
  may (Purged job) deck e = by-purged (In is_queued job) layout tables job deck e (waiting_in job)
  may _ deck e = tt

  -- ---- the queue behind it

  abbrev Behind : Event → Option Job → Type 0
  Behind event deck = queue_of (after_event event deck tables) ≡ queue_after (after_event event deck tables) event deck (queue_of tables)

  submitted_so : (job : ℕ) (cards : List ℕ) (deck : Option Job) → job ≡ suc (length tables.runs) → Behind (Submitted job cards) deck
  submitted_so job cards None is = refl
  submitted_so job cards (Some deck) is =
      subst (λ n. Behind (Submitted n cards) (Some deck)) (sym is ∙ refl) (subst (λ n. Behind (Submitted n cards) (Some deck)) (omega arith) (added tables.runs 1 deck numbered))

  kept_row : (job : ℕ) (row next : RunRow) → run_of tables job ≡ Some row → next.number ≡ row.number → next.deck ≡ row.deck → queue_state next.state ≡ queue_state row.state → queue_in (with_row next next.number tables.runs) ≡ queue_of tables
  kept_row job row next at number deck state =
      ap (λ n. queue_in (with_row next n tables.runs)) (number ∙ run_number tables job row numbered at) ∙ kept_state tables job row next at number deck state

  -- a run goes into another state
  moved_row : (job : ℕ) (row next : RunRow) (before to : QueueState) → run_of tables job ≡ Some row → next.number ≡ row.number → next.deck ≡ row.deck → queue_state row.state ≡ Some before → queue_state next.state ≡ Some to
      → queue_in (with_row next next.number tables.runs) ≡ with_state job to (queue_of tables)
  moved_row job row next before to at number deck was is =
      ap (λ n. queue_in (with_row next n tables.runs)) (number ∙ run_number tables job row numbered at) ∙ new_state tables job row next before to numbered at number deck was is

  -- a run leaves the queue, also where its row changes twice
  left_row : (job : ℕ) (row next : RunRow) (before : QueueState) → run_of tables job ≡ Some row → next.number ≡ row.number → queue_state row.state ≡ Some before → queue_state next.state ≡ None
      → queue_in (with_row next next.number tables.runs) ≡ without job (queue_of tables)
  left_row job row next before at number was gone =
      ap (λ n. queue_in (with_row next n tables.runs)) (number ∙ run_number tables job row numbered at) ∙ no_state tables job row next before numbered at was gone

  left_twice : (job : ℕ) (row one two : RunRow) (before : QueueState) → run_of tables job ≡ Some row → one.number ≡ two.number → two.number ≡ row.number → queue_state row.state ≡ Some before → queue_state two.state ≡ None
      → queue_in (with_row two two.number (with_row one one.number tables.runs)) ≡ without job (queue_of tables)
  left_twice job row one two before at same number was gone =
      ap (λ n. queue_in (with_row two two.number (with_row one n tables.runs))) same ∙ ap queue_in (row_twice tables.runs two.number one two) ∙ left_row job row two before at number was gone

  -- a run that is restarted is selected where it is on an initiator
  abbrev Restarts : ℕ → TablesModel → Type 0
  Restarts job other = queue_of other ≡ (if of_run other job (is_in_state Runs.On) then with_state job InQueue.Selected (queue_of tables) else queue_of tables)

  -- where it stays as it was, the queue does
  stays_so : (job : ℕ) (row : RunRow) → run_of tables job ≡ Some row → Restarts job tables
  stays_so job row at = by (of_run tables job (is_in_state Runs.On)) (sym (ap (λ (o : Option RunRow). option_map_or (is_in_state Runs.On) o false) at))
    where
      by : (b : Bool) → is_in_state Runs.On row ≡ b → queue_of tables ≡ (if b then with_state job InQueue.Selected (queue_of tables) else queue_of tables)
      by true on =
          sym (state-same job InQueue.Selected (queue_of tables)
          (ap (option_map (λ (entry : QueueEntry). entry.state)) (found-run tables job row InQueue.Selected numbered at (ap queue_state (on-is row.state on)))))
      by false off = refl

  back_so : (job : ℕ) (row next : RunRow) (before : QueueState) (sets : Named TableSet) → run_of tables job ≡ Some row → next.number ≡ row.number → next.deck ≡ row.deck → queue_state row.state ≡ Some before → next.state ≡ Runs.On
      → Restarts job (with_run next (record tables { sets = sets }))
  back_so job row next before sets at number deck was on =
      let behind : TablesModel = with_run next (record tables { sets = sets }) in
      let now : of_run behind job (is_in_state Runs.On) ≡ true =
      ap (λ (o : Option RunRow). option_map_or (is_in_state Runs.On) o false) (run-same (record tables { sets = sets }) next row job at (number ∙ run_number tables job row numbered at))
      ∙ ap (λ s. state_number s == 2) on in
      moved_row job row next before InQueue.Selected at number deck was (ap queue_state on)
      ∙ sym (ap (λ b. if b then with_state job InQueue.Selected (queue_of tables) else queue_of tables) now)

  restarted_row : (job initiator : ℕ) (row : RunRow) (before : QueueState) → run_of tables job ≡ Some row → queue_state row.state ≡ Some before → (checkpoint : Bool) → Restarts job (by_step (λ owned step. after_restarted row owned step initiator checkpoint tables) row tables)
  restarted_row job initiator row before at was true =
      by-step (Restarts job) tables (step_of_run row (step_in (place_of row))) _ (stays_so job row at)
      (λ owned there.
      by-step (Restarts job) tables row.in_effect _ (stays_so job row at)
      (λ effect now.
      by-step (Restarts job) tables (kept_at tables.sets effect.set effect.kept.id) _ (stays_so job row at)
      (λ entry kept. back_so job row _ before (put_back entry.point.marks (output_names row.job.root owned) (names_of row.job.root owned) tables.sets) at refl refl was refl)))
  restarted_row job initiator row before at was false =
      by-step (Restarts job) tables (step_of_run row (step_in (place_of row))) _ (stays_so job row at)
      (λ owned there.
      by-step (Restarts job) tables (point_at row.points (step_in (place_of row))) _ (stays_so job row at)
      (λ point began.
      back_so job row _ before (put_back point.marks (output_names row.job.root owned) (names_of row.job.root owned) (removed_all (own_made row owned (step_in (place_of row))) tables.sets)) at refl refl was refl))

  abbrev Becomes : List QueueEntry → TablesModel → Type 0
  Becomes queue other = queue_of other ≡ queue

  ended_so : (job : ℕ) (ending : Ending) (deck : Option Job) → follows layout tables (Ended job ending) deck ≡ true → Behind (Ended job ending) deck
  ended_so job ending deck e =
      by-ended (Becomes (without job (queue_of tables))) layout tables job deck ending e (λ row its. left_row job row _ InQueue.Selected its.row_at refl (selected row its.on) refl)
      (λ writes lengths row owned its. let entry = at-hand row its.hand in left_twice job row _ _ entry.state its.at.row_at refl refl entry.is refl)
      (λ row owned its. left_row job row _ InQueue.Selected its.row_at refl (selected row its.on) refl)
    where
      selected : (row : RunRow) → is_in_state Runs.On row ≡ true → queue_state row.state ≡ Some InQueue.Selected
      selected row on = ap queue_state (on-is row.state on)

  queue_so : (event : Event) (deck : Option Job) → follows layout tables event deck ≡ true → Behind event deck
  queue_so (Submitted job cards) deck e = submitted_so job cards deck (equal-true job (suc (length tables.runs)) (and-first _ _ (and-first _ (is_some deck) e)))
  queue_so (Selected job initiator zero step id) deck e =
      row-selected layout tables job deck initiator zero step id e (λ row its. behind.selected tables job initiator step id deck row numbered its.row_at (queued-is row.state its.queued))
  queue_so (Selected job initiator (suc before) step id) deck e =
      behind.continued layout tables job initiator before step id deck numbered (may-continue layout tables job initiator (suc before) step id (λ none. omega (arith, none)) e)
  queue_so (Denied job rule name) deck e =
      by-denied (Becomes (without job (queue_of tables))) layout tables job deck rule name e (λ row at queued. left_row job row _ InQueue.Queued at refl (ap queue_state (queued-is row.state queued)) refl)
  queue_so (Started job step items) deck e = behind.started tables job step items deck numbered
  queue_so (Rewritten job t writes lengths place image) deck e = behind.rewritten tables job t writes place lengths image deck numbered
  queue_so (Checkpointed job id taken writes lengths place bytes) deck e =
      by-checkpointed (Becomes (queue_of tables)) layout tables job deck taken writes place bytes id lengths e (λ row owned its. kept_row job row _ its.at.row_at refl refl refl)
  queue_so (Cancelled job) deck e = by-cancelled (Becomes (queue_of tables)) layout tables job deck e (λ row at runs. kept_row job row _ at refl refl refl)
  queue_so (StepEnded job step rc writes lengths) deck e = behind.step_ended tables job step rc writes lengths deck numbered
  queue_so (Restarted job initiator code checkpoint) deck e =
      by-restarted (Restarts job) layout tables job deck initiator code checkpoint e (λ row its. let entry = at-hand row its.hand in restarted_row job initiator row entry.state its.row_at entry.is checkpoint)
  queue_so (HeldEvent job code writes lengths) deck e =
      by-held (Becomes (with_state job InQueue.Held (queue_of tables))) layout tables job deck code writes lengths e
      (λ row owned its. let entry = at-hand row its.hand in moved_row job row _ entry.state InQueue.Held its.at.row_at refl refl entry.is refl)
  queue_so (ReleasedEvent job) deck e =
      by-released (Becomes (with_state job InQueue.Released (queue_of tables))) layout tables job deck e
      (λ row at held. moved_row job row _ InQueue.Held InQueue.Released at refl refl (ap queue_state (held-is row.state held)) refl)
  queue_so (Ended job ending) deck e = ended_so job ending deck e
  queue_so (Purged job) deck e =
      by-purged (Becomes (without job (queue_of tables))) layout tables job deck e (λ row at queued. left_row job row _ InQueue.Queued at refl (ap queue_state (queued-is row.state queued)) refl)

pub may-queue : (layout : Layout) (tables : TablesModel) (event : Event) (deck : Option Job) → AreNumbered 1 tables.runs → follows layout tables event deck ≡ true → MayQueue event (queue_of tables)
may-queue layout tables event deck numbered e = may layout tables numbered event deck e

pub queue-behind : (layout : Layout) (tables : TablesModel) (event : Event) (deck : Option Job) → AreNumbered 1 tables.runs → follows layout tables event deck ≡ true
    → queue_of (after_event event deck tables) ≡ queue_after (after_event event deck tables) event deck (queue_of tables)
queue-behind layout tables event deck numbered e = queue_so layout tables numbered event deck e
