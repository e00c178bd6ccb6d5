-- What an event that follows finds of its run: its row, its state, its step, and what is told of it. What holds of the tables that it makes of them holds behind the event.
use Rattle.std.proofs.Common.{◌≡◌, ◌==◌, ℕ, zero, Bool, true, false, not, ◌&&◌, ◌||◌, List, refl, ap, sym, ◌∙◌, subst, Option, Some}
use Rattle.std.specs.Prelude.{nat_eq}
use Rattle.std.specs.Option.{is_none, is_some, option_eq, option_map_or}
use Rattle.std.proofs.lemmas.Bool.{not-true, or_left, or_right}
use Rattle.arrayvec.specs.ArrayVec.{ArrayVec}
use Rattle.ckr_base.specs.declared.code.Code.{Code}
use Rattle.ckr_base.proofs.Bools.{and-first, and-second, or-cases}
use Rattle.ckr_base.proofs.Options.{option_map_or-true}
use Rattle.ckr_events.specs.declared.event.Event.TheVariants.{Cancelled, Checkpointed, Denied, Ended, Held, Purged, Released, Restarted, Rewritten, Selected, Started, StepEnded}
use Rattle.ckr_events.specs.declared.event.Ending.{Ending}
use Rattle.ckr_events.specs.declared.event.Ending.TheVariants.{Allocation, Coded, Completed}
use Rattle.ckr_events.specs.declared.event.Made.{Made}
use Rattle.ckr_jcl.specs.declared.deck.Job.{Job}
use Rattle.ckr_library.specs.NameMaps.{Name}
use Rattle.ckr_meaning.specs.EffectiveJob.{OwnedStep, flaws_in, placed_in, stamp_of}
use Rattle.ckr_meaning.specs.declared.place.Place.{Place}
use Rattle.ckr_meaning.specs.declared.place.Place.TheVariants.{Before, Opened, Within}
use Rattle.ckr_volumes.specs.declared.layout.Layout.{Layout}
use Rattle.ckr_desk_plans.specs.Model.Commit.{output_names}
use Rattle.ckr_points.specs.declared.run.RunState.TheVariants.{Queued, On, Held as HeldRun, Released as ReleasedRun, Denied as DeniedRun, Purged as PurgedRun}
use Rattle.ckr_points.specs.Follows.{are_items, are_lengths, ended_follows, follows, is_checkpoint, is_empty, is_free, is_in_state, is_rewrite, is_running, is_within, lengths_follow, may_hold, may_restart_again, may_start, of_step, own_step, selected_follows, started_follows}
use Rattle.ckr_points.specs.Restart.{after_abnormal, after_event, after_passed_ended, after_restarted, by_step, place_of, step_in}
use Rattle.ckr_points.specs.Rows.{RunRow, TablesModel, run_of, standing_of, step_of_run, table_ways, with_run}
use Rattle.ckr_points.specs.Tables.{after_cancelled, after_checkpointed, after_commit, after_dispositions, after_held, after_rewritten, after_selected, after_started, after_step_ended}
use Rattle.ckr_points_invariant.proofs.WaitingRuns.{tested-run}
use Rattle.ckr_desk_memory.proofs.Holders.Moves.{by-own, by-row}
use Rattle.ckr_desk_memory.proofs.Holders.RowTests.{by-some}

-- a run that waits is selected: it may hold its names
pub record IsSelected (tables : TablesModel) (job : ℕ) (row : RunRow) : Type 0 where
  pub row_at : run_of tables job ≡ Some row
  pub queued : is_in_state Queued row ≡ true
  pub holds : may_hold tables row ≡ true

-- a step starts: it is ahead, and what it allocates is made
pub record IsStarting (layout : Layout) (tables : TablesModel) (job step : ℕ) (items : List Made) (row : RunRow) (owned : OwnedStep) : Type 0 where
  pub row_at : run_of tables job ≡ Some row
  pub on : is_in_state On row ≡ true
  pub found : step_of_run row step ≡ Some owned
  pub ahead : may_start step (place_of row) ≡ true
  pub flawless : is_empty (flaws_in (placed_in table_ways (standing_of row tables) row.job.root owned)) ≡ true
  pub are : are_items layout (stamp_of owned step) tables.sets (placed_in table_ways (standing_of row tables) row.job.root owned) items ≡ true

-- a run in its step, and the lengths of the step's outputs that an event tells
pub record IsAtStep (tables : TablesModel) (job : ℕ) (row : RunRow) (owned : OwnedStep) (lengths : List ℕ) : Type 0 where
  pub row_at : run_of tables job ≡ Some row
  pub found : own_step row ≡ Some owned
  pub are : are_lengths tables.sets (output_names row.job.root owned) lengths ≡ true

-- one that is running
pub record IsStepDone (tables : TablesModel) (job : ℕ) (row : RunRow) (owned : OwnedStep) (lengths : List ℕ) : Type 0 where
  pub at : IsAtStep tables job row owned lengths
  pub runs : is_running row ≡ true

-- one whose record is rewritten
pub record IsRewriting (tables : TablesModel) (job : ℕ) (row : RunRow) (owned : OwnedStep) (place : ℕ) (lengths image : List ℕ) : Type 0 where
  pub at : IsAtStep tables job row owned lengths
  pub runs : is_running row ≡ true
  pub rewrite : is_rewrite tables place image row owned ≡ true

-- one of which a checkpoint is taken
pub record IsChecking (tables : TablesModel) (job : ℕ) (row : RunRow) (owned : OwnedStep) (id : Name) (place bytes : ℕ) (lengths : List ℕ) : Type 0 where
  pub at : IsAtStep tables job row owned lengths
  pub runs : is_running row ≡ true
  pub check : is_checkpoint tables id lengths place bytes row owned ≡ true

-- one that is running, or was released
pub record IsAtHand (tables : TablesModel) (job : ℕ) (row : RunRow) (owned : OwnedStep) (lengths : List ℕ) : Type 0 where
  pub at : IsAtStep tables job row owned lengths
  pub hand : (is_running row || is_in_state ReleasedRun row) ≡ true

-- so is a run that is restarted
pub record IsRestarting (tables : TablesModel) (job : ℕ) (row : RunRow) (checkpoint : Bool) : Type 0 where
  pub row_at : run_of tables job ≡ Some row
  pub hand : (is_running row || is_in_state ReleasedRun row) ≡ true
  pub again : may_restart_again checkpoint row ≡ true

-- a run on an initiator that ends between its steps
pub record IsBetween (tables : TablesModel) (job : ℕ) (row : RunRow) : Type 0 where
  pub row_at : run_of tables job ≡ Some row
  pub on : is_in_state On row ≡ true
  pub outside : is_within (place_of row) ≡ false

-- one that ends within its step, since this isn't allocated
pub record IsRefused (tables : TablesModel) (job : ℕ) (row : RunRow) (owned : OwnedStep) : Type 0 where
  pub row_at : run_of tables job ≡ Some row
  pub on : is_in_state On row ≡ true
  pub within : is_within (place_of row) ≡ true
  pub found : own_step row ≡ Some owned

-- the tables with a run ended within a step, and the step's dispositions done
abbrev pub after_end_within : RunRow → OwnedStep → ℕ → TablesModel → TablesModel
after_end_within row owned step tables =
    let done = after_dispositions row owned step true tables in
    after_passed_ended (record row { passed = done.passed }) (record tables { sets = done.sets })

-- behind its lengths
abbrev pub after_end_with : RunRow → OwnedStep → ℕ → List ℕ → TablesModel → TablesModel
after_end_with row owned writes lengths tables =
    after_end_within (record row { place = Some (Within (step_in (place_of row)) writes) }) owned (step_in (place_of row)) (after_commit row owned (step_in (place_of row)) writes lengths tables)

-- ---- what is read of the row

module _ {A : Type 0} (layout : Layout) (tables : TablesModel) (job : ℕ) (deck : Option Job) where
  pub row-selected : (initiator earlier step : ℕ) (id : Option Name) → follows layout tables (Selected job initiator earlier step id) deck ≡ true → ((row : RunRow) → IsSelected tables job row → A) → A
  row-selected initiator earlier step id follow use_it =
      tested-run tables job (selected_follows layout tables initiator earlier step id) follow
      (λ row at passes.
      let early = and-first (is_in_state Queued row && is_free layout tables initiator && may_hold tables row) _ passes in
      use_it row (record {
        row_at = at;
        queued = and-first (is_in_state Queued row) (is_free layout tables initiator) (and-first (is_in_state Queued row && is_free layout tables initiator) (may_hold tables row) early);
        holds = and-second (is_in_state Queued row && is_free layout tables initiator) (may_hold tables row) early;
      }))

  -- a step by the lengths that follow
  at-step : (row : RunRow) (lengths : List ℕ) → run_of tables job ≡ Some row → lengths_follow tables row lengths ≡ true → ((owned : OwnedStep) → IsAtStep tables job row owned lengths → A) → A
  at-step row lengths at follow use_it =
      option_map_or-true (own_step row) (λ owned. are_lengths tables.sets (output_names row.job.root owned) lengths) follow (λ owned found are. use_it owned (record { row_at = at; found = found; are = are }))

  at-hand : (row : RunRow) (lengths : List ℕ) → run_of tables job ≡ Some row → ((is_running row || is_in_state ReleasedRun row) && lengths_follow tables row lengths) ≡ true → ((owned : OwnedStep) → IsAtHand tables job row owned lengths → A) → A
  at-hand row lengths at passes use_it =
      at-step row lengths at (and-second (is_running row || is_in_state ReleasedRun row) (lengths_follow tables row lengths) passes)
      (λ owned step. use_it owned (record { at = step; hand = and-first (is_running row || is_in_state ReleasedRun row) (lengths_follow tables row lengths) passes }))

-- a checkpoint's test passes of the row and the step that there are
pub row-checked : (layout : Layout) (tables : TablesModel) (job : ℕ) (deck : Option Job) (taken writes place bytes : ℕ) (id : Name) (lengths : ArrayVec ℕ) → follows layout tables (Checkpointed job id taken writes lengths place bytes) deck ≡ true
    → (row : RunRow) (owned : OwnedStep) → run_of tables job ≡ Some row → own_step row ≡ Some owned → is_checkpoint tables id lengths.items place bytes row owned ≡ true
row-checked layout tables job deck taken writes place bytes id lengths follow row owned at found =
    sym (ap (λ (o : Option OwnedStep). option_map_or (is_checkpoint tables id lengths.items place bytes row) o false) found)
    ∙ and-second (is_running row && lengths_follow tables row lengths.items) (of_step row (is_checkpoint tables id lengths.items place bytes row))
    (sym (ap (λ (o : Option RunRow). option_map_or (λ row. is_running row && lengths_follow tables row lengths.items && of_step row (is_checkpoint tables id lengths.items place bytes row)) o false) at) ∙ follow)

-- ---- what is made of it

module _ (Q : TablesModel → Type 0) (layout : Layout) (tables : TablesModel) (job : ℕ) (deck : Option Job) where
  by-its-step : (row : RunRow) (owned : OwnedStep) (change : RunRow → OwnedStep → ℕ → TablesModel) → run_of tables job ≡ Some row → own_step row ≡ Some owned → Q (change row owned (step_in (place_of row))) → Q (option_map_or (λ row. by_step (λ owned step. change row owned step) row tables) (run_of tables job) tables)
  by-its-step row owned change at found it =
      by-row Q tables job (λ row. by_step (λ owned step. change row owned step) row tables) row at (by-own Q tables (λ owned step. change row owned step) row owned found it)

  -- a run that waits
  pub by-selected : (initiator step : ℕ) (id : Option Name) → follows layout tables (Selected job initiator zero step id) deck ≡ true → ((row : RunRow) → IsSelected tables job row → Q (after_selected row initiator tables)) → Q (after_event (Selected job initiator zero step id) deck tables)
  by-selected initiator step id follow each =
      row-selected layout tables job deck initiator zero step id follow (λ row its. by-row Q tables job (λ row. after_selected row initiator tables) row its.row_at (each row its))

  pub by-denied : (rule : ℕ) (name : Option Name) → follows layout tables (Denied job rule name) deck ≡ true → ((row : RunRow) → run_of tables job ≡ Some row → is_in_state Queued row ≡ true → Q (with_run (record row { state = DeniedRun }) tables)) → Q (after_event (Denied job rule name) deck tables)
  by-denied rule name follow each =
      tested-run tables job (λ row. is_in_state Queued row && is_some row.deck.restart) follow
      (λ row at passes. by-row Q tables job (λ row. with_run (record row { state = DeniedRun }) tables) row at (each row at (and-first (is_in_state Queued row) _ passes)))

  pub by-purged : follows layout tables (Purged job) deck ≡ true → ((row : RunRow) → run_of tables job ≡ Some row → is_in_state Queued row ≡ true → Q (with_run (record row { state = PurgedRun }) tables)) → Q (after_event (Purged job) deck tables)
  by-purged follow each = tested-run tables job (is_in_state Queued) follow (λ row at queued. by-row Q tables job (λ row. with_run (record row { state = PurgedRun }) tables) row at (each row at queued))

  -- a step starts
  pub by-started : (step : ℕ) (items : ArrayVec Made) → follows layout tables (Started job step items) deck ≡ true → ((row : RunRow) (owned : OwnedStep) → IsStarting layout tables job step items.items row owned → Q (after_started row owned step items.items tables)) → Q (after_event (Started job step items) deck tables)
  by-started step items follow each =
      tested-run tables job (started_follows layout tables step items.items) follow
      (λ row at passes.
      option_map_or-true (step_of_run row step) _ (and-second (is_in_state On row) _ passes)
      (λ owned found tests.
      let placed = placed_in table_ways (standing_of row tables) row.job.root owned in
      let early = and-first (may_start step (place_of row) && is_empty (flaws_in placed)) (are_items layout (stamp_of owned step) tables.sets placed items.items) tests in
      by-row Q tables job (λ row. option_map_or (λ owned. after_started row owned step items.items tables) (step_of_run row step) tables) row at
      (by-some Q (step_of_run row step) (λ owned. after_started row owned step items.items tables) tables owned found
      (each row owned (record {
        row_at = at;
        on = and-first (is_in_state On row) _ passes;
        found = found;
        ahead = and-first (may_start step (place_of row)) (is_empty (flaws_in placed)) early;
        flawless = and-second (may_start step (place_of row)) (is_empty (flaws_in placed)) early;
        are = and-second (may_start step (place_of row) && is_empty (flaws_in placed)) (are_items layout (stamp_of owned step) tables.sets placed items.items) tests;
      })))))

  -- what a step has written is committed
  pub by-rewritten : (taken writes place : ℕ) (lengths : ArrayVec ℕ) (image : List ℕ) → follows layout tables (Rewritten job taken writes lengths place image) deck ≡ true → ((row : RunRow) (owned : OwnedStep) → IsRewriting tables job row owned place lengths.items image → Q (after_rewritten row owned (step_in (place_of row)) writes lengths.items tables)) → Q (after_event (Rewritten job taken writes lengths place image) deck tables)
  by-rewritten taken writes place lengths image follow each =
      tested-run tables job (λ row. is_running row && lengths_follow tables row lengths.items && of_step row (is_rewrite tables place image row)) follow
      (λ row at passes.
      let early : (is_running row && lengths_follow tables row lengths.items) ≡ true = and-first (is_running row && lengths_follow tables row lengths.items) (of_step row (is_rewrite tables place image row)) passes in
      at-step layout tables job deck row lengths.items at (and-second (is_running row) (lengths_follow tables row lengths.items) early)
      (λ owned step.
      by-its-step row owned (λ row owned step. after_rewritten row owned step writes lengths.items tables) at step.found
      (each row owned (record {
        at = step;
        runs = and-first (is_running row) (lengths_follow tables row lengths.items) early;
        rewrite = sym (ap (λ (o : Option OwnedStep). option_map_or (is_rewrite tables place image row) o false) step.found) ∙ and-second (is_running row && lengths_follow tables row lengths.items) (of_step row (is_rewrite tables place image row)) passes;
      }))))

  pub by-checkpointed : (taken writes place bytes : ℕ) (id : Name) (lengths : ArrayVec ℕ) → follows layout tables (Checkpointed job id taken writes lengths place bytes) deck ≡ true
      → ((row : RunRow) (owned : OwnedStep) → IsChecking tables job row owned id place bytes lengths.items → Q (after_checkpointed row owned (step_in (place_of row)) (record { id = id; run = job; place = place; bytes = bytes }) taken writes lengths.items tables)) → Q (after_event (Checkpointed job id taken writes lengths place bytes) deck tables)
  by-checkpointed taken writes place bytes id lengths follow each =
      tested-run tables job (λ row. is_running row && lengths_follow tables row lengths.items && of_step row (is_checkpoint tables id lengths.items place bytes row)) follow
      (λ row at passes.
      let early : (is_running row && lengths_follow tables row lengths.items) ≡ true = and-first (is_running row && lengths_follow tables row lengths.items) (of_step row (is_checkpoint tables id lengths.items place bytes row)) passes in
      at-step layout tables job deck row lengths.items at (and-second (is_running row) (lengths_follow tables row lengths.items) early)
      (λ owned step.
      by-its-step row owned (λ row owned step. after_checkpointed row owned step (record { id = id; run = job; place = place; bytes = bytes }) taken writes lengths.items tables) at step.found
      (each row owned (record {
        at = step;
        runs = and-first (is_running row) (lengths_follow tables row lengths.items) early;
        check = sym (ap (λ (o : Option OwnedStep). option_map_or (is_checkpoint tables id lengths.items place bytes row) o false) step.found) ∙ and-second (is_running row && lengths_follow tables row lengths.items) (of_step row (is_checkpoint tables id lengths.items place bytes row)) passes;
      }))))

  pub by-step_ended : (step rc writes : ℕ) (lengths : ArrayVec ℕ) → follows layout tables (StepEnded job step rc writes lengths) deck ≡ true → ((row : RunRow) (owned : OwnedStep) → IsStepDone tables job row owned lengths.items → Q (after_step_ended row owned (step_in (place_of row)) rc writes lengths.items tables)) → Q (after_event (StepEnded job step rc writes lengths) deck tables)
  by-step_ended step rc writes lengths follow each =
      tested-run tables job (λ row. is_running row && step_in (place_of row) == step && lengths_follow tables row lengths.items) follow
      (λ row at passes.
      at-step layout tables job deck row lengths.items at (and-second (is_running row && step_in (place_of row) == step) (lengths_follow tables row lengths.items) passes)
      (λ owned its.
      by-its-step row owned (λ row owned step. after_step_ended row owned step rc writes lengths.items tables) at its.found
      (each row owned (record { at = its; runs = and-first (is_running row) (step_in (place_of row) == step) (and-first (is_running row && step_in (place_of row) == step) (lengths_follow tables row lengths.items) passes) }))))

  pub by-held : (code : Code) (writes : ℕ) (lengths : ArrayVec ℕ) → follows layout tables (Held job code writes lengths) deck ≡ true → ((row : RunRow) (owned : OwnedStep) → IsAtHand tables job row owned lengths.items → Q (after_held row owned (step_in (place_of row)) code writes lengths.items tables)) → Q (after_event (Held job code writes lengths) deck tables)
  by-held code writes lengths follow each =
      tested-run tables job (λ row. (is_running row || is_in_state ReleasedRun row) && lengths_follow tables row lengths.items) follow
      (λ row at passes.
      at-hand layout tables job deck row lengths.items at passes (λ owned its. by-its-step row owned (λ row owned step. after_held row owned step code writes lengths.items tables) at its.at.found (each row owned its)))

  -- its row alone changes
  pub by-cancelled : follows layout tables (Cancelled job) deck ≡ true → ((row : RunRow) → run_of tables job ≡ Some row → is_running row ≡ true → Q (after_cancelled row tables)) → Q (after_event (Cancelled job) deck tables)
  by-cancelled follow each = tested-run tables job is_running follow (λ row at runs. by-row Q tables job (λ row. after_cancelled row tables) row at (each row at runs))

  pub by-released : follows layout tables (Released job) deck ≡ true → ((row : RunRow) → run_of tables job ≡ Some row → is_in_state HeldRun row ≡ true → Q (with_run (record row { state = ReleasedRun }) tables)) → Q (after_event (Released job) deck tables)
  by-released follow each = tested-run tables job (is_in_state HeldRun) follow (λ row at held. by-row Q tables job (λ row. with_run (record row { state = ReleasedRun }) tables) row at (each row at held))

  -- it goes back
  pub by-restarted : (initiator : ℕ) (code : Code) (checkpoint : Bool) → follows layout tables (Restarted job initiator code checkpoint) deck ≡ true → ((row : RunRow) → IsRestarting tables job row checkpoint → Q (by_step (λ owned step. after_restarted row owned step initiator checkpoint tables) row tables)) → Q (after_event (Restarted job initiator code checkpoint) deck tables)
  by-restarted initiator code checkpoint follow each =
      tested-run tables job (λ row. (is_running row && option_eq nat_eq row.initiator (Some initiator) || is_in_state ReleasedRun row && is_free layout tables initiator) && may_restart_again checkpoint row) follow
      (λ row at passes.
      by-row Q tables job (λ row. by_step (λ owned step. after_restarted row owned step initiator checkpoint tables) row tables) row at
      (each row (record {
        row_at = at;
        hand =
            or-cases (is_running row && option_eq nat_eq row.initiator (Some initiator)) (is_in_state ReleasedRun row && is_free layout tables initiator)
            (and-first (is_running row && option_eq nat_eq row.initiator (Some initiator) || is_in_state ReleasedRun row && is_free layout tables initiator) (may_restart_again checkpoint row) passes)
            (λ runs. or_left (is_running row) (is_in_state ReleasedRun row) (and-first (is_running row) _ runs))
            (λ released. or_right (is_running row) (is_in_state ReleasedRun row) (and-first (is_in_state ReleasedRun row) _ released));
        again = and-second (is_running row && option_eq nat_eq row.initiator (Some initiator) || is_in_state ReleasedRun row && is_free layout tables initiator) (may_restart_again checkpoint row) passes;
      })))

  -- it ends
  by-completed : follows layout tables (Ended job Completed) deck ≡ true → ((row : RunRow) → IsBetween tables job row → Q (after_passed_ended row tables)) → Q (after_event (Ended job Completed) deck tables)
  by-completed follow each =
      tested-run tables job (λ row. ended_follows tables row Completed) follow
      (λ row at passes.
      let early : (is_in_state On row && not (is_within (place_of row))) ≡ true = and-first (is_in_state On row && not (is_within (place_of row))) (is_none (own_step row)) passes in
      by-row Q tables job (λ row. after_passed_ended row tables) row at
      (each row (record { row_at = at; on = and-first (is_in_state On row) _ early; outside = not-true (is_within (place_of row)) (and-second (is_in_state On row) _ early) })))

  by-coded : (code : Code) (rule writes : ℕ) (lengths : ArrayVec ℕ) → follows layout tables (Ended job (Coded code rule writes lengths)) deck ≡ true → ((row : RunRow) (owned : OwnedStep) → IsAtHand tables job row owned lengths.items → Q (after_end_with row owned writes lengths.items tables)) → Q (after_event (Ended job (Coded code rule writes lengths)) deck tables)
  by-coded code rule writes lengths follow each =
      tested-run tables job (λ row. ended_follows tables row (Coded code rule writes lengths)) follow
      (λ row at passes.
      at-hand layout tables job deck row lengths.items at passes
      (λ owned its.
      let mid = after_commit row owned (step_in (place_of row)) writes lengths.items tables in
      by-its-step row owned (λ row owned step. after_abnormal (record row { place = Some (Within step writes) }) (Within step writes) (after_commit row owned step writes lengths.items tables)) at its.at.found
      (by-some Q (own_step row) (λ owned. after_end_within (record row { place = Some (Within (step_in (place_of row)) writes) }) owned (step_in (place_of row)) mid) mid owned its.at.found (each row owned its))))

  by-abnormal : (row : RunRow) (owned : OwnedStep) → run_of tables job ≡ Some row → is_in_state On row ≡ true → own_step row ≡ Some owned → (IsBetween tables job row → Q (after_passed_ended row tables)) → (IsRefused tables job row owned → Q (after_end_within row owned (step_in (place_of row)) tables))
      → (place : Place) → place_of row ≡ place → Q (after_abnormal row place tables)
  by-abnormal row owned at on found between within (Before step) stands = between (record { row_at = at; on = on; outside = ap is_within stands })
  by-abnormal row owned at on found between within (Opened step) stands = between (record { row_at = at; on = on; outside = ap is_within stands })
  by-abnormal row owned at on found between within (Within step writes) stands =
      by-some Q (step_of_run row step) (λ owned. after_end_within row owned step tables) tables owned (ap (λ place. step_of_run row (step_in place)) (sym stands) ∙ found)
      (subst (λ n. Q (after_end_within row owned n tables)) (ap step_in stands) (within (record { row_at = at; on = on; within = ap is_within stands; found = found })))

  by-allocation : (dd cause first second : ℕ) → follows layout tables (Ended job (Allocation dd cause first second)) deck ≡ true → ((row : RunRow) → IsBetween tables job row → Q (after_passed_ended row tables)) → ((row : RunRow) (owned : OwnedStep) → IsRefused tables job row owned → Q (after_end_within row owned (step_in (place_of row)) tables)) → Q (after_event (Ended job (Allocation dd cause first second)) deck tables)
  by-allocation dd cause first second follow between within =
      tested-run tables job (λ row. ended_follows tables row (Allocation dd cause first second)) follow
      (λ row at passes.
      option_map_or-true (own_step row) _ (and-second (is_in_state On row) _ passes)
      (λ owned found tests.
      by-row Q tables job (λ row. after_abnormal row (place_of row) tables) row at (by-abnormal row owned at (and-first (is_in_state On row) _ passes) found (between row) (within row owned) (place_of row) refl)))

  pub by-ended : (ending : Ending) → follows layout tables (Ended job ending) deck ≡ true → ((row : RunRow) → IsBetween tables job row → Q (after_passed_ended row tables))
      → ((writes : ℕ) (lengths : List ℕ) (row : RunRow) (owned : OwnedStep) → IsAtHand tables job row owned lengths → Q (after_end_with row owned writes lengths tables))
      → ((row : RunRow) (owned : OwnedStep) → IsRefused tables job row owned → Q (after_end_within row owned (step_in (place_of row)) tables)) → Q (after_event (Ended job ending) deck tables)
  by-ended Completed follow between coded refused = by-completed follow between
  by-ended (Coded code rule writes lengths) follow between coded refused = by-coded code rule writes lengths follow (coded writes lengths.items)
  by-ended (Allocation dd cause first second) follow between coded refused = by-allocation dd cause first second follow between refused
