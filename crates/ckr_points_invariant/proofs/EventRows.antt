-- What an event that may come finds of its run: its row, its leg, and the step whose writes it commits. What holds of the tables that it makes of
-- them holds behind the event.
use Rattle.std.proofs.Common.{◌≡◌, ◌≤◌, ℕ, suc, pred, true, false, not, ◌&&◌, ◌||◌, List, length, refl, ap, sym, ◌∙◌, subst, Option, Some, None}
use Rattle.std.specs.Prelude.{◌==◌, nat_le, nat_lt}
use Rattle.std.specs.Option.{is_none, is_some, option_map_or}
use Rattle.std.proofs.lemmas.Bool.{false≢true, not-true}
use Rattle.arrayvec.specs.ArrayVec.{ArrayVec}
use Rattle.ckr_base.specs.declared.code.Code.{Code}
use Rattle.ckr_base.proofs.Bools.{and-first, and-second}
use Rattle.ckr_base.proofs.Numbers.{equal-true, nat_le-true}
use Rattle.ckr_base.proofs.Options.{is_none-true, option-cases}
use Rattle.ckr_events.specs.declared.event.Event.TheVariants.{Cancelled, Checkpointed, Denied, Ended, Held, Purged, Released, Rewritten, StepEnded, Submitted}
use Rattle.ckr_events.specs.declared.event.Ending.{Ending}
use Rattle.ckr_events.specs.declared.event.Ending.TheVariants.{Allocation, Coded, Completed}
use Rattle.ckr_jcl.specs.declared.deck.Job.{Job}
use Rattle.ckr_library.specs.NameMaps.{Name, taken_over}
use Rattle.ckr_meaning.specs.EffectiveJob.{OwnedStep}
use Rattle.ckr_meaning.specs.JobRun.{job_run}
use Rattle.ckr_meaning.specs.StepRun.{StepStart, work_at}
use Rattle.ckr_points_library.specs.Commit.{output_names}
use Rattle.ckr_points.specs.declared.run.RunState.TheVariants.{Queued, On, Held as HeldRun, Released as ReleasedRun, Denied as DeniedRun, Purged as PurgedRun}
use Rattle.ckr_points.specs.Events.{IsNext}
use Rattle.ckr_points.specs.Follows.{are_lengths, ended_follows, is_checkpoint, is_empty, is_in_state, is_rewrite, is_running, is_within, lengths_follow, of_step, own_step, state_number}
use Rattle.ckr_points.specs.Office.{Leg, Office, cut_of, leg_of, library_after, office_after}
use Rattle.ckr_points.specs.Payload.{carries_lengths, carries_rewrite, carries_taken, commits, is_orderly, is_returned, rewrites_nothing, writes_in}
use Rattle.ckr_points.specs.Restart.{after_ended, by_step, place_of, step_in}
use Rattle.ckr_points.specs.Rows.{RunRow, TablesModel, run_of, step_of_run, with_run}
use Rattle.ckr_points.specs.Tables.{after_cancelled, after_checkpointed, after_held, after_rewritten, after_step_ended, after_submitted}
use Rattle.ckr_volumes.specs.declared.layout.Layout.{Layout}
use Rattle.ckr_points_invariant.specs.Invariant.{IsAgreed, IsHolder, step_now}
use Rattle.ckr_points_invariant.specs.RunningSteps.{IsRunning, its_start}
use Rattle.ckr_points_invariant.proofs.Steps.Commits.{carried-of}
use Rattle.ckr_points_invariant.proofs.Steps.Events.{led-by, on-holds, held-holds, running-holds, running-within, step-by, within-is}
use Rattle.ckr_points_invariant.proofs.WaitingRuns.{follows-of, tested-run}
use Rattle.ckr_points.specs.declared.run.RunState.{RunState}

-- a holder in its step, and the lengths of its outputs that an event tells
pub record IsAtStep (now : Office) (job : ℕ) (row : RunRow) (leg : Leg) (owned : OwnedStep) (lengths : List ℕ) : Type 0 where
  pub running : IsRunning now job row leg owned (step_now row) (writes_in (place_of row))
  pub within : is_within (place_of row) ≡ true
  pub are : are_lengths now.tables.sets (output_names row.job.root owned) lengths ≡ true

-- and they are what its job gives behind so many writes
pub record IsCommitting (now : Office) (job : ℕ) (row : RunRow) (leg : Leg) (owned : OwnedStep) (writes : ℕ) (lengths : List ℕ) : Type 0 where
  pub at : IsAtStep now job row leg owned lengths
  pub commit : commits now.tables.sets row writes lengths (its_start leg owned (step_now row)) ≡ true

-- a record that is rewritten as its job has it
pub record IsRewriting (now : Office) (job : ℕ) (row : RunRow) (leg : Leg) (owned : OwnedStep) (taken writes place : ℕ) (lengths image : List ℕ) : Type 0 where
  pub at : IsAtStep now job row leg owned lengths
  pub rewrite : is_rewrite now.tables place image row owned ≡ true
  pub carried :
      (let from = writes_in (place_of row) in
      let start = its_start leg owned (step_now row) in
      nat_lt from writes && rewrites_nothing start from (pred writes) && carries_lengths now.tables.sets writes lengths start
      && carries_taken taken writes start && carries_rewrite now.tables.sets writes place image start) ≡ true

-- a checkpoint that is taken, with the entry that it writes
pub record IsChecking (now : Office) (job : ℕ) (row : RunRow) (leg : Leg) (owned : OwnedStep) (id : Name) (taken writes place bytes : ℕ) (lengths : List ℕ) : Type 0 where
  pub committing : IsCommitting now job row leg owned writes lengths
  pub on : is_running row ≡ true
  pub check : is_checkpoint now.tables id lengths place bytes row owned ≡ true
  pub told : carries_taken taken writes (its_start leg owned (step_now row)) ≡ true
  pub some : 1 ≤ bytes

-- a step that ends behind all its writes
pub record IsStepDone (now : Office) (job : ℕ) (row : RunRow) (leg : Leg) (owned : OwnedStep) (rc writes : ℕ) (lengths : List ℕ) : Type 0 where
  pub committing : IsCommitting now job row leg owned writes lengths
  pub on : is_in_state On row ≡ true
  pub all : writes ≡ length (work_at (its_start leg owned (step_now row))).writes
  pub returned : is_returned rc (work_at (its_start leg owned (step_now row))).finish ≡ true

-- a run that is held within its step
pub record IsHeld (now : Office) (job : ℕ) (row : RunRow) (leg : Leg) : Type 0 where
  pub holder : IsHolder now job row leg
  pub within : is_within (place_of row) ≡ true
  pub is_held : row.state ≡ HeldRun

-- a run that ends behind its last step
pub record IsThrough (now : Office) (job : ℕ) (row : RunRow) (leg : Leg) : Type 0 where
  pub holder : IsHolder now job row leg
  pub outside : is_within (place_of row) ≡ false
  pub none : own_step row ≡ None

-- one that ends since its step isn't allocated
pub record IsRefused (now : Office) (job : ℕ) (row : RunRow) (leg : Leg) (owned : OwnedStep) : Type 0 where
  pub holder : IsHolder now job row leg
  pub found : own_step row ≡ Some owned

-- ---- a run comes

-- the office with a deck submitted
abbrev pub submitted : Office → Job → Office
submitted now deck = record now { tables = after_submitted (suc (length now.tables.runs)) deck now.tables }

pub by-submitted : (Q : Office → Type 0) (layout : Layout) (now : Office) (job : ℕ) (cards : List ℕ) (deck : Option Job) → IsNext layout now (Submitted job cards, deck) → ((deck : Job) → is_orderly (suc (length now.tables.runs)) deck ≡ true → Q (submitted now deck)) → Q (office_after (Submitted job cards, deck) now)
by-submitted Q layout now job cards None next each = absurd (false≢true next.carried)
by-submitted Q layout now job cards (Some deck) next each =
    let number : job ≡ suc (length now.tables.runs) = equal-true job (suc (length now.tables.runs)) (and-first (job == suc (length now.tables.runs)) _ (and-first (job == suc (length now.tables.runs) && not (is_empty cards)) _ (follows-of layout now (Submitted job cards) (Some deck) next.may))) in
    subst (λ n. Q (record now { tables = after_submitted n deck now.tables })) (sym number)
    (each deck (subst (λ n. is_orderly n deck ≡ true) number next.carried))

-- ---- what becomes of a run

held-is : (state : RunState) → (state_number state == 3) ≡ true → state ≡ HeldRun
held-is HeldRun e = refl
held-is _ e = absurd (false≢true e)

module _ (Q : Office → Type 0) (layout : Layout) (now : Office) (kept : IsAgreed layout now) where
  -- ---- the tables by a row, and by a step

  by-its-row : (job : ℕ) (row : RunRow) (change : RunRow → TablesModel) → run_of now.tables job ≡ Some row → Q (record now { tables = change row }) → Q (record now { tables = option_map_or change (run_of now.tables job) now.tables })
  by-its-row job row change e it = subst (λ (o : Option RunRow). Q (record now { tables = option_map_or change o now.tables })) (sym e) it

  by-its-step : (job : ℕ) (row : RunRow) (owned : OwnedStep) (change : RunRow → OwnedStep → ℕ → TablesModel) → run_of now.tables job ≡ Some row → step_of_run row (step_now row) ≡ Some owned → Q (record now { tables = change row owned (step_now row) }) → Q (record now { tables = option_map_or (λ row. by_step (λ owned step. change row owned step) row now.tables) (run_of now.tables job) now.tables })
  by-its-step job row owned change e found it =
      by-its-row job row (λ row. by_step (λ owned step. change row owned step) row now.tables) e
      (subst (λ (o : Option OwnedStep). Q (record now { tables = option_map_or (λ owned. change row owned (step_now row)) o now.tables })) (sym found) it)

  -- the tables and the library behind a run's end
  by-its-end : (job : ℕ) (row : RunRow) (leg : Leg) (ending : Ending) (deck : Option Job) → IsHolder now job row leg → Q (record now { tables = after_ended row ending now.tables; library = taken_over leg.reach (job_run leg.job leg.start (cut_of row ending)) now.library }) → Q (office_after (Ended job ending, deck) now)
  by-its-end job row leg ending deck holder it =
      subst (λ (o : Option RunRow). Q (record now { tables = option_map_or (λ row. after_ended row ending now.tables) o now.tables; library = option_map_or (λ row. library_after now row ending) o now.library })) (sym holder.row_at)
      (subst (λ (o : Option Leg). Q (record now { tables = after_ended row ending now.tables; library = option_map_or (λ leg. taken_over leg.reach (job_run leg.job leg.start (cut_of row ending)) now.library) o now.library }))
      (sym (ap (leg_of now) (kept.numbered job row holder.row_at) ∙ holder.leg_at)) it)

  -- a step by the lengths that follow
  at-step : {A : Type 0} (job : ℕ) (row : RunRow) (lengths : List ℕ) → run_of now.tables job ≡ Some row → (is_running row || is_in_state ReleasedRun row) ≡ true → lengths_follow now.tables row lengths ≡ true → ((leg : Leg) (owned : OwnedStep) → IsAtStep now job row leg owned lengths → A) → A
  at-step job row lengths e runs follow use_it =
      led-by layout now job row kept e (running-holds row runs)
      (λ leg holder.
      step-by now.tables row lengths follow
      (λ owned found are.
      let within : is_within (place_of row) ≡ true = running-within now.tables row leg (kept.places job row leg holder) runs in
      use_it leg owned (record { running = record { holder = holder; stands = within-is (place_of row) within; found = found }; within = within; are = are })))

  -- ---- a run that waits goes

  pub by-purged : (job : ℕ) (deck : Option Job) → IsNext layout now (Purged job, deck) → ((row : RunRow) → run_of now.tables job ≡ Some row → is_in_state Queued row ≡ true → Q (record now { tables = with_run (record row { state = PurgedRun }) now.tables })) → Q (office_after (Purged job, deck) now)
  by-purged job deck next each =
      tested-run now.tables job (is_in_state Queued) (follows-of layout now (Purged job) deck next.may)
      (λ row e queued. by-its-row job row (λ row. with_run (record row { state = PurgedRun }) now.tables) e (each row e queued))

  pub by-denied : (job rule : ℕ) (name : Option Name) (deck : Option Job) → IsNext layout now (Denied job rule name, deck) → ((row : RunRow) → run_of now.tables job ≡ Some row → is_in_state Queued row ≡ true → Q (record now { tables = with_run (record row { state = DeniedRun }) now.tables })) → Q (office_after (Denied job rule name, deck) now)
  by-denied job rule name deck next each =
      tested-run now.tables job (λ row. is_in_state Queued row && is_some row.deck.restart) (follows-of layout now (Denied job rule name) deck next.may)
      (λ row e passes. by-its-row job row (λ row. with_run (record row { state = DeniedRun }) now.tables) e (each row e (and-first (is_in_state Queued row) _ passes)))

  -- ---- a holder's row alone

  pub by-cancelled : (job : ℕ) (deck : Option Job) → IsNext layout now (Cancelled job, deck) → ((row : RunRow) (leg : Leg) → IsHolder now job row leg → is_within (place_of row) ≡ true → Q (record now { tables = after_cancelled row now.tables })) → Q (office_after (Cancelled job, deck) now)
  by-cancelled job deck next each =
      tested-run now.tables job is_running (follows-of layout now (Cancelled job) deck next.may)
      (λ row e runs.
      led-by layout now job row kept e (on-holds row.state (and-first (is_in_state On row) (is_within (place_of row)) runs))
      (λ leg holder. by-its-row job row (λ row. after_cancelled row now.tables) e (each row leg holder (and-second (is_in_state On row) (is_within (place_of row)) runs))))

  pub by-released : (job : ℕ) (deck : Option Job) → IsNext layout now (Released job, deck) → ((row : RunRow) (leg : Leg) → IsHeld now job row leg → Q (record now { tables = with_run (record row { state = ReleasedRun }) now.tables })) → Q (office_after (Released job, deck) now)
  by-released job deck next each =
      tested-run now.tables job (is_in_state HeldRun) (follows-of layout now (Released job) deck next.may)
      (λ row e is_held.
      let state = held-holds row.state is_held in
      led-by layout now job row kept e state.0
      (λ leg holder. by-its-row job row (λ row. with_run (record row { state = ReleasedRun }) now.tables) e (each row leg (record { holder = holder; within = (kept.places job row leg holder).waits state.1; is_held = held-is row.state is_held }))))

  -- ---- what a step has written is committed

  pub by-held : (job writes : ℕ) (code : Code) (lengths : ArrayVec ℕ) (deck : Option Job) → IsNext layout now (Held job code writes lengths, deck) → ((row : RunRow) (leg : Leg) (owned : OwnedStep) → IsCommitting now job row leg owned writes lengths.items → Q (record now { tables = after_held row owned (step_now row) code writes lengths.items now.tables })) → Q (office_after (Held job code writes lengths, deck) now)
  by-held job writes code lengths deck next each =
      tested-run now.tables job (λ row. (is_running row || is_in_state ReleasedRun row) && lengths_follow now.tables row lengths.items) (follows-of layout now (Held job code writes lengths) deck next.may)
      (λ row e passes.
      at-step job row lengths.items e (and-first (is_running row || is_in_state ReleasedRun row) _ passes) (and-second (is_running row || is_in_state ReleasedRun row) _ passes)
      (λ leg owned at.
      by-its-step job row owned (λ row owned step. after_held row owned step code writes lengths.items now.tables) e at.running.found
      (each row leg owned (record { at = at; commit = carried-of layout now job row leg owned (step_now row) (λ row. commits now.tables.sets row writes lengths.items) kept at.running.holder refl at.running.found next.carried }))))

  pub by-rewritten : (job taken writes place : ℕ) (lengths : ArrayVec ℕ) (image : List ℕ) (deck : Option Job) → IsNext layout now (Rewritten job taken writes lengths place image, deck) → ((row : RunRow) (leg : Leg) (owned : OwnedStep) → IsRewriting now job row leg owned taken writes place lengths.items image → Q (record now { tables = after_rewritten row owned (step_now row) writes lengths.items now.tables })) → Q (office_after (Rewritten job taken writes lengths place image, deck) now)
  by-rewritten job taken writes place lengths image deck next each =
      tested-run now.tables job (λ row. is_running row && lengths_follow now.tables row lengths.items && of_step row (is_rewrite now.tables place image row)) (follows-of layout now (Rewritten job taken writes lengths place image) deck next.may)
      (λ row e passes.
      let early : (is_running row && lengths_follow now.tables row lengths.items) ≡ true = and-first (is_running row && lengths_follow now.tables row lengths.items) (of_step row (is_rewrite now.tables place image row)) passes in
      at-step job row lengths.items e (ap (λ b. b || is_in_state ReleasedRun row) (and-first (is_running row) (lengths_follow now.tables row lengths.items) early)) (and-second (is_running row) (lengths_follow now.tables row lengths.items) early)
      (λ leg owned at.
      by-its-step job row owned (λ row owned step. after_rewritten row owned step writes lengths.items now.tables) e at.running.found
      (each row leg owned (record {
        at = at;
        rewrite = sym (ap (λ (o : Option OwnedStep). option_map_or (is_rewrite now.tables place image row) o false) at.running.found) ∙ and-second (is_running row && lengths_follow now.tables row lengths.items) (of_step row (is_rewrite now.tables place image row)) passes;
        carried = carried-of layout now job row leg owned (step_now row) (λ row start. let from = writes_in (place_of row) in nat_lt from writes && rewrites_nothing start from (pred writes) && carries_lengths now.tables.sets writes lengths.items start && carries_taken taken writes start && carries_rewrite now.tables.sets writes place image start) kept at.running.holder refl at.running.found next.carried;
      }))))

  pub by-checkpointed : (job taken writes place bytes : ℕ) (id : Name) (lengths : ArrayVec ℕ) (deck : Option Job) → IsNext layout now (Checkpointed job id taken writes lengths place bytes, deck) → ((row : RunRow) (leg : Leg) (owned : OwnedStep) → IsChecking now job row leg owned id taken writes place bytes lengths.items → Q (record now { tables = after_checkpointed row owned (step_now row) (record { id = id; run = job; place = place; bytes = bytes }) taken writes lengths.items now.tables })) → Q (office_after (Checkpointed job id taken writes lengths place bytes, deck) now)
  by-checkpointed job taken writes place bytes id lengths deck next each =
      tested-run now.tables job (λ row. is_running row && lengths_follow now.tables row lengths.items && of_step row (is_checkpoint now.tables id lengths.items place bytes row)) (follows-of layout now (Checkpointed job id taken writes lengths place bytes) deck next.may)
      (λ row e passes.
      let early : (is_running row && lengths_follow now.tables row lengths.items) ≡ true = and-first (is_running row && lengths_follow now.tables row lengths.items) (of_step row (is_checkpoint now.tables id lengths.items place bytes row)) passes in
      let runs : is_running row ≡ true = and-first (is_running row) (lengths_follow now.tables row lengths.items) early in
      at-step job row lengths.items e (ap (λ b. b || is_in_state ReleasedRun row) runs) (and-second (is_running row) (lengths_follow now.tables row lengths.items) early)
      (λ leg owned at.
      let start : StepStart = its_start leg owned (step_now row) in
      let both : (commits now.tables.sets row writes lengths.items start && carries_taken taken writes start) ≡ true = carried-of layout now job row leg owned (step_now row) (λ row start. commits now.tables.sets row writes lengths.items start && carries_taken taken writes start) kept at.running.holder refl at.running.found (and-second (nat_le 1 bytes) _ next.carried) in
      by-its-step job row owned (λ row owned step. after_checkpointed row owned step (record { id = id; run = job; place = place; bytes = bytes }) taken writes lengths.items now.tables) e at.running.found
      (each row leg owned (record {
        committing = record { at = at; commit = and-first (commits now.tables.sets row writes lengths.items start) (carries_taken taken writes start) both };
        on = runs;
        check = sym (ap (λ (o : Option OwnedStep). option_map_or (is_checkpoint now.tables id lengths.items place bytes row) o false) at.running.found) ∙ and-second (is_running row && lengths_follow now.tables row lengths.items) (of_step row (is_checkpoint now.tables id lengths.items place bytes row)) passes;
        told = and-second (commits now.tables.sets row writes lengths.items start) (carries_taken taken writes start) both;
        some = nat_le-true 1 bytes (and-first (nat_le 1 bytes) _ next.carried);
      }))))

  pub by-step_ended : (job step rc writes : ℕ) (lengths : ArrayVec ℕ) (deck : Option Job) → IsNext layout now (StepEnded job step rc writes lengths, deck) → ((row : RunRow) (leg : Leg) (owned : OwnedStep) → IsStepDone now job row leg owned rc writes lengths.items → Q (record now { tables = after_step_ended row owned (step_now row) rc writes lengths.items now.tables })) → Q (office_after (StepEnded job step rc writes lengths, deck) now)
  by-step_ended job step rc writes lengths deck next each =
      tested-run now.tables job (λ row. is_running row && step_in (place_of row) == step && lengths_follow now.tables row lengths.items) (follows-of layout now (StepEnded job step rc writes lengths) deck next.may)
      (λ row e passes.
      let runs : is_running row ≡ true = and-first (is_running row) (step_in (place_of row) == step) (and-first (is_running row && step_in (place_of row) == step) (lengths_follow now.tables row lengths.items) passes) in
      at-step job row lengths.items e (ap (λ b. b || is_in_state ReleasedRun row) runs) (and-second (is_running row && step_in (place_of row) == step) (lengths_follow now.tables row lengths.items) passes)
      (λ leg owned at.
      let start : StepStart = its_start leg owned (step_now row) in
      let tests : (commits now.tables.sets row writes lengths.items start && writes == length (work_at start).writes && is_returned rc (work_at start).finish) ≡ true =
      carried-of layout now job row leg owned (step_now row) (λ row start. commits now.tables.sets row writes lengths.items start && writes == length (work_at start).writes && is_returned rc (work_at start).finish) kept at.running.holder refl at.running.found next.carried in
      let most : (commits now.tables.sets row writes lengths.items start && writes == length (work_at start).writes) ≡ true = and-first (commits now.tables.sets row writes lengths.items start && writes == length (work_at start).writes) (is_returned rc (work_at start).finish) tests in
      by-its-step job row owned (λ row owned step. after_step_ended row owned step rc writes lengths.items now.tables) e at.running.found
      (each row leg owned (record {
        committing = record { at = at; commit = and-first (commits now.tables.sets row writes lengths.items start) (writes == length (work_at start).writes) most };
        on = and-first (is_in_state On row) (is_within (place_of row)) runs;
        all = equal-true writes (length (work_at start).writes) (and-second (commits now.tables.sets row writes lengths.items start) (writes == length (work_at start).writes) most);
        returned = and-second (commits now.tables.sets row writes lengths.items start && writes == length (work_at start).writes) (is_returned rc (work_at start).finish) tests;
      }))))

  -- ---- a run ends

  pub by-completed : (job : ℕ) (deck : Option Job) → IsNext layout now (Ended job Completed, deck) → ((row : RunRow) (leg : Leg) → IsThrough now job row leg → Q (record now { tables = after_ended row Completed now.tables; library = taken_over leg.reach (job_run leg.job leg.start None) now.library })) → Q (office_after (Ended job Completed, deck) now)
  by-completed job deck next each =
      tested-run now.tables job (λ row. ended_follows now.tables row Completed) (follows-of layout now (Ended job Completed) deck next.may)
      (λ row e passes.
      let early : (is_in_state On row && not (is_within (place_of row))) ≡ true = and-first (is_in_state On row && not (is_within (place_of row))) (is_none (own_step row)) passes in
      led-by layout now job row kept e (on-holds row.state (and-first (is_in_state On row) _ early))
      (λ leg holder.
      by-its-end job row leg Completed deck holder
      (each row leg (record {
        holder = holder;
        outside = not-true (is_within (place_of row)) (and-second (is_in_state On row) _ early);
        none = is_none-true (own_step row) (and-second (is_in_state On row && not (is_within (place_of row))) (is_none (own_step row)) passes);
      }))))

  pub by-coded : (job rule writes : ℕ) (code : Code) (lengths : ArrayVec ℕ) (deck : Option Job) → IsNext layout now (Ended job (Coded code rule writes lengths), deck) → ((row : RunRow) (leg : Leg) (owned : OwnedStep) → IsCommitting now job row leg owned writes lengths.items → Q (record now { tables = after_ended row (Coded code rule writes lengths) now.tables; library = taken_over leg.reach (job_run leg.job leg.start (cut_of row (Coded code rule writes lengths))) now.library })) → Q (office_after (Ended job (Coded code rule writes lengths), deck) now)
  by-coded job rule writes code lengths deck next each =
      tested-run now.tables job (λ row. ended_follows now.tables row (Coded code rule writes lengths)) (follows-of layout now (Ended job (Coded code rule writes lengths)) deck next.may)
      (λ row e passes.
      at-step job row lengths.items e (and-first (is_running row || is_in_state ReleasedRun row) (lengths_follow now.tables row lengths.items) passes) (and-second (is_running row || is_in_state ReleasedRun row) (lengths_follow now.tables row lengths.items) passes)
      (λ leg owned at.
      by-its-end job row leg (Coded code rule writes lengths) deck at.running.holder
      (each row leg owned (record { at = at; commit = carried-of layout now job row leg owned (step_now row) (λ row. commits now.tables.sets row writes lengths.items) kept at.running.holder refl at.running.found next.carried }))))

  pub by-allocation : (job dd cause first second : ℕ) (deck : Option Job) → IsNext layout now (Ended job (Allocation dd cause first second), deck) → ((row : RunRow) (leg : Leg) (owned : OwnedStep) → IsRefused now job row leg owned → Q (record now { tables = after_ended row (Allocation dd cause first second) now.tables; library = taken_over leg.reach (job_run leg.job leg.start (Some (place_of row))) now.library })) → Q (office_after (Ended job (Allocation dd cause first second), deck) now)
  by-allocation job dd cause first second deck next each =
      tested-run now.tables job (λ row. ended_follows now.tables row (Allocation dd cause first second)) (follows-of layout now (Ended job (Allocation dd cause first second)) deck next.may)
      (λ row e passes.
      led-by layout now job row kept e (on-holds row.state (and-first (is_in_state On row) _ passes))
      (λ leg holder.
      option-cases (own_step row)
      (λ none. absurd (false≢true (sym (ap (λ (o : Option OwnedStep). option_map_or (λ owned. nat_le 1 dd && nat_le dd (length owned.step.dds)) o false) none) ∙ and-second (is_in_state On row) _ passes)))
      (λ owned found. by-its-end job row leg (Allocation dd cause first second) deck holder (each row leg owned (record { holder = holder; found = found })))))
