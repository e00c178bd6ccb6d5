-- The office behind an event of a step that is running: what holds of the tables behind each such step holds behind the event.
use Rattle.std.proofs.Common.{◌≡◌, ℕ, true, false, List, refl, ap, sym, ◌∙◌, subst, Option, Some}
use Rattle.std.specs.Prelude.{◌&&◌, ◌||◌}
use Rattle.std.specs.Option.{option_map_or}
use Rattle.arrayvec.specs.ArrayVec.{ArrayVec}
use Rattle.ckr_points_library.specs.Commit.{output_names}
use Rattle.ckr_base.specs.declared.code.Code.{Code}
use Rattle.ckr_base.proofs.Bools.{and-first, and-second}
use Rattle.ckr_events.specs.declared.event.Event.TheVariants.{Checkpointed, Ended, Held, Rewritten, StepEnded}
use Rattle.ckr_events.specs.declared.event.Ending.{Ending}
use Rattle.ckr_events.specs.declared.event.Ending.TheVariants.{Coded}
use Rattle.ckr_jcl.specs.declared.deck.Job.{Job}
use Rattle.ckr_library.specs.NameMaps.{Name}
use Rattle.ckr_meaning.specs.EffectiveJob.{OwnedStep}
use Rattle.ckr_meaning.specs.declared.place.Place.TheVariants.{Within}
use Rattle.ckr_points.specs.Tables.{after_checkpointed, after_commit, after_held, after_rewritten, after_step_ended}
use Rattle.ckr_points.specs.Follows.{are_lengths, ended_follows, is_in_state, is_rewrite, is_running, is_update, is_within, lengths_follow, of_step}
use Rattle.ckr_points.specs.declared.run.RunState.TheVariants.{Released as ReleasedRun, On}
use Rattle.ckr_points.specs.Payload.{carries, commits, writes_in}
use Rattle.ckr_points.specs.Office.{Leg, Office, library_after, office_after}
use Rattle.ckr_points.specs.Restart.{after_abnormal, after_ended, by_step, place_of}
use Rattle.ckr_points.specs.Rows.{RunRow, TablesModel, run_of}
use Rattle.ckr_points.specs.Soundness.{may_come}
use Rattle.ckr_points_invariant.specs.Invariant.{IsAgreed, step_now}
use Rattle.ckr_points_invariant.specs.RunningSteps.{IsRunning}
use Rattle.ckr_points_invariant.proofs.EventRows.{IsCommitting, by-step_ended}
use Rattle.ckr_points_invariant.proofs.EventRows as rows
use Rattle.ckr_points_invariant.proofs.WaitingRuns.{follows-of, tested-run}
use Rattle.ckr_points_invariant.proofs.Steps.Commits.{carried-of}
use Rattle.ckr_points_invariant.proofs.Steps.Events.{led-by, on-holds, running-holds, running-within, step-by}
use Rattle.ckr_points_invariant.proofs.Start.Event.{running-so}
use Rattle.ckr_volumes.specs.declared.layout.Layout.{Layout}

pub by-step-ended : (Q : Office → Type 0) (layout : Layout) (office : Office) (job step rc writes : ℕ) (lengths : ArrayVec ℕ) (deck : Option Job) → IsAgreed layout office → may_come layout office (StepEnded job step rc writes lengths, deck) ≡ true → carries layout office (StepEnded job step rc writes lengths) deck ≡ true
    → ((row : RunRow) (leg : Leg) (owned : OwnedStep) → IsCommitting office job row leg owned writes lengths.items → Q (record office { tables = after_step_ended row owned (step_now row) rc writes lengths.items office.tables })) → Q (office_after (StepEnded job step rc writes lengths, deck) office)
by-step-ended Q layout office job step rc writes lengths deck kept may carried each =
    by-step_ended Q layout office kept job step rc writes lengths deck (record { may = may; carried = carried }) (λ row leg owned its. each row leg owned its.committing)

-- the office behind the end of a run, by its tables
abbrev pub behind_end : Office → ℕ → Ending → TablesModel → Office
behind_end office job ending tables = record office { tables = tables; library = option_map_or (λ row. library_after office row ending) (run_of office.tables job) office.library }

pub ended-office : (office : Office) (job : ℕ) (ending : Ending) (deck : Option Job) (row : RunRow) → run_of office.tables job ≡ Some row → office_after (Ended job ending, deck) office ≡ behind_end office job ending (after_ended row ending office.tables)
ended-office office job ending deck row e =
    ap (λ (o : Option RunRow). behind_end office job ending (option_map_or (λ row. after_ended row ending office.tables) o office.tables)) e

pub by-coded : (Q : Office → Type 0) (layout : Layout) (office : Office) (job rule writes : ℕ) (code : Code) (lengths : ArrayVec ℕ) (deck : Option Job) → IsAgreed layout office → may_come layout office (Ended job (Coded code rule writes lengths), deck) ≡ true → carries layout office (Ended job (Coded code rule writes lengths)) deck ≡ true
    → ((row : RunRow) (leg : Leg) (owned : OwnedStep) → IsCommitting office job row leg owned writes lengths.items
    → Q (behind_end office job (Coded code rule writes lengths) (after_abnormal (record row { place = Some (Within (step_now row) writes) }) (Within (step_now row) writes) (after_commit row owned (step_now row) writes lengths.items office.tables)))) → Q (office_after (Ended job (Coded code rule writes lengths), deck) office)
by-coded Q layout office job rule writes code lengths deck kept may carried each =
    tested-run office.tables job (λ row. ended_follows office.tables row (Coded code rule writes lengths)) (follows-of layout office (Ended job (Coded code rule writes lengths)) deck may)
    (λ row e passes.
    let runs : (is_running row || is_in_state ReleasedRun row) ≡ true = and-first (is_running row || is_in_state ReleasedRun row) (lengths_follow office.tables row lengths.items) passes in
    led-by layout office job row kept e (running-holds row runs)
    (λ leg holder.
    step-by office.tables row lengths.items (and-second (is_running row || is_in_state ReleasedRun row) (lengths_follow office.tables row lengths.items) passes)
    (λ owned found are.
    let ending : Ending = Coded code rule writes lengths in
    let same : office_after (Ended job ending, deck) office ≡ behind_end office job ending (after_abnormal (record row { place = Some (Within (step_now row) writes) }) (Within (step_now row) writes) (after_commit row owned (step_now row) writes lengths.items office.tables)) =
    ended-office office job ending deck row e
    ∙ ap (λ (o : Option OwnedStep). behind_end office job ending (option_map_or (λ owned. after_abnormal (record row { place = Some (Within (step_now row) writes) }) (Within (step_now row) writes) (after_commit row owned (step_now row) writes lengths.items office.tables)) o office.tables)) found in
    subst Q (sym same)
    (each row leg owned (record {
      at = record {
        running = running-so layout office job row leg owned holder (running-within office.tables row leg (kept.places job row leg holder) runs) found;
        within = running-within office.tables row leg (kept.places job row leg holder) runs;
        are = are;
      };
      commit = carried-of layout office job row leg owned (step_now row) (λ row. commits office.tables.sets row writes lengths.items) kept holder refl found carried;
    })))))

-- the office behind the hold of a run, by its row and its step
abbrev pub behind_hold : Office → Code → ℕ → List ℕ → RunRow → OwnedStep → Office
behind_hold office code writes lengths row owned = record office { tables = after_held row owned (step_now row) code writes lengths office.tables }

pub by-held : (Q : Office → Type 0) (layout : Layout) (office : Office) (job writes : ℕ) (code : Code) (lengths : ArrayVec ℕ) (deck : Option Job) → IsAgreed layout office → may_come layout office (Held job code writes lengths, deck) ≡ true → carries layout office (Held job code writes lengths) deck ≡ true
    → ((row : RunRow) (leg : Leg) (owned : OwnedStep) → IsCommitting office job row leg owned writes lengths.items → Q (behind_hold office code writes lengths.items row owned)) → Q (office_after (Held job code writes lengths, deck) office)
by-held Q layout office job writes code lengths deck kept may carried each =
    rows.by-held Q layout office kept job writes code lengths deck (record { may = may; carried = carried }) each

-- what is given of a step that has rewritten a record
pub record RewritesNow (office : Office) (job : ℕ) (row : RunRow) (leg : Leg) (owned : OwnedStep) (lengths : List ℕ) : Type 0 where
  pub running : IsRunning office job row leg owned (step_now row) (writes_in (place_of row))
  pub updates : is_update owned.step.program ≡ true
  pub are : are_lengths office.tables.sets (output_names row.job.root owned) lengths ≡ true

pub by-rewritten : (Q : Office → Type 0) (layout : Layout) (office : Office) (job taken writes place : ℕ) (lengths : ArrayVec ℕ) (bytes : List ℕ) (deck : Option Job) → IsAgreed layout office → may_come layout office (Rewritten job taken writes lengths place bytes, deck) ≡ true
    → ((row : RunRow) (leg : Leg) (owned : OwnedStep) → RewritesNow office job row leg owned lengths.items → Q (record office { tables = after_rewritten row owned (step_now row) writes lengths.items office.tables })) → Q (office_after (Rewritten job taken writes lengths place bytes, deck) office)
by-rewritten Q layout office job taken writes place lengths bytes deck kept may each =
    tested-run office.tables job (λ row. is_running row && lengths_follow office.tables row lengths.items && of_step row (is_rewrite office.tables place bytes row)) (follows-of layout office (Rewritten job taken writes lengths place bytes) deck may)
    (λ row e passes.
    let early : (is_running row && lengths_follow office.tables row lengths.items) ≡ true = and-first (is_running row && lengths_follow office.tables row lengths.items) (of_step row (is_rewrite office.tables place bytes row)) passes in
    let runs : is_running row ≡ true = and-first (is_running row) (lengths_follow office.tables row lengths.items) early in
    led-by layout office job row kept e (on-holds row.state (and-first (is_in_state On row) (is_within (place_of row)) runs))
    (λ leg holder.
    step-by office.tables row lengths.items (and-second (is_running row) (lengths_follow office.tables row lengths.items) early)
    (λ owned found are.
    let rewrite : is_rewrite office.tables place bytes row owned ≡ true = sym (ap (λ (o : Option OwnedStep). option_map_or (is_rewrite office.tables place bytes row) o false) found) ∙ and-second (is_running row && lengths_follow office.tables row lengths.items) (of_step row (is_rewrite office.tables place bytes row)) passes in
    let same : office_after (Rewritten job taken writes lengths place bytes, deck) office ≡ record office { tables = after_rewritten row owned (step_now row) writes lengths.items office.tables } =
    ap (λ (o : Option RunRow). (let its : Office = record office { tables = option_map_or (λ row. by_step (λ owned step. after_rewritten row owned step writes lengths.items office.tables) row office.tables) o office.tables } in its)) e
    ∙ ap (λ (o : Option OwnedStep). (let its : Office = record office { tables = option_map_or (λ owned. after_rewritten row owned (step_now row) writes lengths.items office.tables) o office.tables } in its)) found in
    subst Q (sym same)
    (each row leg owned (record {
      running = running-so layout office job row leg owned holder (and-second (is_in_state On row) (is_within (place_of row)) runs) found;
      updates = and-first (is_update owned.step.program) _ rewrite;
      are = are;
    })))))

-- the office behind a checkpoint, by its row and its step
abbrev pub behind_checkpoint : Office → ℕ → Name → ℕ → ℕ → List ℕ → ℕ → ℕ → RunRow → OwnedStep → Office
behind_checkpoint office job id taken writes lengths place bytes row owned =
    record office { tables = after_checkpointed row owned (step_now row) (record { id = id; run = job; place = place; bytes = bytes }) taken writes lengths office.tables }

pub by-checkpointed : (Q : Office → Type 0) (layout : Layout) (office : Office) (job taken writes place bytes : ℕ) (id : Name) (lengths : ArrayVec ℕ) (deck : Option Job) → IsAgreed layout office → may_come layout office (Checkpointed job id taken writes lengths place bytes, deck) ≡ true
    → carries layout office (Checkpointed job id taken writes lengths place bytes) deck ≡ true
    → ((row : RunRow) (leg : Leg) (owned : OwnedStep) → IsCommitting office job row leg owned writes lengths.items → Q (behind_checkpoint office job id taken writes lengths.items place bytes row owned)) → Q (office_after (Checkpointed job id taken writes lengths place bytes, deck) office)
by-checkpointed Q layout office job taken writes place bytes id lengths deck kept may carried each =
    rows.by-checkpointed Q layout office kept job taken writes place bytes id lengths deck (record { may = may; carried = carried }) (λ row leg owned its. each row leg owned its.committing)
