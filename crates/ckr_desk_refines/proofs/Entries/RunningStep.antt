-- A run that runs has a data set for each name of its step, and its checkpoint leaves those that other runs reach.
use Rattle.std.proofs.Common.{◌≡◌, ℕ, ◌+◌, Bool, true, false, ◌&&◌, take, List, [], refl, ap, sym, ◌∙◌, subst, Option, Some, None}
use Rattle.std.specs.Prelude.{find}
use Rattle.std.specs.List.{filter_map, list_any}
use Rattle.std.specs.Option.{is_some, option_map, option_map_or}
use Rattle.std.proofs.lemmas.Bool.{false≢true}
use Rattle.std.proofs.lemmas.Option.{same_Some}
use Rattle.arrayvec.specs.ArrayVec.{ArrayVec}
use Rattle.ckr_base.proofs.Bools.{and-first, and-second, bool-cases}
use Rattle.ckr_base.proofs.Options.{is_some-true, some-not-none}
use Rattle.ckr_base.proofs.Sequences.{any-filter_map, find-any, find-passes}
use Rattle.ckr_events.specs.declared.event.Event.{Event}
use Rattle.ckr_events.specs.declared.event.Event.TheVariants.{Checkpointed}
use Rattle.ckr_events.specs.Jobs.{job_of}
use Rattle.ckr_jcl.specs.declared.deck.Dd.{Dd}
use Rattle.ckr_jcl.specs.declared.deck.Job.{Job}
use Rattle.ckr_library.specs.declared.sets.Content.TheVariants.{Checkpoints}
use Rattle.ckr_library.specs.declared.sets.Kept.{Kept}
use Rattle.ckr_library.specs.Catalog.{records_of}
use Rattle.ckr_library.specs.NameMaps.{Name, entry_at, same_name}
use Rattle.ckr_library.proofs.Named.{at-with_changed-other, name-itself, name-same}
use Rattle.ckr_meaning.specs.EffectiveJob.{Effective, OwnedStep, is_among, name_of, names_of}
use Rattle.ckr_meaning.specs.LibrarySet.{LibrarySet}
use Rattle.ckr_meaning.specs.StepRun.{StepStart, made_at, within_at, work_at}
use Rattle.ckr_points_library.specs.Commit.{output_names}
use Rattle.ckr_points.specs.declared.run.RunState.TheVariants.{On}
use Rattle.ckr_points.specs.Follows.{is_checkpoint, is_in_state, is_length_of, is_running, is_within, lengths_follow, of_step, own_step}
use Rattle.ckr_points.specs.Office.{Leg, Office, office_after}
use Rattle.ckr_points.specs.Payload.{writes_in}
use Rattle.ckr_points.specs.Restart.{by_step, place_of}
use Rattle.ckr_points.specs.Rows.{RunRow, TableSet, run_of}
use Rattle.ckr_points.specs.Soundness.{may_come}
use Rattle.ckr_points.specs.Tables.{after_checkpointed, committed, is_checkpoints, name_with_role, with_kept_entry}
use Rattle.ckr_points_invariant.specs.Invariant.{IsAgreed, Shape, set_shape, step_now, table_shape}
use Rattle.ckr_points_invariant.specs.RunningSteps.{IsRunning, its_start}
use Rattle.ckr_points_invariant.proofs.Start.Event.{running-so}
use Rattle.ckr_points_invariant.proofs.Steps.Commits.{alike_within, formed_step, in_reach, under_way}
use Rattle.ckr_points_invariant.proofs.Steps.Events.{led-by, on-holds}
use Rattle.ckr_points_invariant.proofs.WaitingRuns.{follows-of, tested-run}
use Rattle.ckr_points_invariant.proofs.OtherRuns.Sets.{length-among}
use Rattle.ckr_points_invariant.proofs.OtherRuns.Outputs.{not-output}
use Rattle.ckr_volumes.specs.declared.layout.Layout.{Layout}
use Rattle.ckr_desk_turn.proofs.Checkpoints.Content.{within-keeps}
use Rattle.ckr_desk_turn.proofs.Start.Sets.{IsThere, made_at-there, written_all-there}
use Rattle.ckr_desk_turn.proofs.Units.Outputs.{within_at-parts}
use Rattle.ckr_desk_refines.specs.SharedSets.{LeavesOthers}
use Rattle.ckr_desk_refines.proofs.Durable.OtherSets.{IsLeft, committed-left, left-of, running-leaves}
use Rattle.ckr_desk_refines.specs.Entries.{HasCheckDd, HasCheckSet, entry_taken, takes_checkpoint}
use Rattle.ckr_desk_refines.specs.InEffect.{HasStepNames}
use Rattle.ckr_desk_refines.proofs.Entries.EffectEvents.{of-found, tested-some}

some-alike : (entry : Option TableSet) (other : Option LibrarySet) → option_map table_shape entry ≡ option_map set_shape other → is_some other ≡ true → is_some entry ≡ true
some-alike None None alike there = there
some-alike None (Some set) alike there = absurd (some-not-none (set_shape set) (sym alike))
some-alike (Some table) other alike there = refl

content-alike : (table : TableSet) (other : Option LibrarySet) → Some (table_shape table) ≡ option_map set_shape other → ((set : LibrarySet) → other ≡ Some set → set.content ≡ Checkpoints) → table.set.content ≡ Checkpoints
content-alike table None alike keeps = absurd (some-not-none (table_shape table) alike)
content-alike table (Some set) alike keeps = ap (λ (s : Shape). s.content) (same_Some (table_shape table) (set_shape set) alike) ∙ keeps set refl

named-among : (root : ℕ) (owned : OwnedStep) (dds : List Dd) (dd : Dd) (name : Name) → list_any (λ one. option_map_or (same_name name) (name_of root owned one) false) dds ≡ true → is_among (filter_map (name_of root owned) dds) name ≡ true
named-among root owned dds dd name any = any-filter_map (name_of root owned) (same_name name) dds ∙ any

module _ (layout : Layout) (now : Office) (agreed : IsAgreed layout now) (job : ℕ) where
  -- what a run that runs is known by
  pub running-by : {A : Type 0} (row : RunRow) (owned : OwnedStep) → run_of now.tables job ≡ Some row → own_step row ≡ Some owned → is_running row ≡ true → ((leg : Leg) → IsRunning now job row leg owned (step_now row) (writes_in (place_of row)) → A) → A
  running-by row owned e found runs each =
      led-by layout now job row agreed e (on-holds row.state (and-first (is_in_state On row) (is_within (place_of row)) runs))
      (λ leg holder. each leg (running-so layout now job row leg owned holder (and-second (is_in_state On row) (is_within (place_of row)) runs) found))

  pub has-names : ((row : RunRow) → run_of now.tables job ≡ Some row → is_running row ≡ true) → HasStepNames now.tables job
  has-names runs row owned name e found among =
      running-by row owned e found (runs row e)
      (λ leg running.
      let start : StepStart = its_start leg owned (step_now row) in
      let writes : ℕ = writes_in (place_of row) in
      let mine : is_among (names_of leg.job.root owned) name ≡ true = ap (λ (job : Effective). is_among (names_of job.root owned) name) (agreed.places job row leg running.holder).job ∙ among in
      let made : IsThere (made_at start) name = made_at-there start name (under_way layout now job row leg owned (step_now row) writes agreed running).flawless mine in
      some-alike (entry_at now.tables.sets name) (entry_at (within_at start writes) name)
      (alike_within layout now job row leg owned (step_now row) writes agreed running name (in_reach layout now job row leg owned (step_now row) writes agreed running name mine))
      (subst (λ library. IsThere library name) (sym (within_at-parts start writes)) (written_all-there start name (take writes (work_at start).writes) (made_at start) made)))

  -- the data set of its DD for checkpoints is one for checkpoints
  check-content : (row : RunRow) (owned : OwnedStep) (dd : Dd) (name : Name) (table : TableSet) → run_of now.tables job ≡ Some row → own_step row ≡ Some owned → is_running row ≡ true → find (λ one. is_checkpoints one.role) owned.step.dds ≡ Some dd → name_of row.job.root owned dd ≡ Some name → entry_at now.tables.sets name ≡ Some table → table.set.content ≡ Checkpoints
  check-content row owned dd name table e found runs first has at =
      running-by row owned e found runs
      (λ leg running.
      let start : StepStart = its_start leg owned (step_now row) in
      let writes : ℕ = writes_in (place_of row) in
      let its : name_of leg.job.root owned dd ≡ Some name = ap (λ (job : Effective). name_of job.root owned dd) (agreed.places job row leg running.holder).job ∙ has in
      let checks : is_checkpoints dd.role ≡ true = find-passes (λ one. is_checkpoints one.role) owned.step.dds dd first in
      let among : is_among (names_of leg.job.root owned) name ≡ true = named-among leg.job.root owned owned.step.dds dd name (find-any (λ one. is_checkpoints one.role) (λ one. option_map_or (same_name name) (name_of leg.job.root owned one) false) owned.step.dds dd first (ap (λ (o : Option Name). option_map_or (same_name name) o false) its ∙ name-itself name)) in
      content-alike table (entry_at (within_at start writes) name)
      (sym (ap (option_map table_shape) at) ∙ alike_within layout now job row leg owned (step_now row) writes agreed running name (in_reach layout now job row leg owned (step_now row) writes agreed running name among))
      (within-keeps start (formed_step layout now job row leg owned (step_now row) writes agreed running) (under_way layout now job row leg owned (step_now row) writes agreed running).flawless dd name first its checks writes))

  pub has-check-set : ((row : RunRow) → run_of now.tables job ≡ Some row → is_running row ≡ true) → HasCheckDd now.tables job → HasCheckSet now.tables job
  has-check-set runs its row owned table e found at =
      let check = its row owned e found in
      check-content row owned check.dd check.name table e found (runs row e) check.first check.named
      (sym (ap (entry_at now.tables.sets)
      (ap (λ (o : Option Dd). option_map_or (λ dd. option_map_or (λ name. name) (name_of row.job.root owned dd) []) o []) check.first
      ∙ ap (λ (o : Option Name). option_map_or (λ name. name) o []) check.named)) ∙ at)

  -- ---- a checkpoint

  module _ (taken writes place bytes : ℕ) (id : Name) (lengths : ArrayVec ℕ) (deck : Option Job) (may : may_come layout now (Checkpointed job id taken writes lengths place bytes, deck) ≡ true) where
    abbrev kept : Kept
    kept = record { id = id; run = job; place = place; bytes = bytes }

    abbrev test : RunRow → Bool
    test row = is_running row && lengths_follow now.tables row lengths.items && of_step row (is_checkpoint now.tables id lengths.items place bytes row)

    runs-of : (row : RunRow) → test row ≡ true → is_running row ≡ true
    runs-of row passes = and-first (is_running row) (lengths_follow now.tables row lengths.items) (and-first (is_running row && lengths_follow now.tables row lengths.items) (of_step row (is_checkpoint now.tables id lengths.items place bytes row)) passes)

    pub checkpoint-names : HasStepNames now.tables job
    checkpoint-names =
        tested-run now.tables job test (follows-of layout now (Checkpointed job id taken writes lengths place bytes) deck may)
        (λ row e passes. has-names (λ other at. subst (λ (row : RunRow). is_running row ≡ true) (same_Some row other (sym e ∙ at)) (runs-of row passes)))

    pub checkpoint-checks : HasCheckDd now.tables job → HasCheckSet now.tables job
    checkpoint-checks its =
        tested-run now.tables job test (follows-of layout now (Checkpointed job id taken writes lengths place bytes) deck may)
        (λ row e passes. has-check-set (λ other at. subst (λ (row : RunRow). is_running row ≡ true) (same_Some row other (sym e ∙ at)) (runs-of row passes)) its)

    taken-left : (row : RunRow) (leg : Leg) (owned : OwnedStep) (name : Name) → IsRunning now job row leg owned (step_now row) (writes_in (place_of row)) → IsLeft leg name → is_checkpoint now.tables id lengths.items place bytes row owned ≡ true
        → entry_at (after_checkpointed row owned (step_now row) kept taken writes lengths.items now.tables).sets name ≡ entry_at now.tables.sets name
    taken-left row leg owned name running left check =
        at-with_changed-other set name (with_kept_entry (entry_taken now.tables row owned kept taken writes lengths.items)) (committed (output_names row.job.root owned) lengths.items now.tables.sets) apart
        ∙ committed-left layout now job row leg owned (step_now row) (writes_in (place_of row)) name agreed running left lengths.items
      where
        set : Name
        set = name_with_role row.job.root owned is_checkpoints

        among : is_among (output_names row.job.root owned) set ≡ true
        among = length-among set (place + records_of bytes) (output_names row.job.root owned) lengths.items (and-second _ (is_length_of set (place + records_of bytes) (output_names row.job.root owned) lengths.items) check)

        out : is_among (output_names row.job.root owned) name ≡ false
        out =
            ap (λ (job : Effective). is_among (output_names job.root owned) name) (sym (agreed.places job row leg running.holder).job)
            ∙ not-output leg.job.root owned name (running-leaves layout now job row leg owned (step_now row) (writes_in (place_of row)) name agreed running left)

        apart : same_name name set ≡ false
        apart = bool-cases (same_name name set) (λ same. absurd (false≢true (sym out ∙ ap (is_among (output_names row.job.root owned)) (name-same name set same) ∙ among))) (λ e. e)

    pub others-checkpointed : LeavesOthers now job (office_after (Checkpointed job id taken writes lengths place bytes, deck) now)
    others-checkpointed number its fellow name there apart among =
        tested-run now.tables job test (follows-of layout now (Checkpointed job id taken writes lengths place bytes) deck may)
        (λ row e passes.
        is_some-true (own_step row) (tested-some (is_checkpoint now.tables id lengths.items place bytes row) (own_step row) (and-second (is_running row && lengths_follow now.tables row lengths.items) _ passes))
        (λ owned found.
        running-by row owned e found (runs-of row passes)
        (λ leg running.
        ap (λ (o : Option RunRow). entry_at (option_map_or (λ row. by_step (λ owned step. after_checkpointed row owned step kept taken writes lengths.items now.tables) row now.tables) o now.tables).sets name) e
        ∙ ap (λ (o : Option OwnedStep). entry_at (option_map_or (λ owned. after_checkpointed row owned (step_now row) kept taken writes lengths.items now.tables) o now.tables).sets name) found
        ∙ taken-left row leg owned name running (left-of layout now number job its row fellow leg name agreed there running.holder apart among)
        (of-found (is_checkpoint now.tables id lengths.items place bytes row) (own_step row) owned (and-second (is_running row && lengths_follow now.tables row lengths.items) _ passes) found))))

-- of an event that takes a checkpoint
pub event-names : (layout : Layout) (now : Office) → IsAgreed layout now → (event : Event) (deck : Option Job) → may_come layout now (event, deck) ≡ true → takes_checkpoint event ≡ true → HasStepNames now.tables (job_of event)
event-names layout now agreed (Checkpointed job id taken writes lengths place bytes) deck may takes = checkpoint-names layout now agreed job taken writes place bytes id lengths deck may
event-names layout now agreed _ deck may takes = absurd (false≢true takes)
