-- The data sets stay laid out behind an event that follows.
use Rattle.std.proofs.Common.{◌≡◌, ℕ, suc, true, false, List, refl, Option, None, Some}
use Rattle.ckr_base.proofs.Bools.{and-second}
use Rattle.ckr_events.specs.declared.event.Made.{Made}
use Rattle.ckr_events.specs.declared.event.Event.{Event}
use Rattle.ckr_events.specs.declared.event.Event.TheVariants.{Submitted, Selected}
use Rattle.ckr_events.specs.Jobs.{job_of}
use Rattle.ckr_jcl.specs.declared.deck.Job.{Job}
use Rattle.ckr_library.specs.declared.sets.Kept.{Kept}
use Rattle.ckr_library.specs.declared.sets.Stamp.{Stamp}
use Rattle.ckr_meaning.specs.EffectiveJob.{OwnedStep, names_of, placed_in, stamp_of}
use Rattle.ckr_meaning.specs.StepRun.{rewritten_stamp}
use Rattle.ckr_meaning.specs.declared.place.Place.TheVariants.{Within}
use Rattle.ckr_volumes.specs.declared.layout.Layout.{Layout}
use Rattle.ckr_volumes.specs.Layouts.{StandsIn}
use Rattle.ckr_desk_plans.specs.Model.Commit.{output_names}
use Rattle.ckr_points.specs.declared.run.RunState.TheVariants.{Held as HeldRun}
use Rattle.ckr_points.specs.Tables.{after_checkpointed, after_commit, after_dispositions, after_rewritten, after_started, after_step_ended, name_with_role, is_checkpoints, is_updates, run_disposals, own_made, earlier_made, table_rewritten}
use Rattle.ckr_points.specs.Follows.{are_lengths, are_made_clear, follows}
use Rattle.ckr_points.specs.Marks.{removed_all, has_passed, made_names, sysout_names, without_passed}
use Rattle.ckr_points.specs.Restart.{after_event, needed_names, place_of, spliced, step_in, without_names}
use Rattle.ckr_points.specs.Rows.{RunRow, TableSet, TablesModel, standing_of, table_ways}
use Rattle.ckr_points.specs.Soundness.{AreLaidOut}
use Rattle.ckr_points_invariant.proofs.Library.Extents.{committed-laid, disposed_all-laid, fit-lengths, laid-changed, made_all-laid, passed_ended-laid}
use Rattle.ckr_points_invariant.proofs.PutBack.Sets.{put_back-laid, removed_all-laid}
use Rattle.ckr_desk_memory.proofs.Continuations.{by-continuation}
use Rattle.ckr_desk_memory.proofs.EventRows.{IsStarting, after_end_within}
use Rattle.ckr_desk_memory.proofs.EventCases.{RunCases, by-run-cases}

-- a data set stands where it stood, with another stamp
stamped_stands : (layout : Layout) (table : TableSet) (stamp : Stamp) → StandsIn layout table.set → StandsIn layout (table_ways.stamped stamp table).set
stamped_stands layout table stamp stands = record {
  volumes_exist = stands.volumes_exist;
  inside = stands.inside;
  apart = stands.apart;
  parts = stands.parts;
  sum = stands.sum;
  length_fits = stands.length_fits;
  lrecl_above = stands.lrecl_above;
  lrecl_below = stands.lrecl_below;
  space_above = stands.space_above;
  space_below = stands.space_below;
}

module _ (layout : Layout) (tables : TablesModel) (laid : AreLaidOut layout tables.sets) where
  abbrev Laid : TablesModel → Type 0
  Laid other = AreLaidOut layout other.sets

  committed_so : (row : RunRow) (owned : OwnedStep) (lengths : List ℕ) → are_lengths tables.sets (output_names row.job.root owned) lengths ≡ true → (step writes : ℕ) → Laid (after_commit row owned step writes lengths tables)
  committed_so row owned lengths are step writes = committed-laid layout (output_names row.job.root owned) lengths tables.sets (fit-lengths tables.sets (output_names row.job.root owned) lengths are) laid

  started_so : (job step : ℕ) (items : List Made) (row : RunRow) (owned : OwnedStep) → IsStarting layout tables job step items row owned → Laid (after_started row owned step items tables)
  started_so job step items row owned its =
      let placed = placed_in table_ways (standing_of row tables) row.job.root owned in
      made_all-laid layout (stamp_of owned step) items placed tables.sets (and-second _ (are_made_clear layout (stamp_of owned step) items placed tables.sets) its.are) laid

  rewritten_so : (row : RunRow) (owned : OwnedStep) (lengths : List ℕ) → are_lengths tables.sets (output_names row.job.root owned) lengths ≡ true → (step writes : ℕ) → Laid (after_rewritten row owned step writes lengths tables)
  rewritten_so row owned lengths are step writes =
      laid-changed layout (name_with_role row.job.root owned is_updates) (table_rewritten owned.owner step) _ (λ table. record { parts = refl; lrecl = refl })
      (λ table e stands. stamped_stands layout table (rewritten_stamp owned.owner step table.set.stamp) stands) (committed_so row owned lengths are step writes)

  checkpointed_so : (row : RunRow) (owned : OwnedStep) (kept : Kept) (taken : ℕ) (lengths : List ℕ) → are_lengths tables.sets (output_names row.job.root owned) lengths ≡ true → (step writes : ℕ) → Laid (after_checkpointed row owned step kept taken writes lengths tables)
  checkpointed_so row owned kept taken lengths are step writes =
      laid-changed layout (name_with_role row.job.root owned is_checkpoints) _ _ (λ table. record { parts = refl; lrecl = refl }) (λ table e stands. stands) (committed_so row owned lengths are step writes)

  step_ended_so : (row : RunRow) (owned : OwnedStep) (rc : ℕ) (lengths : List ℕ) → are_lengths tables.sets (output_names row.job.root owned) lengths ≡ true → (step writes : ℕ) → Laid (after_step_ended row owned step rc writes lengths tables)
  step_ended_so row owned rc lengths are step writes =
      let done = after_commit row owned step writes lengths tables in
      disposed_all-laid layout (run_disposals row owned (own_made row owned step) (earlier_made done row step) false) (standing_of row done) (committed_so row owned lengths are step writes)

  end_within_so : (row : RunRow) (owned : OwnedStep) (step : ℕ) → Laid (after_end_within row owned step tables)
  end_within_so row owned step =
      let done = after_dispositions row owned step true tables in
      passed_ended-laid layout (without_passed row.lost done.passed) done.sets (disposed_all-laid layout (run_disposals row owned (own_made row owned step) (earlier_made tables row step) true) (standing_of row tables) laid)

module _ (layout : Layout) (tables : TablesModel) (laid : AreLaidOut layout tables.sets) where
  -- a run that continues another one: what is put back for it
  continued_so : (job initiator before step : ℕ) (id : Option (List ℕ)) (deck : Option Job) → follows layout tables (Selected job initiator (suc before) step id) deck ≡ true
      → AreLaidOut layout (after_event (Selected job initiator (suc before) step id) deck tables).sets
  continued_so job initiator before step id deck follow =
      by-continuation layout tables job initiator before step deck (Laid layout tables laid) id follow
      (λ its.
      let sysout = sysout_names its.other.job.root its.owned in
      let removed = made_names its.point.marks sysout in
      put_back-laid layout its.point.marks (output_names its.other.job.root its.owned)
      (without_names sysout (needed_names (spliced its.other.job step its.row.number its.row.deck) step its.point.marks)) (removed_all removed tables.sets) (removed_all-laid layout removed tables.sets laid))
      (λ id its entry.
      put_back-laid layout entry.point.marks (output_names its.other.job.root its.owned) (needed_names (spliced its.other.job step its.row.number its.row.deck) step entry.point.marks) tables.sets laid)

  laid-cases : (event : Event) → RunCases layout tables event (Laid layout tables laid)
  laid-cases event = record {
    selected = λ initiator row its. laid;
    gone = λ row state at queued free over. laid;
    started = λ step items row owned its. started_so layout tables laid (job_of event) step items row owned its;
    rewritten = λ writes place lengths image row owned its. rewritten_so layout tables laid row owned lengths its.at.are (step_in (place_of row)) writes;
    checkpointed = λ taken writes place bytes id lengths row owned its. checkpointed_so layout tables laid row owned _ taken lengths its.at.are (step_in (place_of row)) writes;
    withdrawn = λ row at runs. laid;
    step_done = λ rc writes lengths row owned its. step_ended_so layout tables laid row owned rc lengths its.at.are (step_in (place_of row)) writes;
    held = λ code writes lengths row owned with_code its. committed_so layout tables laid (record row { state = HeldRun; initiator = None; code = Some code }) owned lengths its.at.are (step_in (place_of row)) writes;
    released = λ row at held. laid;
    restarted = λ initiator row owned point at hand found began.
        let made = own_made row owned (step_in (place_of row)) in
        put_back-laid layout point.marks (output_names row.job.root owned) (names_of row.job.root owned) (removed_all made tables.sets) (removed_all-laid layout made tables.sets laid);
    goes_back = λ initiator row owned effect entry at hand found now kept. put_back-laid layout entry.point.marks (output_names row.job.root owned) (names_of row.job.root owned) tables.sets laid;
    unmoved = λ row at hand. laid;
    ended = λ row its. passed_ended-laid layout (has_passed row) tables.sets laid;
    coded = λ writes lengths row owned its.
        let step = step_in (place_of row) in
        end_within_so layout (after_commit row owned step writes lengths tables) (committed_so layout tables laid row owned lengths its.at.are step writes) (record row { place = Some (Within step writes) }) owned step;
    refused = λ row owned its. end_within_so layout tables laid row owned (step_in (place_of row));
  }

  -- what an event opens, makes, commits, disposes of and puts back stays laid out
  pub laid-behind : (event : Event) (deck : Option Job) → follows layout tables event deck ≡ true → AreLaidOut layout (after_event event deck tables).sets
  laid-behind (Submitted job cards) None follow = laid
  laid-behind (Submitted job cards) (Some deck) follow = laid
  laid-behind (Selected job initiator (suc before) step id) deck follow = continued_so job initiator before step id deck follow
  laid-behind event deck follow = by-run-cases (Laid layout tables laid) layout tables event deck refl refl follow (laid-cases event)
