-- The events of a run leave the data sets that other holders reach.
use Rattle.std.proofs.Common.{◌≡◌, ◌≢◌, ℕ, true, false, cond, List, refl, ap, sym, ◌∙◌, subst, Option, Some}
use Rattle.std.specs.Option.{option_map}
use Rattle.std.proofs.lemmas.Bool.{false≢true}
use Rattle.arrayvec.specs.ArrayVec.{ArrayVec}
use Rattle.ckr_base.specs.declared.code.Code.{Code}
use Rattle.ckr_base.specs.declared.programs.Output.TheVariants.{InPlace}
use Rattle.ckr_base.proofs.Bools.{and-first}
use Rattle.ckr_points_library.specs.Commit.{output_names}
use Rattle.ckr_events.specs.Jobs.{job_of}
use Rattle.ckr_events.specs.declared.event.Event.{Event}
use Rattle.ckr_events.specs.declared.event.Event.TheVariants.{Ended, Held, Rewritten, Selected, Started, StepEnded}
use Rattle.ckr_events.specs.declared.event.Ending.{Ending}
use Rattle.ckr_events.specs.declared.event.Ending.TheVariants.{Allocation, Coded, Completed}
use Rattle.ckr_events.specs.declared.event.Made.{Made}
use Rattle.ckr_jcl.specs.declared.deck.Job.{Job}
use Rattle.ckr_library.specs.NameMaps.{Name, Named, same_name, entry_at}
use Rattle.ckr_library.proofs.Named.{at-with_changed}
use Rattle.ckr_meaning.specs.EffectiveJob.{Effective, OwnedStep, is_among, names_of}
use Rattle.ckr_meaning.specs.declared.place.Place.TheVariants.{Within}
use Rattle.ckr_points.specs.Tables.{after_commit, after_rewritten, after_started, after_step_ended, committed, is_updates, name_with_role, table_rewritten}
use Rattle.ckr_points.specs.Follows.{ended_follows, is_in_state}
use Rattle.ckr_points.specs.declared.run.RunState.TheVariants.{On}
use Rattle.ckr_points.specs.Payload.{carries, writes_in}
use Rattle.ckr_points.specs.Office.{Leg, Office, office_after}
use Rattle.ckr_points.specs.Restart.{after_abnormal, after_ended, place_of}
use Rattle.ckr_points.specs.Rows.{RunRow, TableSet}
use Rattle.ckr_points.specs.Soundness.{may_come}
use Rattle.ckr_points_invariant.specs.Invariant.{IsAgreed, IsHolder, IsKept, step_now}
use Rattle.ckr_points_invariant.specs.RunningSteps.{IsRunning, its_start}
use Rattle.ckr_points_invariant.proofs.Select.Invariant.{chosen}
use Rattle.ckr_points_invariant.proofs.WaitingRuns.{by-selected, follows-of, tested-run}
use Rattle.ckr_points_invariant.proofs.Steps.Commits.{formed_step, in_reach}
use Rattle.ckr_points_invariant.proofs.RunEnd.Event.{committed_office, kept_then, running_then}
use Rattle.ckr_points_invariant.proofs.Holders.SharedSets.{elsewhere}
use Rattle.ckr_points_invariant.proofs.Rewrite.Invariant.{updated-name}
use Rattle.ckr_points_invariant.proofs.Steps.Events.{led-by, on-holds}
use Rattle.ckr_points_invariant.proofs.Start.Event.{by-start}
use Rattle.ckr_volumes.specs.declared.layout.Layout.{Layout}
use Rattle.ckr_desk_refines.specs.Commits.{keeps_sets}
use Rattle.ckr_desk_refines.specs.SharedSets.{LeavesOthers}
use Rattle.ckr_desk_refines.proofs.Durable.OtherSets.{IsLeft, abnormal-left, committed-left, disposed-left, ended-left, left-of, running-leaves, started-left, within-left}
use Rattle.ckr_desk_refines.proofs.Durable.Office.{RewritesNow, behind_end, behind_hold, by-coded, by-held, by-rewritten, by-step-ended, ended-office}
use Rattle.ckr_desk_refines.proofs.Durable.Events.{sets-stay}
use Rattle.ckr_points_invariant.proofs.EventRows.{IsCommitting}

-- the names of a running step are among those that its holder reaches
pub others-of-step : (layout : Layout) (now later : Office) (run number : ℕ) (row : RunRow) (leg : Leg) (owned : OwnedStep) (step writes : ℕ) (name : Name) → IsAgreed layout now → LeavesOthers now run later → IsRunning now number row leg owned step writes → number ≢ run → is_among (names_of leg.job.root owned) name ≡ true → entry_at later.tables.sets name ≡ entry_at now.tables.sets name
others-of-step layout now later run number row leg owned step writes name kept leaves running apart among =
    leaves number row leg name running.holder apart (in_reach layout now number row leg owned step writes kept running name among)

-- ---- the data sets stay as they are

same-tables : (now later : Office) (run : ℕ) → later.tables.sets ≡ now.tables.sets → LeavesOthers now run later
same-tables now later run same number row leg name holder apart among = ap (λ sets. entry_at sets name) same

pub others-quiet : (now : Office) (event : Event) (deck : Option Job) → keeps_sets event ≡ true → LeavesOthers now (job_of event) (office_after (event, deck) now)
others-quiet now (Selected job initiator earlier step id) deck keeps = absurd (false≢true keeps)
others-quiet now (Ended job ending) deck keeps = absurd (false≢true keeps)
others-quiet now event deck keeps = same-tables now (office_after (event, deck) now) (job_of event) (sets-stay event deck now.tables keeps)

pub others-selected : (layout : Layout) (now : Office) (job initiator step : ℕ) (id : Option Name) (deck : Option Job) → IsKept layout now → may_come layout now (Selected job initiator 0 step id, deck) ≡ true → LeavesOthers now job (office_after (Selected job initiator 0 step id, deck) now)
others-selected layout now job initiator step id deck kept may =
    by-selected (LeavesOthers now job) layout now job initiator step id deck kept.events may
    (λ row row_at queued plain free. same-tables now (chosen layout now row initiator kept.events row_at queued plain free) job refl)

-- ---- a holder leaves what its fellows reach

-- what holds where the run of an event leaves the name
by-left : (layout : Layout) (now later : Office) (job : ℕ) (row : RunRow) (leg : Leg) → IsAgreed layout now → IsHolder now job row leg → ((name : Name) → IsLeft leg name → entry_at later.tables.sets name ≡ entry_at now.tables.sets name) → LeavesOthers now job later
by-left layout now later job row leg kept holder each number its fellow name there apart among =
    each name (left-of layout now number job its row fellow leg name kept there holder apart among)

pub others-started : (layout : Layout) (now : Office) (job step : ℕ) (items : ArrayVec Made) (deck : Option Job) → IsKept layout now → may_come layout now (Started job step items, deck) ≡ true → carries layout now (Started job step items) deck ≡ true → LeavesOthers now job (office_after (Started job step items, deck) now)
others-started layout now job step items deck kept may carried =
    by-start (LeavesOthers now job) layout now job step items deck kept.events may carried
    (λ row leg owned starts.
    by-left layout now (record now { tables = after_started row owned step items.items now.tables }) job row leg kept.events starts.holder
    (λ name left. started-left layout now job row leg owned step items.items name kept.events starts left))

module _ (layout : Layout) (now : Office) (job : ℕ) (row : RunRow) (leg : Leg) (owned : OwnedStep) (writes : ℕ) (lengths : List ℕ) (name : Name) (kept : IsAgreed layout now) (commits : IsCommitting now job row leg owned writes lengths) (left : IsLeft leg name) where
  abbrev then : Office
  then = committed_office now row owned writes lengths

  abbrev next : RunRow
  next = record row { place = Some (Within (step_now row) writes) }

  kept_so : IsAgreed layout then
  kept_so = kept_then layout now job row leg owned writes lengths kept commits.at.running commits.commit commits.at.are

  running_so : IsRunning then job next leg owned (step_now row) writes
  running_so = running_then layout now job row leg owned writes lengths kept commits.at.running commits.commit commits.at.are

  committed_so : entry_at then.tables.sets name ≡ entry_at now.tables.sets name
  committed_so = committed-left layout now job row leg owned (step_now row) (writes_in (place_of row)) name kept commits.at.running left lengths

  step_so : (rc : ℕ) → entry_at (after_step_ended row owned (step_now row) rc writes lengths now.tables).sets name ≡ entry_at now.tables.sets name
  step_so rc = disposed-left layout then job next leg owned (step_now row) writes name kept_so running_so left false ∙ committed_so

  coded_so : entry_at (after_abnormal next (Within (step_now row) writes) then.tables).sets name ≡ entry_at now.tables.sets name
  coded_so = within-left layout then job next leg owned (step_now row) writes name kept_so running_so left ∙ committed_so

pub others-step-ended : (layout : Layout) (now : Office) (job step rc writes : ℕ) (lengths : ArrayVec ℕ) (deck : Option Job) → IsKept layout now → may_come layout now (StepEnded job step rc writes lengths, deck) ≡ true → carries layout now (StepEnded job step rc writes lengths) deck ≡ true → LeavesOthers now job (office_after (StepEnded job step rc writes lengths, deck) now)
others-step-ended layout now job step rc writes lengths deck kept may carried =
    by-step-ended (LeavesOthers now job) layout now job step rc writes lengths deck kept.events may carried
    (λ row leg owned commits.
    by-left layout now (record now { tables = after_step_ended row owned (step_now row) rc writes lengths.items now.tables }) job row leg kept.events commits.at.running.holder
    (λ name left. step_so layout now job row leg owned writes lengths.items name kept.events commits left rc))

-- ---- a run is held

pub others-held : (layout : Layout) (now : Office) (job writes : ℕ) (code : Code) (lengths : ArrayVec ℕ) (deck : Option Job) → IsKept layout now → may_come layout now (Held job code writes lengths, deck) ≡ true → carries layout now (Held job code writes lengths) deck ≡ true → LeavesOthers now job (office_after (Held job code writes lengths, deck) now)
others-held layout now job writes code lengths deck kept may carried =
    by-held (LeavesOthers now job) layout now job writes code lengths deck kept.events may carried
    (λ row leg owned commits.
    by-left layout now (behind_hold now code writes lengths.items row owned) job row leg kept.events commits.at.running.holder
    (λ name left. committed_so layout now job row leg owned writes lengths.items name kept.events commits left))

-- ---- a run ends

pub others-coded : (layout : Layout) (now : Office) (job rule writes : ℕ) (code : Code) (lengths : ArrayVec ℕ) (deck : Option Job) → IsKept layout now → may_come layout now (Ended job (Coded code rule writes lengths), deck) ≡ true → carries layout now (Ended job (Coded code rule writes lengths)) deck ≡ true → LeavesOthers now job (office_after (Ended job (Coded code rule writes lengths), deck) now)
others-coded layout now job rule writes code lengths deck kept may carried =
    by-coded (LeavesOthers now job) layout now job rule writes code lengths deck kept.events may carried
    (λ row leg owned commits.
    by-left layout now (behind_end now job (Coded code rule writes lengths) (after_abnormal (record row { place = Some (Within (step_now row) writes) }) (Within (step_now row) writes) (after_commit row owned (step_now row) writes lengths.items now.tables))) job row leg kept.events commits.at.running.holder
    (λ name left. coded_so layout now job row leg owned writes lengths.items name kept.events commits left))

-- with an ending that commits nothing
others-ended : (layout : Layout) (now : Office) (job : ℕ) (ending : Ending) (deck : Option Job) → IsAgreed layout now → may_come layout now (Ended job ending, deck) ≡ true → ((row : RunRow) → ended_follows now.tables row ending ≡ true → is_in_state On row ≡ true)
    → ((row : RunRow) (leg : Leg) (name : Name) → IsHolder now job row leg → IsLeft leg name → entry_at (after_ended row ending now.tables).sets name ≡ entry_at now.tables.sets name) → LeavesOthers now job (office_after (Ended job ending, deck) now)
others-ended layout now job ending deck kept may on each =
    tested-run now.tables job (λ row. ended_follows now.tables row ending) (follows-of layout now (Ended job ending) deck may)
    (λ row e passes.
    led-by layout now job row kept e (on-holds row.state (on row passes))
    (λ leg holder.
    subst (LeavesOthers now job) (sym (ended-office now job ending deck row e))
    (by-left layout now (behind_end now job ending (after_ended row ending now.tables)) job row leg kept holder (λ name left. each row leg name holder left))))

pub others-completed : (layout : Layout) (now : Office) (job : ℕ) (deck : Option Job) → IsKept layout now → may_come layout now (Ended job Completed, deck) ≡ true → LeavesOthers now job (office_after (Ended job Completed, deck) now)
others-completed layout now job deck kept may =
    others-ended layout now job Completed deck kept.events may
    (λ row passes. and-first (is_in_state On row) _ (and-first _ _ passes))
    (λ row leg name holder left. ended-left layout now job row leg name kept.events holder left)

pub others-refused : (layout : Layout) (now : Office) (job dd cause first second : ℕ) (deck : Option Job) → IsKept layout now → may_come layout now (Ended job (Allocation dd cause first second), deck) ≡ true → LeavesOthers now job (office_after (Ended job (Allocation dd cause first second), deck) now)
others-refused layout now job dd cause first second deck kept may =
    others-ended layout now job (Allocation dd cause first second) deck kept.events may
    (λ row passes. and-first (is_in_state On row) _ passes)
    (λ row leg name holder left. abnormal-left layout now job row leg name kept.events holder left)

-- ---- a record is rewritten

rewritten_so : (layout : Layout) (now : Office) (job : ℕ) (row : RunRow) (leg : Leg) (owned : OwnedStep) (writes : ℕ) (lengths : List ℕ) (name : Name) → IsAgreed layout now → RewritesNow now job row leg owned lengths → IsLeft leg name → entry_at (after_rewritten row owned (step_now row) writes lengths now.tables).sets name ≡ entry_at now.tables.sets name
rewritten_so layout now job row leg owned writes lengths name kept rewrites left =
    at-with_changed updated name change done
    ∙ ap (λ b. cond b (option_map change (entry_at done name)) (entry_at done name)) apart
    ∙ committed-left layout now job row leg owned (step_now row) (writes_in (place_of row)) name kept running left lengths
  where
    running : IsRunning now job row leg owned (step_now row) (writes_in (place_of row))
    running = rewrites.running

    updated : Name
    updated = name_with_role row.job.root owned is_updates

    change : TableSet → TableSet
    change = table_rewritten owned.owner (step_now row)

    done : Named TableSet
    done = committed (output_names row.job.root owned) lengths now.tables.sets

    apart : same_name name updated ≡ false
    apart =
        ap (λ (job : Effective). same_name name (name_with_role job.root owned is_updates)) (sym (kept.places job row leg running.holder).job)
        ∙ elsewhere name (its_start leg owned (step_now row)) (InPlace 0) (name_with_role leg.job.root owned is_updates)
        (running-leaves layout now job row leg owned (step_now row) (writes_in (place_of row)) name kept running left) refl
        (updated-name (its_start leg owned (step_now row)) 0 (formed_step layout now job row leg owned (step_now row) (writes_in (place_of row)) kept running) rewrites.updates)

pub others-rewritten : (layout : Layout) (now : Office) (job taken writes place : ℕ) (lengths : ArrayVec ℕ) (image : List ℕ) (deck : Option Job) → IsKept layout now → may_come layout now (Rewritten job taken writes lengths place image, deck) ≡ true → LeavesOthers now job (office_after (Rewritten job taken writes lengths place image, deck) now)
others-rewritten layout now job taken writes place lengths image deck kept may =
    by-rewritten (LeavesOthers now job) layout now job taken writes place lengths image deck kept.events may
    (λ row leg owned rewrites.
    by-left layout now (record now { tables = after_rewritten row owned (step_now row) writes lengths.items now.tables }) job row leg kept.events rewrites.running.holder
    (λ name left. rewritten_so layout now job row leg owned writes lengths.items name kept.events rewrites left))
