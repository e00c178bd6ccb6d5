-- What an event makes of a run, and of the data sets.
use Rattle.std.specs.Prelude.{ℕ, suc, Bool, true, false, List, [], ◌∷◌, ◌++◌, Option, None, Some, map}
use Rattle.std.specs.Option.{option_map, option_map_or}
use Rattle.ckr_points_library.specs.Commit.{committed, output_names}
use Rattle.ckr_points_library.specs.Holdings.{holding_ways}
use Rattle.ckr_events.specs.declared.event.Event.{Event}
use Rattle.ckr_events.specs.declared.event.Event.TheVariants.{Selected, Denied, Started, Rewritten, Checkpointed, Cancelled, StepEnded, Ended, Purged}
use Rattle.ckr_events.specs.declared.event.Ending.{Ending}
use Rattle.ckr_events.specs.declared.event.Ending.TheVariants.{Completed, Coded, Allocation}
use Rattle.ckr_events.specs.declared.event.Made.{Made}
use Rattle.ckr_entry.specs.declared.point.Mark.{Mark}
use Rattle.ckr_library.specs.declared.sets.DataSet.{DataSet}
use Rattle.ckr_library.specs.Catalog.{Holding, fresh_holding, with_kept, with_length}
use Rattle.ckr_library.specs.declared.sets.Kept.{Kept}
use Rattle.ckr_library.specs.NameMaps.{Name, Named, with_changed}
use Rattle.ckr_library.specs.declared.sets.Stamp.{Stamp}
use Rattle.ckr_meaning.specs.StepRun.{rewritten_stamp}
use Rattle.ckr_meaning.specs.LibrarySet.{SetWays}
use Rattle.ckr_meaning.specs.Allotments.{opened_all}
use Rattle.ckr_meaning.specs.Dispositions.{Stock, disposed_all, passed_ended}
use Rattle.ckr_meaning.specs.EffectiveJob.{OwnedStep, name_of, placed_in, stamp_of, step_at}
use Rattle.ckr_meaning.specs.declared.place.Place.{Place}
use Rattle.ckr_meaning.specs.declared.place.Place.TheVariants.{Before, Opened, Within}
use Rattle.ckr_points.specs.declared.run.Run.{Run}
use Rattle.ckr_points.specs.declared.run.RunState.TheVariants.{On, Ended as EndedRun, Denied as DeniedRun, Purged as PurgedRun}
use Rattle.ckr_points_runs.specs.MadeNames.{HasFlags, RunPoints, earlier_flags}
use Rattle.ckr_points_runs.specs.StepEnd.{disposals_at}
use Rattle.ckr_points.specs.Tables.{effect_rewritten, fresh_effect, is_checkpoints, is_updates, kept_entry, name_with_role, point_rewritten, with_kept_entry}
use Rattle.ckr_points_runs.specs.NewSets.{made_from}
use Rattle.ckr_points.specs.Marks.{mark_now, point_at, with_point, without_passed}
use Rattle.ckr_points.specs.Restart.{step_in}
use Rattle.ckr_points.specs.Rows.{EntryPoint, StartPoint, TableSet, TablesModel, cut_set, table_ways, with_run}
use Rattle.ckr_points_runs.specs.RunJobs.{effective}
use Rattle.ckr_points_runs.specs.RunMarks.{point_marks}
use Rattle.ckr_points_runs.specs.View.{RunTableView, Writing, row_with, seen_by, table_of}

-- a run with its line, and the data sets
pub record Going (X : Type 0) : Type 0 where
  pub line : Run
  pub facts : RunTableView
  pub sets : Named X

abbrev pub going : {X : Type 0} → Run → RunTableView → Named X → Going X
going line facts sets = record { line = line; facts = facts; sets = sets }

-- how data sets are changed, cut, made and marked
pub record Kit (X : Type 0) : Type 0 where
  pub ways : SetWays X
  pub cut : ℕ → X → X
  pub fresh : DataSet → X
  pub mark : Named X → Name → Mark
  pub stamp : X → Stamp
  pub keep : Kept → EntryPoint → X → X

-- those of the tables
abbrev pub table_kit : Kit TableSet
table_kit = record {
  ways = table_ways;
  cut = cut_set;
  fresh = λ set. record { set = set; entries = [] };
  mark = mark_now;
  stamp = λ table. table.set.stamp;
  keep = λ kept point table. with_kept_entry (kept_entry kept point) table;
}

-- those of the library
abbrev pub holding_kit : Kit Holding
holding_kit = record {
  ways = holding_ways;
  cut = with_length;
  fresh = fresh_holding;
  mark = λ sets. mark_now (seen_by table_of sets);
  stamp = λ holding. holding.set.stamp;
  keep = λ kept point holding. with_kept kept holding;
}

abbrev pub step_of : {X : Type 0} → Going X → ℕ → Option OwnedStep
step_of now step = step_at (effective now.line.number now.facts.job) step

abbrev pub by_step_of : {X : Type 0} → ℕ → (OwnedStep → Going X) → Going X → Going X
by_step_of step change now = option_map_or change (step_of now step) now

abbrev pub place_now : RunTableView → Place
place_now facts = option_map_or (λ place. place) facts.place (Before 1)

-- the points of a run know of a rewrite in a step, and the run is behind so many writes
abbrev pub rewritten_facts : ℕ → ℕ → RunTableView → RunTableView
rewritten_facts step writes facts = record facts {
  place = Some (Within step writes);
  points = map (point_rewritten step) facts.points;
  in_effect = option_map effect_rewritten facts.in_effect;
}

abbrev pub selected : {X : Type 0} → ℕ → Going X → Going X
selected initiator now =
    record now {
      line = record now.line { state = On; initiator = Some initiator };
      facts = record now.facts { place = Some (Before 1) };
    }

-- no checkpoint is in effect
abbrev pub cancelled : {X : Type 0} → Going X → Going X
cancelled now = record now { facts = record now.facts { in_effect = None } }

-- the entry of a run that begins at this record
abbrev pub kept_by : {X : Type 0} → Going X → Name → ℕ → ℕ → Kept
kept_by now id place bytes = record { id = id; run = now.line.number; place = place; bytes = bytes }

-- a run behind a checkpoint, which is in effect
abbrev pub checkpointed_facts : ℕ → ℕ → Name → Kept → RunTableView → RunTableView
checkpointed_facts step writes set kept facts =
    record facts { place = Some (Within step writes); count = suc facts.count; in_effect = Some (fresh_effect set kept) }

abbrev pub denied : {X : Type 0} → Going X → Going X
denied now = record now { line = record now.line { state = DeniedRun } }

abbrev pub purged : {X : Type 0} → Going X → Going X
purged now = record now { line = record now.line { state = PurgedRun } }

-- the end of a run, which has lost some of the passed names
abbrev pub ended : {X : Type 0} → Going X → Going X
ended now = record {
  line = record now.line { state = EndedRun; initiator = None };
  facts = record now.facts { code = None; passed = []; lost = []; in_effect = None };
  sets = passed_ended (without_passed now.facts.lost now.facts.passed) now.sets;
}

module _ {X : Type 0} (kit : Kit X) where
  -- a step's outputs opened
  abbrev pub opened_by : ℕ → OwnedStep → Going X → Named X
  opened_by step own now =
      opened_all kit.ways (stamp_of own step) (placed_in kit.ways (record { sets = now.sets; passed = now.facts.passed }) now.facts.job.root own) now.sets

  -- the step point of a step that starts
  abbrev pub fresh_point : ℕ → Named X → Going X → StartPoint
  fresh_point step sets now = record {
    step = step;
    restarts = option_map_or (λ (point : StartPoint). point.restarts) (point_at now.facts.points step) 0;
    rewritten = false;
    count = now.facts.count;
    marks = point_marks now.line.number now.facts (kit.mark sets);
    passed = now.facts.passed;
  }

  abbrev pub started : ℕ → List Made → Going X → OwnedStep → Going X
  started step items now own =
      let opened = opened_by step own now in
      record now {
        facts = record now.facts { place = Some (Within step 0); points = with_point (fresh_point step opened now) now.facts.points };
        sets = made_from kit.fresh (stamp_of own step) items (name_of now.facts.job.root own) 1 own.step.dds opened;
      }

  -- the lengths of a step committed
  abbrev pub committed_by : List ℕ → OwnedStep → Going X → Going X
  committed_by lengths own now =
      record now { sets = committed kit.cut (output_names now.facts.job.root own) lengths now.sets }

  -- a data set with the stamp of one more rewrite
  abbrev pub restamped : ℕ → ℕ → X → X
  restamped owner step set = kit.ways.stamped (rewritten_stamp owner step (kit.stamp set)) set

  -- a record of MASTER rewritten: the lengths are committed, and the stamp tells the rewrite
  abbrev pub rewritten : ℕ → ℕ → List ℕ → Going X → OwnedStep → Going X
  rewritten step writes lengths now own =
      going now.line (rewritten_facts step writes now.facts)
      (with_changed (name_with_role now.facts.job.root own is_updates) (restamped own.owner step) (committed_by lengths own now).sets)

  -- the point of a checkpoint, by the data sets
  abbrev pub check_point : ℕ → ℕ → ℕ → Named X → Going X → OwnedStep → EntryPoint
  check_point step taken writes sets now own = record {
    job = now.facts.job.deck.name;
    run = now.line.number;
    owner = own.owner;
    step = step;
    step_name = own.step.name;
    count = suc now.facts.count;
    taken = taken;
    writes = writes;
    marks = point_marks now.line.number now.facts (kit.mark sets);
    passed = now.facts.passed;
  }

  -- a checkpoint: the lengths are committed, and its entry is kept
  abbrev pub checkpointed : ℕ → Kept → ℕ → ℕ → List ℕ → Going X → OwnedStep → Going X
  checkpointed step kept taken writes lengths now own =
      let sets = (committed_by lengths own now).sets in
      let set = name_with_role now.facts.job.root own is_checkpoints in
      going now.line (checkpointed_facts step writes set kept now.facts) (with_changed set (kit.keep kept (check_point step taken writes sets now own)) sets)

  -- what the run wrote with it
  abbrev pub check_writing : ℕ → Kept → ℕ → ℕ → Named X → Going X → OwnedStep → Writing
  check_writing step kept taken writes sets now own = record {
    set = name_with_role now.facts.job.root own is_checkpoints;
    id = kept.id;
    place = kept.place;
    point = check_point step taken writes sets now own;
  }

  -- what a run has written by an event
  abbrev pub written_after : Event → Going X → List Writing → List Writing
  written_after (Checkpointed job id taken writes lengths place bytes) now before =
      let running = step_in (place_now now.facts) in
      option_map_or (λ own. before ++ check_writing running (kept_by now id place bytes) taken writes (committed_by lengths.items own now).sets now own ∷ []) (step_of now running) before
  written_after _ now before = before

  -- a run behind a step that has ended
  abbrev pub gone_on : ℕ → ℕ → Going X → Going X
  gone_on step rc now =
      record now {
        facts = record now.facts { place = Some (Before (suc step)); rcs = now.facts.rcs ++ (step, rc) ∷ []; in_effect = None };
      }

  abbrev pub within : ℕ → ℕ → Going X → Going X
  within step writes now = record now { facts = record now.facts { place = Some (Within step writes) } }

  -- by which of the names of its step the steps before it made
  module _ (earlier : List Bool) where
    -- the dispositions of a step
    abbrev pub disposed_of : ℕ → Bool → OwnedStep → Going X → Stock X
    disposed_of step abnormal own now =
        disposed_all kit.ways (disposals_at now.facts.job.root now.facts.points earlier step abnormal own) (record { sets = now.sets; passed = now.facts.passed })

    abbrev pub disposed : ℕ → Bool → OwnedStep → Going X → Going X
    disposed step abnormal own now =
        let done = disposed_of step abnormal own now in
        record now { facts = record now.facts { passed = done.passed }; sets = done.sets }

    abbrev pub step_ended : ℕ → ℕ → List ℕ → Going X → OwnedStep → Going X
    step_ended step rc lengths now own = gone_on step rc (disposed step false own (committed_by lengths own now))

    -- the end of a run in a step, with its dispositions
    abbrev pub ended_in : ℕ → Going X → OwnedStep → Going X
    ended_in step now own = ended (disposed step true own now)

    abbrev pub ended_at : Place → Going X → Going X
    ended_at (Before step) now = ended now
    ended_at (Opened step) now = ended now
    ended_at (Within step writes) now = by_step_of step (ended_in step now) now

    abbrev pub coded : ℕ → ℕ → List ℕ → Going X → OwnedStep → Going X
    coded step writes lengths now own = ended_in step (within step writes (committed_by lengths own now)) own

    abbrev pub ended_by : Ending → Going X → Going X
    ended_by Completed now = ended now
    ended_by (Coded code rule writes lengths) now =
        let step = step_in (place_now now.facts) in
        by_step_of step (coded step writes lengths.items now) now
    ended_by (Allocation dd cause first second) now = ended_at (place_now now.facts) now

    -- what an event of the run makes of it
    abbrev pub changed : Event → Going X → Going X
    changed (Selected job initiator earlier step id) now = selected initiator now
    changed (Denied job rule name) now = denied now
    changed (Started job step items) now = by_step_of step (started step items.items now) now
    changed (Rewritten job taken writes lengths place image) now =
        let running = step_in (place_now now.facts) in
        by_step_of running (rewritten running writes lengths.items now) now
    changed (Checkpointed job id taken writes lengths place bytes) now =
        let running = step_in (place_now now.facts) in
        by_step_of running (checkpointed running (kept_by now id place bytes) taken writes lengths.items now) now
    changed (Cancelled job) now = cancelled now
    changed (StepEnded job step rc writes lengths) now =
        let running = step_in (place_now now.facts) in
        by_step_of running (step_ended running rc lengths.items now) now
    changed (Ended job ending) now = ended_by ending now
    changed (Purged job) now = purged now
    changed _ now = now

-- which names of the step that a run is before or in the steps before it made
abbrev pub earlier_now : RunPoints → ℕ → RunTableView → List Bool
earlier_now points number facts =
    let step = step_in (place_now facts) in
    let job = effective number facts.job in
    option_map_or (earlier_flags points job.root job.steps step) (step_at job step) []

-- the same for the events that end a step; the others ask for none
abbrev pub earlier_for : Event → RunPoints → ℕ → RunTableView → List Bool
earlier_for (StepEnded job step rc writes lengths) points number facts = earlier_now points number facts
earlier_for (Ended job ending) points number facts = earlier_now points number facts
earlier_for _ points number facts = []

-- one of these for each name of the step, where the event ends it
abbrev pub HasFlagsFor : Event → List Bool → ℕ → RunTableView → Type 0
HasFlagsFor (StepEnded job step rc writes lengths) flags number facts = HasFlags facts.job.root flags (step_at (effective number facts.job) (step_in (place_now facts)))
HasFlagsFor (Ended job ending) flags number facts = HasFlags facts.job.root flags (step_at (effective number facts.job) (step_in (place_now facts)))
HasFlagsFor _ flags number facts = Unit {0}

-- the tables with a run as it was changed, and with the data sets
abbrev pub desk_with : Going TableSet → TablesModel → TablesModel
desk_with now desk = with_run (row_with now.line now.facts) (record desk { sets = now.sets })
