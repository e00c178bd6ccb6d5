-- What an event makes of a run and of the data sets goes through a view of the data sets.
use Rattle.std.proofs.Common.{◌≡◌, ℕ, suc, Bool, true, false, cond, if◌then◌else◌, List, [], ◌∷◌, ◌++◌, map, filter, refl, ap, sym, ◌∙◌, Option, Some, None}
use Rattle.std.specs.Option.{option_map, option_map_or}
use Rattle.ckr_points_library.specs.Commit.{committed, output_names}
use Rattle.ckr_events.specs.declared.event.Event.{Event}
use Rattle.ckr_events.specs.declared.event.Event.TheVariants.{Started, Rewritten, Checkpointed, StepEnded, Ended}
use Rattle.ckr_events.specs.declared.event.Ending.{Ending}
use Rattle.ckr_events.specs.declared.event.Ending.TheVariants.{Completed, Coded, Allocation}
use Rattle.ckr_events.specs.declared.event.Made.{Made}
use Rattle.ckr_entry.specs.declared.point.Mark.{Mark}
use Rattle.ckr_entry.specs.declared.point.Passed.{Passed}
use Rattle.ckr_jcl.specs.declared.deck.Dd.{Dd}
use Rattle.ckr_jcl.specs.declared.deck.After.TheVariants.{Delete}
use Rattle.ckr_library.specs.declared.sets.DataSet.{DataSet}
use Rattle.ckr_library.specs.declared.sets.Stamp.{Stamp}
use Rattle.ckr_library.specs.declared.sets.Kept.{Kept}
use Rattle.ckr_library.specs.Catalog.{Holding, ends_within}
use Rattle.ckr_library.specs.NameMaps.{Name, Named, entry_at, with_changed, with_entry, without_entry}
use Rattle.ckr_library.proofs.Named.{at-viewed as plain-at}
use Rattle.ckr_points_tables.proofs.NamedViews.{at-viewed, viewed, viewed-with_changed, viewed-with_entry}
use Rattle.ckr_meaning.specs.Allotments.{opened_all}
use Rattle.ckr_meaning.specs.Dispositions.{Stock, passed_ended}
use Rattle.ckr_meaning.specs.EffectiveJob.{OwnedStep, is_among, name_of, names_of_job, placed_in, stamp_of}
use Rattle.ckr_meaning.specs.declared.place.Place.{Place}
use Rattle.ckr_meaning.specs.declared.place.Place.TheVariants.{Before, Opened, Within}
use Rattle.ckr_points_tables.proofs.MeaningViews.{GoesThrough, viewed-opened_all, viewed-disposed_all, viewed-placed_in}
use Rattle.ckr_points_runs.specs.RunChange.{Going, Kit, going, by_step_of, changed, check_point, checkpointed, checkpointed_facts, kept_by, committed_by, coded, disposed, ended, ended_at, ended_by, ended_in, fresh_point, gone_on, holding_kit, opened_by, place_now, restamped, rewritten, started, step_ended, step_of, table_kit, within}
use Rattle.ckr_points_runs.specs.StepEnd.{disposals_at}
use Rattle.ckr_meaning.specs.StepRun.{rewritten_stamp}
use Rattle.ckr_points.specs.Tables.{is_checkpoints, is_updates, kept_entry, name_with_role, parts_from}
use Rattle.ckr_points_runs.specs.NewSets.{has_items, made_from, made_named}
use Rattle.ckr_points.specs.Marks.{mark_at, mark_now, marked_under, present_of, with_point, without_passed}
use Rattle.ckr_points.specs.Restart.{step_in}
use Rattle.ckr_points.specs.Rows.{KeptEntry, StartPoint, holding_of}
use Rattle.ckr_points_runs.specs.RunJobs.{effective}
use Rattle.ckr_points_runs.specs.RunMarks.{carried_by, mark_by, own_names_of, point_marks}
use Rattle.ckr_points_tables.specs.View.{Writings, find_last, later_or, point_for, table_in}
use Rattle.ckr_points_runs.specs.View.{seen_by, table_of}
use Rattle.ckr_points_library.specs.Allocation.{fresh_set}

-- marks that are the same by name
pub marked_same : (first second : Name → Mark) → ((name : Name) → first name ≡ second name) → (names : List Name) → marked_under first names ≡ marked_under second names
marked_same first second same [] = refl
marked_same first second same (name ∷ names) =
    ap (λ mark. with_entry name mark (marked_under first names)) (same name) ∙ ap (with_entry name (second name)) (marked_same first second same names)

-- a view that goes through each change
pub record IsKitView {X Y : Type 0} (view : Name → X → Y) (first : Kit X) (second : Kit Y) : Type 0 where
  pub through : GoesThrough view first.ways second.ways
  pub cuts : (name : Name) (most : ℕ) (set : X) → view name (first.cut most set) ≡ second.cut most (view name set)
  pub freshes : (name : Name) (set : DataSet) → view name (first.fresh set) ≡ second.fresh set
  pub marks : (sets : Named X) (name : Name) → first.mark sets name ≡ second.mark (viewed view sets) name
  pub stampings : (name : Name) (set : X) → first.stamp set ≡ second.stamp (view name set)

abbrev pub going_viewed : {X Y : Type 0} → (Name → X → Y) → Going X → Going Y
going_viewed view now = going now.line now.facts (viewed view now.sets)

module _ {X Y : Type 0} (view : Name → X → Y) (first : Kit X) (second : Kit Y) (is : IsKitView view first second) where
  pub committed-seen : (names : List Name) (lengths : List ℕ) (sets : Named X) → viewed view (committed first.cut names lengths sets) ≡ committed second.cut names lengths (viewed view sets)
  committed-seen [] lengths sets = refl
  committed-seen (name ∷ names) [] sets = refl
  committed-seen (name ∷ names) (most ∷ lengths) sets =
      committed-seen names lengths (with_changed name (first.cut most) sets)
      ∙ ap (committed second.cut names lengths) (viewed-with_changed view (first.cut most) (second.cut most) name (is.cuts name most) sets)

  -- to take out a data set is to dispose of it by DELETE
  without-seen : (name : Name) (sets : Named X) → viewed view (without_entry name sets) ≡ without_entry name (viewed view sets)
  without-seen name sets =
      ap (λ (both : Stock Y). both.sets) (viewed-disposed_all view first.ways second.ways is.through (record { name = name; after = Delete; made = false } ∷ []) (record { sets = sets; passed = [] }))

  passed-seen : (passed : List Passed) (sets : Named X) → viewed view (passed_ended passed sets) ≡ passed_ended passed (viewed view sets)
  passed-seen [] sets = refl
  passed-seen (one ∷ passed) sets =
      passed-seen passed (cond one.made (without_entry one.name sets) sets) ∙ ap (passed_ended passed) (by one.made)
    where
      by : (made : Bool) → viewed view (cond made (without_entry one.name sets) sets) ≡ cond made (without_entry one.name (viewed view sets)) (viewed view sets)
      by true = without-seen one.name sets
      by false = refl

  pub named-seen : (stamp : Stamp) (items : List Made) (number : ℕ) (dd : Dd) (found : Option Name) (sets : Named X) → viewed view (made_named first.fresh stamp items number dd found sets) ≡ made_named second.fresh stamp items number dd found (viewed view sets)
  named-seen stamp items number dd None sets = refl
  named-seen stamp items number dd (Some name) sets = by (has_items number items)
    where
      set : DataSet
      set = fresh_set stamp dd (parts_from number items)

      by : (has : Bool) → viewed view (cond has (with_entry name (first.fresh (fresh_set stamp dd (parts_from number items))) sets) sets) ≡ cond has (with_entry name (second.fresh (fresh_set stamp dd (parts_from number items))) (viewed view sets)) (viewed view sets)
      by true = viewed-with_entry view name (first.fresh (fresh_set stamp dd (parts_from number items))) sets ∙ ap (λ entry. with_entry name entry (viewed view sets)) (is.freshes name (fresh_set stamp dd (parts_from number items)))
      by false = refl

  made-seen : (stamp : Stamp) (items : List Made) (named : Dd → Option Name) (number : ℕ) (dds : List Dd) (sets : Named X) → viewed view (made_from first.fresh stamp items named number dds sets) ≡ made_from second.fresh stamp items named number dds (viewed view sets)
  made-seen stamp items named number [] sets = refl
  made-seen stamp items named number (dd ∷ dds) sets =
      made-seen stamp items named (suc number) dds (made_named first.fresh stamp items number dd (named dd) sets)
      ∙ ap (made_from second.fresh stamp items named (suc number) dds) (named-seen stamp items number dd (named dd) sets)

  pub opened-seen : (step : ℕ) (own : OwnedStep) (now : Going X) → viewed view (opened_by first step own now) ≡ opened_by second step own (going_viewed view now)
  opened-seen step own now =
      let before : Stock X = record { sets = now.sets; passed = now.facts.passed } in
      viewed-opened_all view first.ways second.ways is.through (stamp_of own step) (placed_in first.ways before now.facts.job.root own) now.sets
      ∙ ap (λ placed. opened_all second.ways (stamp_of own step) placed (viewed view now.sets)) (viewed-placed_in view first.ways second.ways is.through before now.facts.job.root own)

  -- the marks of a point
  marks-seen-by : (sets : Named X) (now : Going X) → point_marks now.line.number now.facts (first.mark sets) ≡ point_marks now.line.number now.facts (second.mark (viewed view sets))
  marks-seen-by sets now =
      let own = own_names_of now.line.number now.facts.job in
      let carried = carried_by now.facts.points now.facts.job.earlier_step in
      ap (map (λ entry. entry.1))
      (marked_same (mark_by (first.mark sets) own carried) (mark_by (second.mark (viewed view sets)) own carried)
      (λ name. ap (λ mark. if is_among own name then mark else option_map_or (λ other. other) (mark_at carried name) mark) (is.marks sets name))
      (names_of_job (effective now.line.number now.facts.job)))

  point-seen : (step : ℕ) (sets : Named X) (now : Going X) → fresh_point first step sets now ≡ fresh_point second step (viewed view sets) (going_viewed view now)
  point-seen step sets now =
      ap (λ marks. record (fresh_point first step sets now) { marks = marks }) (marks-seen-by sets now)

  started-seen : (step : ℕ) (items : List Made) (now : Going X) (own : OwnedStep) → going_viewed view (started first step items now own) ≡ started second step items (going_viewed view now) own
  started-seen step items now own =
      let opened = opened_by first step own now in
      let others = opened_by second step own (going_viewed view now) in
      let after = λ (point : StartPoint) (sets : Named Y). going now.line (record now.facts { place = Some (Within step 0); points = with_point point now.facts.points }) sets in
      ap (after (fresh_point first step opened now)) (made-seen (stamp_of own step) items (name_of now.facts.job.root own) 1 own.step.dds opened)
      ∙ ap (λ point. after point (made_from second.fresh (stamp_of own step) items (name_of now.facts.job.root own) 1 own.step.dds (viewed view opened))) (point-seen step opened now)
      ∙ ap (λ sets. after (fresh_point second step sets (going_viewed view now)) (made_from second.fresh (stamp_of own step) items (name_of now.facts.job.root own) 1 own.step.dds sets)) (opened-seen step own now)

  disposed-seen : (earlier : List Bool) (step : ℕ) (abnormal : Bool) (own : OwnedStep) (now : Going X) → going_viewed view (disposed first earlier step abnormal own now) ≡ disposed second earlier step abnormal own (going_viewed view now)
  disposed-seen earlier step abnormal own now =
      ap (λ (both : Stock Y). going now.line (record now.facts { passed = both.passed }) both.sets)
      (viewed-disposed_all view first.ways second.ways is.through (disposals_at now.facts.job.root now.facts.points earlier step abnormal own) (record { sets = now.sets; passed = now.facts.passed }))

  committed_by-seen : (lengths : List ℕ) (own : OwnedStep) (now : Going X) → going_viewed view (committed_by first lengths own now) ≡ committed_by second lengths own (going_viewed view now)
  committed_by-seen lengths own now = ap (going now.line now.facts) (committed-seen (output_names now.facts.job.root own) lengths now.sets)

  rewritten-seen : (step writes : ℕ) (lengths : List ℕ) (now : Going X) (own : OwnedStep) → going_viewed view (rewritten first step writes lengths now own) ≡ rewritten second step writes lengths (going_viewed view now) own
  rewritten-seen step writes lengths now own =
      let after = rewritten second step writes lengths (going_viewed view now) own in
      let name = name_with_role now.facts.job.root own is_updates in
      ap (going after.line after.facts)
      (
      viewed-with_changed view (restamped first own.owner step) (restamped second own.owner step) name
      (λ set. is.through.stamps name (rewritten_stamp own.owner step (first.stamp set)) set ∙ ap (λ stamp. second.ways.stamped (rewritten_stamp own.owner step stamp) (view name set)) (is.stampings name set))
      (committed_by first lengths own now).sets
      ∙ ap (with_changed name (restamped second own.owner step)) (committed-seen (output_names now.facts.job.root own) lengths now.sets)
      )

  ended-seen : (now : Going X) → going_viewed view (ended now) ≡ ended (going_viewed view now)
  ended-seen now = ap (going (ended now).line (ended now).facts) (passed-seen (without_passed now.facts.lost now.facts.passed) now.sets)

  step_ended-seen : (earlier : List Bool) (step rc : ℕ) (lengths : List ℕ) (now : Going X) (own : OwnedStep) → going_viewed view (step_ended first earlier step rc lengths now own) ≡ step_ended second earlier step rc lengths (going_viewed view now) own
  step_ended-seen earlier step rc lengths now own =
      ap (gone_on second step rc) (disposed-seen earlier step false own (committed_by first lengths own now) ∙ ap (disposed second earlier step false own) (committed_by-seen lengths own now))

  ended_in-seen : (earlier : List Bool) (step : ℕ) (now : Going X) (own : OwnedStep) → going_viewed view (ended_in first earlier step now own) ≡ ended_in second earlier step (going_viewed view now) own
  ended_in-seen earlier step now own = ended-seen (disposed first earlier step true own now) ∙ ap ended (disposed-seen earlier step true own now)

  coded-seen : (earlier : List Bool) (step writes : ℕ) (lengths : List ℕ) (now : Going X) (own : OwnedStep) → going_viewed view (coded first earlier step writes lengths now own) ≡ coded second earlier step writes lengths (going_viewed view now) own
  coded-seen earlier step writes lengths now own =
      ended_in-seen earlier step (within first step writes (committed_by first lengths own now)) own
      ∙ ap (λ after. ended_in second earlier step (within second step writes after) own) (committed_by-seen lengths own now)

  pub by_step-seen : (step : ℕ) (one : OwnedStep → Going X) (other : OwnedStep → Going Y) → ((own : OwnedStep) → going_viewed view (one own) ≡ other own) → (now : Going X) → going_viewed view (by_step_of step one now) ≡ by_step_of step other (going_viewed view now)
  by_step-seen step one other same now = by (step_of now step)
    where
      by : (found : Option OwnedStep) → going_viewed view (option_map_or one found now) ≡ option_map_or other found (going_viewed view now)
      by None = refl
      by (Some own) = same own

  ended_at-seen : (earlier : List Bool) (place : Place) (now : Going X) → going_viewed view (ended_at first earlier place now) ≡ ended_at second earlier place (going_viewed view now)
  ended_at-seen earlier (Before step) now = ended-seen now
  ended_at-seen earlier (Opened step) now = ended-seen now
  ended_at-seen earlier (Within step writes) now = by_step-seen step (ended_in first earlier step now) (ended_in second earlier step (going_viewed view now)) (ended_in-seen earlier step now) now

  ended_by-seen : (earlier : List Bool) (ending : Ending) (now : Going X) → going_viewed view (ended_by first earlier ending now) ≡ ended_by second earlier ending (going_viewed view now)
  ended_by-seen earlier Completed now = ended-seen now
  ended_by-seen earlier (Coded code rule writes lengths) now =
      let step = step_in (place_now now.facts) in
      by_step-seen step (coded first earlier step writes lengths.items now) (coded second earlier step writes lengths.items (going_viewed view now)) (coded-seen earlier step writes lengths.items now) now
  ended_by-seen earlier (Allocation dd cause one other) now = ended_at-seen earlier (place_now now.facts) now

  -- the point of a checkpoint
  check_point-seen : (step taken writes : ℕ) (sets : Named X) (now : Going X) (own : OwnedStep) → check_point first step taken writes sets now own ≡ check_point second step taken writes (viewed view sets) (going_viewed view now) own
  check_point-seen step taken writes sets now own =
      ap (λ marks. record (check_point first step taken writes sets now own) { marks = marks }) (marks-seen-by sets now)

  -- the entry of a checkpoint is kept with its point
  abbrev pub KeepsIn : ℕ → Kept → ℕ → ℕ → List ℕ → Going X → Option OwnedStep → Type 0
  KeepsIn step kept taken writes lengths now None = Unit {0}
  KeepsIn step kept taken writes lengths now (Some own) =
      let set = name_with_role now.facts.job.root own is_checkpoints in
      let point = check_point first step taken writes (committed_by first lengths own now).sets now own in
      (one : X) → view set (first.keep kept point one) ≡ second.keep kept point (view set one)

  abbrev pub Keeps : Event → Going X → Type 0
  Keeps (Checkpointed job id taken writes lengths place bytes) now =
      let running = step_in (place_now now.facts) in
      KeepsIn running (kept_by now id place bytes) taken writes lengths.items now (step_of now running)
  Keeps _ now = Unit {0}

  checkpointed-seen : (step : ℕ) (kept : Kept) (taken writes : ℕ) (lengths : List ℕ) (now : Going X) (own : OwnedStep) → KeepsIn step kept taken writes lengths now (Some own)
      → going_viewed view (checkpointed first step kept taken writes lengths now own) ≡ checkpointed second step kept taken writes lengths (going_viewed view now) own
  checkpointed-seen step kept taken writes lengths now own keeps =
      let set = name_with_role now.facts.job.root own is_checkpoints in
      let sets = (committed_by first lengths own now).sets in
      let others = (committed_by second lengths own (going_viewed view now)).sets in
      let point = check_point first step taken writes sets now own in
      let seen : viewed view sets ≡ others = committed-seen (output_names now.facts.job.root own) lengths now.sets in
      ap (going now.line (checkpointed_facts step writes set kept now.facts))
      (
      viewed-with_changed view (first.keep kept point) (second.keep kept point) set keeps sets
      ∙ ap (λ one. with_changed set (second.keep kept one) (viewed view sets)) (check_point-seen step taken writes sets now own)
      ∙ ap (λ (all : Named Y). with_changed set (second.keep kept (check_point second step taken writes all (going_viewed view now) own)) all) seen
      )

  checkpointed_by-seen : (step : ℕ) (kept : Kept) (taken writes : ℕ) (lengths : List ℕ) (now : Going X) (there : Option OwnedStep) → KeepsIn step kept taken writes lengths now there
      → going_viewed view (option_map_or (checkpointed first step kept taken writes lengths now) there now) ≡ option_map_or (checkpointed second step kept taken writes lengths (going_viewed view now)) there (going_viewed view now)
  checkpointed_by-seen step kept taken writes lengths now None keeps = refl
  checkpointed_by-seen step kept taken writes lengths now (Some own) keeps = checkpointed-seen step kept taken writes lengths now own keeps

  pub changed_seen : (earlier : List Bool) (event : Event) (now : Going X) → Keeps event now → going_viewed view (changed first earlier event now) ≡ changed second earlier event (going_viewed view now)
  changed_seen earlier (Started job step items) now keeps = by_step-seen step (started first step items.items now) (started second step items.items (going_viewed view now)) (started-seen step items.items now) now
  changed_seen earlier (Rewritten job taken writes lengths place image) now keeps =
      let running = step_in (place_now now.facts) in
      by_step-seen running (rewritten first running writes lengths.items now) (rewritten second running writes lengths.items (going_viewed view now)) (rewritten-seen running writes lengths.items now) now
  changed_seen earlier (Checkpointed job id taken writes lengths place bytes) now keeps =
      let running = step_in (place_now now.facts) in
      checkpointed_by-seen running (kept_by now id place bytes) taken writes lengths.items now (step_of now running) keeps
  changed_seen earlier (StepEnded job step rc writes lengths) now keeps =
      let running = step_in (place_now now.facts) in
      by_step-seen running (step_ended first earlier running rc lengths.items now) (step_ended second earlier running rc lengths.items (going_viewed view now)) (step_ended-seen earlier running rc lengths.items now) now
  changed_seen earlier (Ended job ending) now keeps = ended_by-seen earlier ending now
  changed_seen earlier _ now keeps = refl

-- ---- the views

-- a mark looks at the data set alone
pub marks-seen : (writings : Writings) (sets : Named Holding) (name : Name) → mark_now (seen_by table_of sets) name ≡ mark_now (viewed (table_in writings) sets) name
marks-seen writings sets name =
    ap (λ found. record { name = name; present = option_map present_of found }) (plain-at table_of sets name)
    ∙ ap (λ present. record { name = name; present = present }) (by (entry_at sets name) ∙ ap (option_map present_of) (sym (at-viewed (table_in writings) sets name)))
  where
    by : (found : Option Holding) → option_map present_of (option_map table_of found) ≡ option_map present_of (option_map (table_in writings name) found)
    by None = refl
    by (Some holding) = refl

-- the entries that are cut are those of the points that are cut
cuts-seen : (writings : Writings) (name : Name) (most : ℕ) (kept : List Kept) → map (λ one. kept_entry one (point_for writings name one)) (filter (ends_within most) kept) ≡ filter (λ entry. ends_within most entry.kept) (map (λ one. kept_entry one (point_for writings name one)) kept)
cuts-seen writings name most [] = refl
cuts-seen writings name most (one ∷ kept) =
    elim (ends_within most one) as
    (λ b. map (λ other. kept_entry other (point_for writings name other)) (cond b (one ∷ filter (ends_within most) kept) (filter (ends_within most) kept))
    ≡ cond b (kept_entry one (point_for writings name one) ∷ filter (λ entry. ends_within most entry.kept) (map (λ other. kept_entry other (point_for writings name other)) kept)) (filter (λ entry. ends_within most entry.kept) (map (λ other. kept_entry other (point_for writings name other)) kept))) [
      | true ↦ ap (λ rest. kept_entry one (point_for writings name one) ∷ rest) (cuts-seen writings name most kept)
      | false ↦ cuts-seen writings name most kept
    ]

-- the data sets of the tables are those of the library, with the points of their entries
pub table_view : (writings : Writings) → IsKitView (table_in writings) holding_kit table_kit
table_view writings = record {
  through = record {
    knows = λ name set. refl;
    marks = λ name on set. refl;
    empties = λ name set. ap (λ entries. record { set = record set.set { length = 0 }; entries = entries }) (cuts-seen writings name 0 set.kept);
    stamps = λ name stamp set. refl;
  };
  cuts = λ name most set. ap (λ entries. record { set = record set.set { length = most }; entries = entries }) (cuts-seen writings name most set.kept);
  freshes = λ name set. refl;
  marks = marks-seen writings;
  stampings = λ name set. refl;
}

-- without their points, the data sets of the tables are those of the library
pub held-back : (writings : Writings) (sets : Named Holding) → seen_by holding_of (viewed (table_in writings) sets) ≡ sets
held-back writings [] = refl
held-back writings (entry ∷ sets) =
    ap (λ kept. (entry.0, record { set = entry.1.set; kept = kept }) ∷ seen_by holding_of (viewed (table_in writings) sets)) (unpointed entry.1.kept)
    ∙ ap (λ rest. entry ∷ rest) (held-back writings sets)
  where
    unpointed : (kept : List Kept) → map (λ (one : KeptEntry). one.kept) (map (λ one. kept_entry one (point_for writings entry.0 one)) kept) ≡ kept
    unpointed [] = refl
    unpointed (one ∷ kept) = ap (λ rest. one ∷ rest) (unpointed kept)

-- ---- the writings

pub find_last-behind : {A : Type 0} (p : A → Bool) (items : List A) (item : A) → find_last p (items ++ item ∷ []) ≡ later_or (if p item then Some item else None) (find_last p items)
find_last-behind p [] item = by (p item)
  where
    by : (b : Bool) → cond b (Some item) None ≡ later_or (cond b (Some item) None) None
    by true = refl
    by false = refl
find_last-behind p (first ∷ items) item =
    ap (λ later. later_or later (if p first then Some first else None)) (find_last-behind p items item) ∙ by (p item)
  where
    by : (b : Bool) → later_or (later_or (cond b (Some item) None) (find_last p items)) (if p first then Some first else None) ≡ later_or (cond b (Some item) None) (later_or (find_last p items) (if p first then Some first else None))
    by true = refl
    by false = refl
