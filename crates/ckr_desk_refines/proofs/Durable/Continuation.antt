-- What an image has of the data sets goes on where a run is selected that continues another one: what goes back to the point begins as it did, and the
-- rest of the data sets stays, all that another holder reaches with it.
use Rattle.std.proofs.Common.{◌≡◌, ◌≢◌, ◌≤◌, ◌++◌, ℕ, suc, Bool, true, false, cond, not, List, refl, ap, sym, ◌∙◌, subst, Option, Some, None, arith}
use Rattle.std.specs.Prelude.{◌==◌, find}
use Rattle.std.specs.Option.{is_some, option_map_or}
use Rattle.std.proofs.lemmas.Bool.{false≢true}
use Rattle.ckr_base.proofs.Bools.{and-second, bool-cases}
use Rattle.ckr_base.proofs.Numbers.{equal-apart, zero-not-suc}
use Rattle.ckr_base.proofs.Options.{is_some-true, some-one}
use Rattle.ckr_events.specs.declared.event.Event.TheVariants.{Selected}
use Rattle.ckr_jcl.specs.declared.deck.Job.{Job}
use Rattle.ckr_library.specs.NameMaps.{Name, entry_at}
use Rattle.ckr_meaning.specs.EffectiveJob.{Effective, OwnedStep, is_among, names_of, step_at}
use Rattle.ckr_meaning.proofs.Fronts.{begin-step}
use Rattle.ckr_points_library.specs.Commit.{output_names}
use Rattle.ckr_points.specs.Marks.{deck_names, is_marked_absent, lost_names, mark_at, own_names, removed_all, sysout_names}
use Rattle.ckr_points.specs.Office.{Leg, Office, is_holder, leg_by, leg_of, office_after, office_selected, with_leg}
use Rattle.ckr_points.specs.Restart.{Back, after_continued_at, after_entry_continued, after_event, after_put_back, continued_row, deferred_entry, deferred_start, kept_at, needed_names, sets_back, spliced, step_in, syschk_name}
use Rattle.ckr_points.specs.Rows.{EffectPoint, KeptEntry, RunRow, TableSet, TablesModel, run_of}
use Rattle.ckr_points.specs.Tables.{fresh_effect}
use Rattle.ckr_points.specs.Soundness.{may_come}
use Rattle.ckr_points_invariant.specs.Invariant.{IsAgreed, IsAtPlace, IsHolder, IsKept}
use Rattle.ckr_points_invariant.specs.EarlierRuns.{IsEntryOf, MayContinue}
use Rattle.ckr_points_invariant.proofs.Continuations.Follows.{after-selected, may-continue}
use Rattle.ckr_points_invariant.proofs.Continuations.Fronts.{begins-alike}
use Rattle.ckr_points_invariant.proofs.Continuations.SysoutNames.{sysout-listed}
use Rattle.ckr_points_invariant.proofs.Holders.Places.{outputs-among}
use Rattle.ckr_points_invariant.proofs.Holders.Rows.{run-other, run-same}
use Rattle.ckr_points_invariant.proofs.Marks.Points.{among-filter}
use Rattle.ckr_points_invariant.proofs.PutBack.Sets.{at-removed_all, put_back-apart}
use Rattle.ckr_points_invariant.proofs.Select.Holders.{leg_there}
use Rattle.ckr_points_invariant.proofs.WaitingRuns.{follows-of}
use Rattle.ckr_volumes.specs.declared.layout.Layout.{Layout}
use Rattle.ckr_desk_refines.specs.Commits.{HasCommitted}
use Rattle.ckr_desk_refines.specs.SharedSets.{LeavesOthers}
use Rattle.ckr_desk_refines.proofs.Durable.Events.{all-stay}
use Rattle.ckr_desk_refines.proofs.Durable.Restart.{back-from}
use Rattle.ckr_desk_refines.proofs.Durable.Stamps.{LegsStay}
use Rattle.ckr_desk_refines.proofs.Durable.StepEnd.{StaysFrom}
use Rattle.ckr_desk_turn.proofs.Deferred.Desks.{leg-number}

-- ---- the legs behind a selection

-- other runs keep theirs
pub legs-apart : (now : Office) (tables : TablesModel) (job : ℕ) → ((row : RunRow) → run_of tables job ≡ Some row → row.number ≡ job) → (run : ℕ) → run ≢ job → leg_of (office_selected now job tables) run ≡ leg_of now run
legs-apart now tables job numbered run apart = by (run_of tables job) refl
  where
    by : (o : Option RunRow) → run_of tables job ≡ o → find (λ (leg : Leg). leg.number == run) (option_map_or (λ (row : RunRow). with_leg (leg_by now row row.earlier) now.legs) o now.legs) ≡ leg_of now run
    by None e = refl
    by (Some row) e =
        leg_there (leg_by now row row.earlier) run now.legs
        (equal-apart (leg_by now row row.earlier).number run (λ same. apart (sym same ∙ leg-number now row row.earlier ∙ numbered row e)))

-- ---- the tables behind the event

-- A run goes back so to continue another one at a step: what it needs are names of its own steps, and what it removes are names of this step.
pub record GoesBack (job step : ℕ) (owned : OwnedStep) (row : RunRow) (back : Back) : Type 0 where
  pub number : row.number ≡ job
  pub holds : is_holder row.state ≡ true
  pub restart : is_some row.deck.restart ≡ true
  pub stands : step_in back.place ≡ step
  pub found : step_at row.job step ≡ Some owned
  pub needed : (name : Name) → is_among back.needed name ≡ true → is_among (own_names row) name ≡ true
  pub removed : (name : Name) → is_among back.removed name ≡ true → is_among (names_of row.job.root owned) name ≡ true

-- the passed names that a run loses where it goes back so
abbrev pub lost_by : RunRow → OwnedStep → Back → TablesModel → List Name
lost_by row owned back tables = lost_names back.marks (own_names row ++ deck_names row.job.root row.number row.deck) (sets_back row owned back tables.sets) back.passed

module _ (layout : Layout) (now : Office) (kept : IsAgreed layout now) (job initiator before step : ℕ) where
  -- the step of the earlier run is one of the run's own job
  pub step-spliced : (id : Option Name) (its : MayContinue layout now.tables job initiator (suc before) step id) → step_at (spliced its.other.job step its.row.number its.row.deck) step ≡ Some its.owned
  step-spliced id its =
      begin-step step (spliced its.other.job step its.row.number its.row.deck) its.other.job _ _
      (begins-alike its.other.job now.library now.library step its.row.number its.row.deck its.owned its.found) step (omega arith)
      ∙ its.found

  module _ (id : Option Name) (its : MayContinue layout now.tables job initiator (suc before) step id) where
    -- its row before it goes back
    abbrev pub row_before : RunRow
    row_before = continued_row its.row its.other step its.point initiator now.tables.sets

    abbrev start_back : Back
    start_back = deferred_start row_before its.owned step its.point

    pub row-number : its.row.number ≡ job
    row-number = kept.numbered job its.row its.row_at

    -- it waited, so it had no leg
    pub unled : leg_of now job ≡ None
    unled = ap (leg_of now) (sym row-number) ∙ (kept.waiting job its.row its.row_at its.queued).alone

    start-goes : (lost : List Name) → GoesBack job step its.owned (record row_before { lost = lost }) start_back
    start-goes lost = record {
      number = row-number;
      holds = refl;
      restart = ap is_some its.has;
      stands = refl;
      found = step-spliced id its;
      needed = λ name among.
          and-second (is_some (mark_at its.point.marks name)) _
          (sym (among-filter (λ name. is_some (mark_at its.point.marks name)) (own_names row_before) name)
          ∙ and-second (not (is_among (sysout_names its.other.job.root its.owned) name)) _
          (sym (among-filter (λ name. not (is_among (sysout_names its.other.job.root its.owned) name)) (needed_names row_before.job step its.point.marks) name) ∙ among));
      removed = λ name among.
          sysout-listed its.other.job.root its.owned name its.owned.step.dds
          (and-second (is_marked_absent its.point.marks name) _ (sym (among-filter (is_marked_absent its.point.marks) (sysout_names its.other.job.root its.owned) name) ∙ among));
    }

    entry-goes : (entry : KeptEntry) (lost : List Name) (effect : Option EffectPoint) → GoesBack job step its.owned (record row_before { lost = lost; in_effect = effect }) (deferred_entry row_before step entry.point)
    entry-goes entry lost effect = record {
      number = row-number;
      holds = refl;
      restart = ap is_some its.has;
      stands = refl;
      found = step-spliced id its;
      needed = λ name among. and-second (is_some (mark_at entry.point.marks name)) _ (sym (among-filter (λ name. is_some (mark_at entry.point.marks name)) (own_names row_before) name) ∙ among);
      removed = λ name among. absurd (false≢true among);
    }

  by-point : (Q : TablesModel → Type 0) (id : Option Name) (its : MayContinue layout now.tables job initiator (suc before) step id) → ((row : RunRow) (back : Back) → GoesBack job step its.owned row back → Q (after_put_back row its.owned back now.tables))
      → Q (after_continued_at (row_before id its) its.owned step its.point id now.tables)
  by-point Q None its each =
      let lost : List Name = lost_by (row_before None its) its.owned (start_back None its) now.tables in
      each (record (row_before None its) { lost = lost }) (start_back None its) (start-goes None its lost)
  by-point Q (Some id) its each = by (kept_at now.tables.sets (syschk_name its.row.deck) id) its.entry
    where
      by : (entry : Option KeptEntry) → IsEntryOf its.other step (Some id) entry
          → Q (option_map_or (λ entry. after_entry_continued (row_before (Some id) its) its.owned step (syschk_name its.row.deck) entry now.tables) entry now.tables)
      by None of_run = absurd of_run
      by (Some entry) of_run =
          let effect : Option EffectPoint = Some (fresh_effect (syschk_name its.row.deck) entry.kept) in
          let back : Back = deferred_entry (row_before (Some id) its) step entry.point in
          let lost : List Name = lost_by (record (row_before (Some id) its) { in_effect = effect }) its.owned back now.tables in
          each (record (row_before (Some id) its) { lost = lost; in_effect = effect }) back (entry-goes (Some id) its entry lost effect)

-- what holds of the tables where the run has gone back holds behind the event
module _ (layout : Layout) (now : Office) (kept : IsAgreed layout now) (job initiator before step : ℕ) (id : Option Name) (deck : Option Job) (may : may_come layout now (Selected job initiator (suc before) step id, deck) ≡ true) where
  pub may-so : MayContinue layout now.tables job initiator (suc before) step id
  may-so =
      may-continue layout now.tables job initiator (suc before) step id (λ none. zero-not-suc before (sym none))
      (follows-of layout now (Selected job initiator (suc before) step id) deck may)

  pub by-continued : (Q : TablesModel → Type 0) → ((row : RunRow) (back : Back) → GoesBack job step may-so.owned row back → Q (after_put_back row may-so.owned back now.tables))
      → Q (after_event (Selected job initiator (suc before) step id) deck now.tables)
  by-continued Q each =
      subst Q (sym (after-selected layout now.tables job initiator before step id deck may-so))
      (by-point layout now kept job initiator before step Q id may-so each)

  abbrev pub later : Office
  later = office_after (Selected job initiator (suc before) step id, deck) now

  -- the run has its row, which keeps its number, and others keep theirs
  module _ (row : RunRow) (back : Back) (goes : GoesBack job step may-so.owned row back) where
    abbrev pub tables_back : TablesModel
    tables_back = after_put_back row may-so.owned back now.tables

    abbrev pub row_back : RunRow
    row_back = record row { place = Some back.place; count = back.count; passed = back.passed }

    pub row-here : run_of tables_back job ≡ Some row_back
    row-here = run-same (record now.tables { sets = sets_back row may-so.owned back now.tables.sets }) row_back may-so.row job may-so.row_at goes.number

    pub row-there : (number : ℕ) → number ≢ job → run_of tables_back number ≡ run_of now.tables number
    row-there number apart = run-other (record now.tables { sets = sets_back row may-so.owned back now.tables.sets }) row_back number (λ same. apart (same ∙ goes.number))

    pub number-back : (other : RunRow) → run_of tables_back job ≡ Some other → other.number ≡ job
    number-back other e = ap (λ (row : RunRow). row.number) (some-one other row_back (run_of tables_back job) e row-here) ∙ goes.number

  pub number-behind : (row : RunRow) → run_of later.tables job ≡ Some row → row.number ≡ job
  number-behind = by-continued (λ tables. (row : RunRow) → run_of tables job ≡ Some row → row.number ≡ job) number-back

  pub rows-behind : (number : ℕ) → number ≢ job → run_of later.tables number ≡ run_of now.tables number
  rows-behind = by-continued (λ tables. (number : ℕ) → number ≢ job → run_of tables number ≡ run_of now.tables number) row-there

  -- no other run's leg changes, and it had none
  pub none-led : leg_of now job ≡ None
  none-led = unled layout now kept job initiator before step id may-so

  pub legs-behind : (run : ℕ) → run ≢ job → leg_of later run ≡ leg_of now run
  legs-behind = legs-apart now later.tables job number-behind

  pub apart-led : (run : ℕ) → is_some (leg_of now run) ≡ true → run ≢ job
  apart-led run led same = false≢true (sym (ap is_some (ap (leg_of now) same ∙ none-led)) ∙ led)

-- ---- the data sets

-- each is part of an earlier one
pub continued-from : (layout : Layout) (now : Office) → IsAgreed layout now → (job initiator before step : ℕ) (id : Option Name) (deck : Option Job) → may_come layout now (Selected job initiator (suc before) step id, deck) ≡ true
    → (name : Name) (table : TableSet) → entry_at (office_after (Selected job initiator (suc before) step id, deck) now).tables.sets name ≡ Some table → StaysFrom now.tables.sets name table
continued-from layout now kept job initiator before step id deck may name table =
    by-continued layout now kept job initiator before step id deck may (λ tables. entry_at tables.sets name ≡ Some table → StaysFrom now.tables.sets name table)
    (λ row back goes. back-from row (may-so layout now kept job initiator before step id deck may).owned back now.tables name table)

-- what is committed stays so
pub continued-stays : (layout : Layout) (now : Office) (image : List ℕ) (job initiator before step : ℕ) (id : Option Name) (deck : Option Job) → IsKept layout now → may_come layout now (Selected job initiator (suc before) step id, deck) ≡ true
    → IsKept layout (office_after (Selected job initiator (suc before) step id, deck) now) → HasCommitted layout now image → HasCommitted layout (office_after (Selected job initiator (suc before) step id, deck) now) image
continued-stays layout now image job initiator before step id deck kept may next had =
    all-stay layout now (office_after (Selected job initiator (suc before) step id, deck) now) image kept next stay had
    (continued-from layout now kept.events job initiator before step id deck may)
  where
    stay : LegsStay now (office_after (Selected job initiator (suc before) step id, deck) now)
    stay run led =
        legs-behind layout now kept.events job initiator before step id deck may run
        (apart-led layout now kept.events job initiator before step id deck may run led)

module _ (layout : Layout) (now : Office) (kept : IsKept layout now) (job initiator before step : ℕ) (id : Option Name) (deck : Option Job) (may : may_come layout now (Selected job initiator (suc before) step id, deck) ≡ true) where
  -- Where it has gone back, what it doesn't reach is as it was: no other holder reaches a name that it reaches.
  module _ (row : RunRow) (back : Back) (goes : GoesBack job step (may-so layout now kept.events job initiator before step id deck may).owned row back) where
    abbrev owned : OwnedStep
    owned = (may-so layout now kept.events job initiator before step id deck may).owned

    abbrev tables : TablesModel
    tables = tables_back layout now kept.events job initiator before step id deck may row back goes

    abbrev mine : RunRow
    mine = row_back layout now kept.events job initiator before step id deck may row back goes

    abbrev behind : Office
    behind = office_selected now job tables

    here : run_of tables job ≡ Some mine
    here = row-here layout now kept.events job initiator before step id deck may row back goes

    out-stays : (name : Name) → is_among (own_names row) name ≡ false → is_among (names_of row.job.root owned) name ≡ false → entry_at tables.sets name ≡ entry_at now.tables.sets name
    out-stays name own step_out =
        put_back-apart back.marks (output_names row.job.root owned) back.needed (removed_all back.removed now.tables.sets) name
        (neither (output_names row.job.root owned) _ step_out (λ among. outputs-among row.job.root owned name among)) (neither back.needed _ own (goes.needed name))
        ∙ at-removed_all back.removed now.tables.sets name
        ∙ ap (λ b. cond b None (entry_at now.tables.sets name)) (neither back.removed _ step_out (goes.removed name))
      where
        neither : (names : List Name) (other : Bool) → other ≡ false → (is_among names name ≡ true → other ≡ true) → is_among names name ≡ false
        neither names other none own = bool-cases (is_among names name) (λ among. absurd (false≢true (sym none ∙ own among))) (λ e. e)

    others-back : IsKept layout behind → (number : ℕ) (fellow : RunRow) (leg : Leg) (name : Name) → IsHolder now number fellow leg → number ≢ job → is_among leg.reach name ≡ true → entry_at tables.sets name ≡ entry_at now.tables.sets name
    others-back next number fellow leg name holder apart among =
        is_some-true (leg_of behind job) (next.events.led job mine here goes.holds)
        (λ own leg_at.
        let runs : IsHolder behind job mine own = record { row_at = here; holds = goes.holds; leg_at = leg_at } in
        let theirs : IsHolder behind number fellow leg = record {
          row_at = row-there layout now kept.events job initiator before step id deck may row back goes number apart ∙ holder.row_at;
          holds = holder.holds;
          leg_at = legs-apart now tables job (number-back layout now kept.events job initiator before step id deck may row back goes) number apart ∙ holder.leg_at;
        } in
        let place : IsAtPlace tables mine own = next.events.places job mine own runs in
        let unreached : is_among own.reach name ≡ false =
        bool-cases (is_among own.reach name)
        (λ reached. absurd (false≢true (sym (next.events.alone job number mine fellow own leg name runs theirs (λ same. apart (sym same)) goes.restart reached) ∙ among)))
        (λ e. e) in
        out-stays name
        (bool-cases (is_among (own_names row) name) (λ its. absurd (false≢true (sym unreached ∙ place.own name its))) (λ e. e))
        (bool-cases (is_among (names_of row.job.root owned) name)
        (λ its.
        absurd (false≢true (
        sym unreached
        ∙ (place.ahead step owned name (subst (λ n. n ≤ step) (sym goes.stands) (omega arith))
        (ap (λ (job : Effective). step_at job step) place.job ∙ goes.found)
        (ap (λ (job : Effective). is_among (names_of job.root owned) name) place.job ∙ its)).0)))
        (λ e. e)))

  -- it leaves what its fellows reach
  pub others-continued : IsKept layout (office_after (Selected job initiator (suc before) step id, deck) now) → LeavesOthers now job (office_after (Selected job initiator (suc before) step id, deck) now)
  others-continued =
      by-continued layout now kept.events job initiator before step id deck may
      (λ tables. IsKept layout (office_selected now job tables) → (number : ℕ) (fellow : RunRow) (leg : Leg) (name : Name) → IsHolder now number fellow leg → number ≢ job → is_among leg.reach name ≡ true → entry_at tables.sets name ≡ entry_at now.tables.sets name)
      others-back
